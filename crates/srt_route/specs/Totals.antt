-- Sums of the counts of sessions.
use Rattle.std.specs.Prelude.{◌≡◌, ℕ, zero, suc, ◌+◌, ◌-◌, ◌^◌, min, Option, None, Some, List, [], ◌∷◌}
use Rattle.srt_types.specs.Terms.{Terms}
use Rattle.srt_pub.specs.declared.counts.Counts.{Counts as Received}
use Rattle.srt_sub.specs.declared.counts.Counts.{Counts as Queued}
use Rattle.srt_sub.specs.declared.counts.Sendings.{Sendings}
use Rattle.srt_route.specs.declared.ledger.EndCause.{EndCause}
use Rattle.srt_route.specs.declared.ledger.EndedSession.{EndedSession}
use Rattle.srt_route.specs.declared.route.Route.{Route as TheRoute}
use Rattle.srt_route.specs.declared.totals.Totals.{Totals}
use Rattle.srt_route.specs.declared.view.SessionView.{SessionView}
use Rattle.srt_route.specs.declared.view.Traffic.{Traffic}
use Rattle.srt_route.specs.declared.view.Traffic.TheVariants as of
use Rattle.srt_route.specs.Sessions.{Session}
use Rattle.srt_route.specs.Viewing.{ShowsSession}

-- the sum of two counts, which saturates at 2^64 - 1
abbrev pub both : ℕ → ℕ → ℕ
both a b = min (2 ^ 64 - 1) (a + b)

abbrev pub both_received : Received → Received → Received
both_received a b =
    record {
      arrived = both a.arrived b.arrived;
      late = both a.late b.late;
      ahead = both a.ahead b.ahead;
      received = both a.received b.received;
      bytes = both a.bytes b.bytes;
      delivered = both a.delivered b.delivered;
      given_up = both a.given_up b.given_up;
      naks = both a.naks b.naks;
      reported_lost = both a.reported_lost b.reported_lost;
      full_window_acks = both a.full_window_acks b.full_window_acks;
    }

abbrev pub both_queued : Queued → Queued → Queued
both_queued a b =
    record {
      queued = both a.queued b.queued;
      bytes = both a.bytes b.bytes;
      naks = both a.naks b.naks;
      given_up = both a.given_up b.given_up;
      misdirected = both a.misdirected b.misdirected;
    }

abbrev pub both_sent : Sendings → Sendings → Sendings
both_sent a b = record { fresh = both a.fresh b.fresh; resent = both a.resent b.resent }

-- totals with the counts of one more session
abbrev pub with_traffic : Traffic → Totals → Totals
with_traffic (of.Received x) t = record { received = both_received t.received x.counts; queued = t.queued; sent = t.sent }
with_traffic (of.Sent x) t = record { received = t.received; queued = both_queued t.queued x.counts; sent = both_sent t.sent x.sendings }

-- the totals of no session
abbrev pub no_totals : Totals
no_totals =
    record {
      received = record {
        arrived = 0;
        late = 0;
        ahead = 0;
        received = 0;
        bytes = 0;
        delivered = 0;
        given_up = 0;
        naks = 0;
        reported_lost = 0;
        full_window_acks = 0;
      };
      queued = record { queued = 0; bytes = 0; naks = 0; given_up = 0; misdirected = 0 };
      sent = record { fresh = 0; resent = 0 };
    }

-- the sums after a session ended, if it did: its counts are added as they are recorded
abbrev pub with_end : Option EndCause → Option EndedSession → Totals → Totals
with_end None x t = t
with_end (Some cause) None t = t
with_end (Some cause) (Some x) t = with_traffic x.view.traffic t

-- the same of the sessions in the slots below a number, once each
abbrev pub sums_to : (cause : ℕ → Option EndCause) → (ended : ℕ → Option EndedSession) → (slots : ℕ) → Totals → Totals
sums_to cause ended zero t = t
sums_to cause ended (suc slots) t = with_end (cause slots) (ended slots) (sums_to cause ended slots t)

-- the new sums are the old ones with the counts of some sessions added, so sums never decrease
abbrev pub with_all : List Traffic → Totals → Totals
with_all [] t = t
with_all (x ∷ xs) t = with_traffic x (with_all xs t)

abbrev pub SumsGrow : (old new : Totals) → Type 0
SumsGrow old new = (added : List Traffic) × (new ≡ with_all added old)

abbrev pub with_shown : Option SessionView → Totals → Totals
with_shown None t = t
with_shown (Some v) t = with_traffic v.traffic t

-- the sums of the counts of ended sessions
abbrev pub totals_of_ended : TheRoute → Totals
totals_of_ended r = r.ledger.totals

-- totals with the counts of the open sessions in the slots below a number, each from its snapshot
pub record AddsOne (e : Terms) (index slot : ℕ) (sessions : List Session) (Before : Totals → Type 0) (all : Totals) : Type 0 where
  pub before : Totals
  pub shown : Option SessionView
  pub before_is : Before before
  pub shows : ShowsSession e index slot sessions shown
  pub all_is : all ≡ with_shown shown before

abbrev pub AddUp : (e : Terms) (index : ℕ) → List Session → (slots : ℕ) → (ended all : Totals) → Type 0
AddUp e index sessions zero ended all = all ≡ ended
AddUp e index sessions (suc slots) ended all = AddsOne e index slots sessions (λ before. AddUp e index sessions slots ended before) all
