-- When all packets in flight are sent again, and how often.
use Rattle.std.specs.Prelude.{◌≡◌, ℕ, ◌+◌, ◌*◌, ◌^◌, ◌<◌, ◌≤◌, Bool, true, false, ◌&&◌, ◌==◌, min, List, ◌/◌, length, nat_lt, nat_le, Some}
use Rattle.srt_sendbuf.specs.Sending.{front, next, lost}
use Rattle.srt_sub.specs.Subscribing.{Terms, Subscribing, resend_due, presumed, reports, reported, resend_timeout, quiet_time}
use Rattle.srt_sub.specs.Subscribing.{tries, with_ack}
use Rattle.srt_sub.specs.Stands.{ForWhatever}
use Rattle.srt_sub.specs.declared.resend_all.Resending.TheVariants.{AtEachTimeout, Once, BackingOff}
use Rattle.srt_sub.specs.declared.session.Subscriber.{Subscriber}

-- in a session that resends all once, all packets in flight were marked as lost at most once since the last ACK that
-- acknowledged more: so at most once between two such ACKs, and at most once before the first
abbrev pub ResendsAllOnce : Subscriber → Type 0
ResendsAllOnce s = ForWhatever s (λ terms initial opening caller last m. terms.resending ≡ Once → tries m.notes ≤ 1)

-- each time that all packets in flight are marked as lost counts, and an ACK that acknowledges more begins anew
pub record CountsTries : Type 0 where
  pub due : (terms : Terms) (time : ℕ) (recent : Bool) (s : Subscribing)
      → resend_due terms time recent s ≡ true → tries (presumed terms time recent s).notes ≡ tries s.notes + 1
  pub growth : (time n : ℕ) (more : List ℕ) (s : Subscribing) → s.sending.acked < n → tries (with_ack time more (Some n) s).notes ≡ 0

-- the time since the last data packet and the last growth at which all is sent again: for a session that resends once
-- the timeout and half the delay, and none before; else the timeout, doubled for each time since the last growth, but
-- at most six times
pub record WaitsLongEnough : Type 0 where
  pub once : (terms : Terms) (time : ℕ) (recent : Bool) (s : Subscribing)
      → terms.resending ≡ Once → resend_due terms time recent s ≡ true
      → (tries s.notes ≡ 0) × (resend_timeout s.notes ≤ quiet_time time s.notes) × (terms.delay / 2 ≤ quiet_time time s.notes)
  pub backing : (terms : Terms) (time : ℕ) (recent : Bool) (s : Subscribing)
      → terms.resending ≡ BackingOff → resend_due terms time recent s ≡ true
      → resend_timeout s.notes * 2 ^ min (tries s.notes) 6 ≤ quiet_time time s.notes

-- without a packet from the caller for a second, nothing is marked as lost at an event's end, except with the rule that
-- resends at each timeout
abbrev pub IsStillInSilence : Type 0
IsStillInSilence = (terms : Terms) (time : ℕ) (s : Subscribing) → (terms.resending ≡ AtEachTimeout → ⊥) → presumed terms time false s ≡ s

-- with the rule that resends at each timeout, all is sent again after the timeout, whenever the caller was heard, and
-- however often it was sent again before
pub record ResendsAtEachTimeout : Type 0 where
  pub due : (terms : Terms) (time : ℕ) (recent : Bool) (s : Subscribing) → terms.resending ≡ AtEachTimeout
      → resend_due terms time recent s
      ≡ (nat_lt (front s.sending) (next s.sending) && (length (lost s.sending) == 0) && nat_le (resend_timeout s.notes) (quiet_time time s.notes))
  pub reports : (terms : Terms) (time : ℕ) (s : Subscribing)
      → terms.resending ≡ AtEachTimeout → reports terms time true s ≡ reports terms time false s
  pub reported : (terms : Terms) (time : ℕ) (s : Subscribing)
      → terms.resending ≡ AtEachTimeout → reported terms time true s ≡ reported terms time false s
