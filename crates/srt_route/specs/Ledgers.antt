-- The ended sessions that a route keeps, and its counts.
use Rattle.std.specs.Prelude.{◌≡◌, ℕ, ◌+◌, ◌-◌, ◌^◌, min, Bool, true, false, Option, None, Some, slice_index_or, if◌then◌else◌}
use Rattle.srt_hs.specs.declared.refusal_codes.RefusalCode.{RefusalCode}
use Rattle.srt_hs.specs.declared.refusal_codes.RefusalCode.TheVariants as codes
use Rattle.srt_route.specs.declared.refusals.RefusalCause.{RefusalCause}
use Rattle.srt_route.specs.declared.refusals.RefusalCause.TheVariants as refusals
use Rattle.srt_packet.specs.Grammar.{Body, Shutdown}
use Rattle.srt_pub.specs.declared.ends.PubEnd.{PubEnd}
use Rattle.srt_pub.specs.declared.ends.PubEnd.TheVariants as ends
use Rattle.srt_route.specs.declared.seat.Session.{Session as TheSession}
use Rattle.srt_route.specs.declared.route.Route.{Route as TheRoute}
use Rattle.srt_route.specs.declared.ledger.EndCause.{EndCause}
use Rattle.srt_route.specs.declared.ledger.EndCause.TheVariants as causes
use Rattle.srt_route.specs.declared.ledger.EndedSession.{EndedSession}
use Rattle.srt_route.specs.declared.ledger.Ledger.{Ledger}
use Rattle.srt_route.specs.declared.ledger.Refusals.{Refusals}
use Rattle.srt_route.specs.Parts.{until_of}
use Rattle.srt_route.specs.Tables.{is_stored_over}
use Rattle.srt_route.specs.Totals.{both}

-- the session that ended last in a slot
abbrev pub entry_of : Ledger → (at : ℕ) → Option EndedSession
entry_of ledger at = slice_index_or ledger.ended at None

-- the causes of an end: by a packet, by time, by a Close, after draining, by the end of a file
abbrev pub cause_of : Option PubEnd → Option EndCause
cause_of None = None
cause_of (Some ends.Shutdown) = Some causes.Shutdown
cause_of (Some ends.WindowLost) = Some causes.WindowLost

abbrev pub shutdown_cause : Body → Option EndCause
shutdown_cause Shutdown = Some causes.Shutdown
shutdown_cause _ = None

abbrev pub time_cause : (drains : Option ℕ) → EndCause
time_cause None = causes.Silence
time_cause (Some until) = causes.DrainedTooLong

abbrev pub idle_cause : (clock : ℕ) → Option TheSession → Option EndCause
idle_cause clock None = None
idle_cause clock (Some t) = if is_stored_over clock t then Some (time_cause (until_of t.part)) else None

abbrev pub closed_cause : Option TheSession → Option EndCause
closed_cause o = Some causes.Closed

abbrev pub drained_cause : (ends : Bool) → Option EndCause
drained_cause true = Some causes.Drained
drained_cause false = None

abbrev pub file_cause : (whole : Bool) → Option EndCause
file_cause true = Some causes.FileEnded
file_cause false = None

-- the time at which the peer of an ended session was last heard; if a packet ended the session, the time of its end
abbrev pub heard_at_end : EndCause → (heard moment : ℕ) → ℕ
heard_at_end causes.Shutdown heard moment = moment
heard_at_end causes.WindowLost heard moment = moment
heard_at_end causes.Silence heard moment = heard
heard_at_end causes.Closed heard moment = heard
heard_at_end causes.FileEnded heard moment = heard
heard_at_end causes.Drained heard moment = heard
heard_at_end causes.DrainedTooLong heard moment = heard

-- the counts of openings and refusals stay
abbrev pub CountsStay : (old new : Ledger) → Type 0
CountsStay old new = (new.opened ≡ old.opened) × (new.refusals ≡ old.refusals)

-- one more session, and one more refusal; each count saturates at 2^64 - 1
abbrev pub more : ℕ → ℕ
more n = min (2 ^ 64 - 1) (n + 1)

abbrev pub with_opening : Ledger → Ledger
with_opening ledger = record ledger { opened = more ledger.opened }

abbrev pub refusals_with : RefusalCause → Refusals → Refusals
refusals_with refusals.Peer r = record r { peer = more r.peer }
refusals_with refusals.Address r = record r { address = more r.address }
refusals_with refusals.Resource r = record r { resource = more r.resource }
refusals_with refusals.Reserved r = record r { reserved = more r.reserved }
refusals_with refusals.Rogue r = record r { rogue = more r.rogue }
refusals_with refusals.MessageApi r = record r { message_api = more r.message_api }
refusals_with refusals.Secret r = record r { secret = more r.secret }

abbrev pub with_refusal : RefusalCause → Ledger → Ledger
with_refusal cause ledger = record ledger { refusals = refusals_with cause ledger.refusals }

-- the number of conclusions refused for this cause, and with this code
abbrev pub refused_for : RefusalCause → Refusals → ℕ
refused_for refusals.Peer r = r.peer
refused_for refusals.Address r = r.address
refused_for refusals.Resource r = r.resource
refused_for refusals.Reserved r = r.reserved
refused_for refusals.Rogue r = r.rogue
refused_for refusals.MessageApi r = r.message_api
refused_for refusals.Secret r = r.secret

abbrev pub refused_by : RefusalCode → Refusals → ℕ
refused_by codes.Peer r = r.peer
refused_by codes.Resource r = both (both r.resource r.address) r.reserved
refused_by codes.Rogue r = r.rogue
refused_by codes.MessageApi r = r.message_api
refused_by codes.BadSecret r = r.secret
refused_by _ r = 0

-- what a route keeps of ended sessions, and its counts
abbrev pub ended_in : (slot : ℕ) → TheRoute → Option EndedSession
ended_in slot r = entry_of r.ledger slot

abbrev pub opened_in : TheRoute → ℕ
opened_in r = r.ledger.opened

abbrev pub refused_in : RefusalCode → TheRoute → ℕ
refused_in code r = refused_by code r.ledger.refusals

abbrev pub refused_of : RefusalCause → TheRoute → ℕ
refused_of cause r = refused_for cause r.ledger.refusals
