-- What is recorded of the sessions of a table that end.
use Rattle.std.specs.Prelude.{◌≡◌, ◌≢◌, ℕ, ◌<◌, ◌≤◌, Option, None, Some, List, length, slice_get, slice_index_or, ⊤}
use Rattle.std.specs.Option.{is_some}
use Rattle.srt_pub.specs.declared.session.Publisher.{Publisher}
use Rattle.srt_sub.specs.declared.session.Subscriber.{Subscriber}
use Rattle.srt_route.specs.declared.ledger.EndCause.{EndCause}
use Rattle.srt_route.specs.declared.ledger.EndedSession.{EndedSession}
use Rattle.srt_route.specs.declared.ledger.Ledger.{Ledger}
use Rattle.srt_route.specs.declared.publisher_buffers.PublisherBuffers.{PublisherBuffers}
use Rattle.srt_route.specs.declared.seat.Seat.{Seat}
use Rattle.srt_route.specs.declared.seat.Session.{Session as TheSession}
use Rattle.srt_route.specs.declared.table.Table.{Table}
use Rattle.srt_route.specs.declared.view.SessionView.{SessionView}
use Rattle.srt_route.specs.Ledgers.{CountsStay, entry_of, heard_at_end}
use Rattle.srt_route.specs.Parts.{role_of, until_of}
use Rattle.srt_route.specs.Tables.{buffers_of}
use Rattle.srt_route.specs.Totals.{sums_to, with_end}
use Rattle.srt_route.specs.Viewing.{TellsTraffic, latency_in}
use Rattle.srt_route.specs.inside.Standby.{active_in, is_active_by}

-- `v` is a snapshot of a stored session that has these buffers and whose peer was heard at this time, where the active
-- publisher has the buffers `active`
pub record IsSeen (active : Option PublisherBuffers) (p : Publisher) (x : Subscriber) (t : TheSession) (heard : ℕ) (v : SessionView) : Type 0 where
  pub peer_is : v.peer ≡ t.peer
  pub caller_is : v.caller ≡ t.caller
  pub id_is : v.id ≡ t.id
  pub role_is : v.role ≡ role_of t.part
  pub active_is : v.is_active ≡ is_active_by active t
  pub draining_is : v.is_draining ≡ is_some (until_of t.part)
  pub opened_is : v.opened ≡ t.opened
  pub heard_is : v.heard ≡ heard
  pub latency_is : v.latency_ms ≡ latency_in (role_of t.part) t.answer
  pub keys_is : v.key_length ≡ None
  pub traffic_is : TellsTraffic (role_of t.part) p x v.traffic

-- the same of a seat's session, or None if none is open there
abbrev pub Sees : (active : Option PublisherBuffers) → List Publisher → Seat → Option TheSession → Option SessionView → Type 0
Sees active publishers seat None None = ⊤
Sees active publishers seat (Some t) (Some v) = (p : Publisher) → IsSeen active (buffers_of publishers seat p) seat.subscriber t t.heard v
Sees active publishers seat None (Some v) = ⊥
Sees active publishers seat (Some t) None = ⊥

abbrev pub SeesSeat : (active : Option PublisherBuffers) → List Publisher → Seat → Option SessionView → Type 0
SeesSeat active publishers seat shown = Sees active publishers seat seat.session shown

abbrev pub SeesSlot : (active : Option PublisherBuffers) → (slot : ℕ) → Table → Option SessionView → Type 0
SeesSlot active slot table shown = (d : Seat) → SeesSeat active table.publishers.items (slice_index_or table.seats.items slot d) shown

-- `x` reports the end of such a session
pub record IsEndOf (cause : EndCause) (moment : ℕ) (active : Option PublisherBuffers) (p : Publisher) (b : Subscriber) (t : TheSession) (x : EndedSession)
    : Type 0 where
  pub cause_is : x.cause ≡ cause
  pub moment_is : x.moment ≡ moment
  pub view_is : IsSeen active p b t (heard_at_end cause t.heard moment) x.view

abbrev pub TellsEnd : (active : Option PublisherBuffers) → List Publisher → EndCause → (moment : ℕ) → Seat → TheSession → Option EndedSession → Type 0
TellsEnd active publishers cause moment seat t None = ⊥
TellsEnd active publishers cause moment seat t (Some x) =
    (p : Publisher) → IsEndOf cause moment active (buffers_of publishers seat p) seat.subscriber t x

-- the change of a slot's entry: it becomes the end of its session if there is a cause, and stays if there is none
abbrev pub TellsOf : (active : Option PublisherBuffers) → List Publisher → Option EndCause → (moment : ℕ) → Seat → Option TheSession
    → (old new : Option EndedSession) → Type 0
TellsOf active publishers None moment seat o old new = new ≡ old
TellsOf active publishers (Some cause) moment seat None old new = new ≡ old
TellsOf active publishers (Some cause) moment seat (Some t) old new = TellsEnd active publishers cause moment seat t new

abbrev pub Tells : (active : Option PublisherBuffers) → List Publisher → Option EndCause → (moment : ℕ) → Seat → (old new : Option EndedSession) → Type 0
Tells active publishers cause moment seat old new = TellsOf active publishers cause moment seat seat.session old new

-- the cause for which a seat's session ends; none if no session is open there
abbrev pub cause_if : Option EndCause → Option TheSession → Option EndCause
cause_if cause None = None
cause_if cause (Some t) = cause

-- the end of one seat's session is recorded, if there is a cause: in the slot's entry, and in the sums
pub record NotesAt (active : Option PublisherBuffers) (publishers : List Publisher) (at : ℕ) (cause : Option EndCause) (moment : ℕ) (seat : Seat)
    (old new : Ledger)
    : Type 0 where
  pub notified : Tells active publishers cause moment seat (entry_of old at) (entry_of new at)
  pub others : (k : ℕ) → k ≢ at → entry_of new k ≡ entry_of old k
  pub counts : CountsStay old new
  pub sums : new.totals ≡ with_end (cause_if cause seat.session) (entry_of new at) old.totals

-- the same of the seat that a table has in this slot
abbrev pub NotesBy : (active : Option PublisherBuffers) → (at : ℕ) → Option EndCause → (moment : ℕ) → Table → (old new : Ledger) → Type 0
NotesBy active at cause moment table old new =
    (d : Seat) → NotesAt active table.publishers.items at cause moment (slice_index_or table.seats.items at d) old new

abbrev pub Notes : (at : ℕ) → Option EndCause → (moment : ℕ) → Table → (old new : Ledger) → Type 0
Notes at cause moment table old new = NotesBy (active_in table) at cause moment table old new

-- the cause for which the session of a slot ends, if one is open there
abbrev pub cause_of_seat : (cause : Option TheSession → Option EndCause) → Option Seat → Option EndCause
cause_of_seat cause None = None
cause_of_seat cause (Some seat) = cause_if (cause seat.session) seat.session

abbrev pub cause_at : (cause : Option TheSession → Option EndCause) → List Seat → (at : ℕ) → Option EndCause
cause_at cause seats at = cause_of_seat cause (slice_get seats at)

-- the end of each session of a table for which there is a cause is recorded
pub record NotesEach (cause : Option TheSession → Option EndCause) (moment : ℕ) (table : Table) (old new : Ledger) : Type 0 where
  pub notified : (at : ℕ) (d : Seat) → at < length table.seats.items
      → Tells (active_in table) table.publishers.items (cause (slice_index_or table.seats.items at d).session) moment (slice_index_or table.seats.items at d)
      (entry_of old at) (entry_of new at)
  pub others : (at : ℕ) → length table.seats.items ≤ at → entry_of new at ≡ entry_of old at
  pub counts : CountsStay old new
  pub sums : new.totals ≡ sums_to (cause_at cause table.seats.items) (entry_of new) (length table.seats.items) old.totals
