-- The sessions that end in an event, the causes, and what is kept of them.
use Rattle.std.specs.Prelude.{◌≡◌, ℕ, Bool, true, false, Option, None, Some, Result, Ok, Err, List, find, not, ◌==◌, ◌&&◌, if◌then◌else◌}
use Rattle.srt_types.specs.declared.shared.Callers.{Callers}
use Rattle.srt_types.specs.declared.shared.Callers.TheVariants.{Draft, Libsrt}
use Rattle.srt_types.specs.declared.shared.Peer.{Peer}
use Rattle.srt_types.specs.Terms.{Terms}
use Rattle.srt_types.specs.Items.{Item, Received, Tick, Close}
use Rattle.srt_packet.specs.declared.reading.PacketFault.{PacketFault}
use Rattle.srt_packet.specs.Grammar.{Packet, Body}
use Rattle.srt_packet.specs.Reading.{packet_in}
use Rattle.srt_pub.specs.Calls as publisher
use Rattle.srt_route.specs.declared.ledger.EndCause.{EndCause}
use Rattle.srt_route.specs.declared.ledger.EndCause.TheVariants as causes
use Rattle.srt_route.specs.declared.ledger.EndedSession.{EndedSession}
use Rattle.srt_route.specs.declared.ledger.Ledger.{Ledger}
use Rattle.srt_route.specs.declared.route.Route.{Route as TheRoute}
use Rattle.srt_route.specs.declared.table.Table.{Table}
use Rattle.srt_route.specs.declared.totals.Totals.{Totals}
use Rattle.srt_route.specs.Past.{Past, Publishes, Subscribes, Agreed, has_left, took_past}
use Rattle.srt_route.specs.Sessions.{Session, is_draining, is_open_in, is_over, advanced, stamp_in, terms_of, time_in}
use Rattle.srt_route.specs.Route.{Route, is_for, after_delivery, clock_after, heard_by, delivered, drain_of, has_whole_file, is_file_over, taken}
use Rattle.srt_route.specs.Tables.{IsTable}
use Rattle.srt_route.specs.Totals.{sums_to}
use Rattle.srt_route.specs.Viewing.{IsView}
use Rattle.srt_route.specs.Ledgers.{cause_of, drained_cause, file_cause, shutdown_cause, heard_at_end, entry_of, time_cause}

-- what a route keeps of ended sessions: the one that ended last in each slot, and the sums of the counts of all
pub record Kept : Type 0 where
  pub ended : (slot : ℕ) → Option EndedSession
  pub totals : Totals

abbrev pub kept_of : Ledger → Kept
kept_of ledger = record { ended = entry_of ledger; totals = ledger.totals }

abbrev pub kept_in : TheRoute → Kept
kept_in r = kept_of r.ledger

-- a session that ends, with the time at which its peer was last heard
abbrev pub at_end : EndCause → (moment : ℕ) → Session → Session
at_end cause moment s = record s { heard = heard_at_end cause s.heard moment }

-- `x` reports the end of session `s`, one of these: its cause, its time, and a snapshot of the session as it ends, without the
-- length of its keys
pub record IsEnd (e : Terms) (index : ℕ) (sessions : List Session) (cause : EndCause) (moment : ℕ) (s : Session) (x : EndedSession) : Type 0 where
  pub cause_is : x.cause ≡ cause
  pub moment_is : x.moment ≡ moment
  pub view_is : IsView e index sessions (at_end cause moment s) x.view
  pub keys_is : x.view.key_length ≡ None

abbrev pub EndIs : (e : Terms) (index : ℕ) → List Session → EndCause → (moment : ℕ) → Session → Option EndedSession → Type 0
EndIs e index sessions cause moment s None = ⊥
EndIs e index sessions cause moment s (Some x) = IsEnd e index sessions cause moment s x

-- the change of a slot's entry: it becomes the end of the slot's session if there is a cause, otherwise it stays
abbrev pub EndsFor : (e : Terms) (index : ℕ) → List Session → Option EndCause → (moment : ℕ) → Session → (old new : Option EndedSession) → Type 0
EndsFor e index sessions None moment s old new = new ≡ old
EndsFor e index sessions (Some cause) moment s old new = EndIs e index sessions cause moment s new

-- how sessions end in a part of an event: the cause for which a session ends, and the session as it is then
pub record Ending : Type 0 where
  pub cause : Session → Option EndCause
  pub last : Session → Session

-- the change of a slot's entry; if the slot is free, it stays
abbrev pub EndsIn : (e : Terms) (index : ℕ) → List Session → Ending → (moment : ℕ) → Option Session → (old new : Option EndedSession) → Type 0
EndsIn e index sessions ending moment None old new = new ≡ old
EndsIn e index sessions ending moment (Some s) old new = EndsFor e index sessions (ending.cause s) moment (ending.last s) old new

-- the cause for which the session of a slot ends, if one is open there
abbrev pub cause_in : (Session → Option EndCause) → Option Session → Option EndCause
cause_in cause None = None
cause_in cause (Some s) = cause s

abbrev pub cause_of_slot : (Session → Option EndCause) → List Session → (slot : ℕ) → Option EndCause
cause_of_slot cause sessions slot = cause_in cause (find (is_open_in slot) sessions)

-- the changes of what is kept, in a part of an event that begins with these sessions: every session that ends is
-- recorded in its slot's entry, and its counts are added to the sums
pub record EndsAre (e : Terms) (index : ℕ) (ending : Ending) (moment : ℕ) (sessions : List Session) (old new : Kept) : Type 0 where
  pub entries : (at : ℕ) → EndsIn e index sessions ending moment (find (is_open_in at) sessions) (old.ended at) (new.ended at)
  pub sums : new.totals ≡ sums_to (cause_of_slot ending.cause sessions) new.ended e.sessions old.totals

-- the causes for which time ends a session, and for which a packet does
abbrev pub idle_end : (clock : ℕ) → Session → Option EndCause
idle_end clock s = if is_over s clock then Some (time_cause s.drains) else None

abbrev pub packet_end : Agreed → (initial : ℕ) → Body → Past → Option EndCause
packet_end terms initial body (Publishes m) = cause_of (publisher.ended terms.publisher initial body m)
packet_end terms initial body (Subscribes m) = shutdown_cause body

-- no cause if the session drains from then on
abbrev pub cause_unless : (drains : Option ℕ) → Option EndCause → Option EndCause
cause_unless None cause = cause
cause_unless (Some until) cause = None

-- the cause for which a packet ends a session: it can only end the one that it is for
abbrev pub arrived_end : (e : Terms) (index clock : ℕ) → Peer → Packet → List Session → Session → Option EndCause
arrived_end e index clock peer packet sessions s =
    if is_for index peer packet.dest s
    then cause_unless (drain_of e clock packet.body sessions (Some s)) (packet_end (terms_of e s) s.conclusion.initial packet.body s.past)
    else None

-- the same of a packet with any destination and of a datagram: those with destination 0, and those that aren't packets,
-- end no session
abbrev pub destined_end : (e : Terms) (index clock : ℕ) → Peer → Packet → List Session → Session → Option EndCause
destined_end e index clock peer packet sessions s = if packet.dest == 0 then None else arrived_end e index clock peer packet sessions s

abbrev pub read_end : (e : Terms) (index clock : ℕ) → Peer → Result Packet PacketFault → List Session → Session → Option EndCause
read_end e index clock peer (Ok packet) sessions s = destined_end e index clock peer packet sessions s
read_end e index clock peer (Err fault) sessions s = None

-- the cause for which an item ends a session: a Close ends every one
abbrev pub item_end : (e : Terms) (index clock : ℕ) → Item → List Session → Session → Option EndCause
item_end e index clock (Received datagram moment) sessions s = read_end e index clock datagram.peer (packet_in datagram.bytes) sessions s
item_end e index clock (Tick moment) sessions s = None
item_end e index clock (Close moment) sessions s = Some causes.Closed

-- how sessions end by time, and by an item, which includes a packet that ends a session
abbrev pub idle_ending : (clock : ℕ) → Ending
idle_ending clock = record { cause = idle_end clock; last = λ s. s }

abbrev pub after_packet : Terms → (clock : ℕ) → Packet → Session → Session
after_packet e clock packet s =
    record s { past = took_past (terms_of e s) s.conclusion.initial (time_in s clock) (stamp_in s packet.stamp) packet.body s.past }

abbrev pub after_read : Terms → (clock : ℕ) → Result Packet PacketFault → Session → Session
after_read e clock (Ok packet) s = after_packet e clock packet s
after_read e clock (Err fault) s = s

abbrev pub after_item : Terms → (clock : ℕ) → Item → Session → Session
after_item e clock (Received datagram moment) s = after_read e clock (packet_in datagram.bytes) s
after_item e clock (Tick moment) s = s
after_item e clock (Close moment) s = s

abbrev pub arrived_ending : (e : Terms) (index clock : ℕ) → Peer → Packet → List Session → Ending
arrived_ending e index clock peer packet sessions =
    record { cause = arrived_end e index clock peer packet sessions; last = after_packet e clock packet }

abbrev pub destined_ending : (e : Terms) (index clock : ℕ) → Peer → Packet → List Session → Ending
destined_ending e index clock peer packet sessions =
    record { cause = destined_end e index clock peer packet sessions; last = after_packet e clock packet }

abbrev pub read_ending : (e : Terms) (index clock : ℕ) → Peer → Result Packet PacketFault → List Session → Ending
read_ending e index clock peer read sessions = record { cause = read_end e index clock peer read sessions; last = after_read e clock read }

abbrev pub item_ending : (e : Terms) (index clock : ℕ) → Item → List Session → Ending
item_ending e index clock item sessions = record { cause = item_end e index clock item sessions; last = after_item e clock item }

-- the sessions after the publishers' deliveries
abbrev pub passed_at : (e : Terms) (index clock : ℕ) → Item → List Session → List Session
passed_at e index clock item sessions = after_delivery e clock (taken e index clock item (advanced e clock sessions)).sessions

-- how sessions end after the deliveries: on a route for libsrt callers, those that have drained
abbrev pub drained_end : Terms → Session → Option EndCause
drained_end e s = drained_cause (is_draining s && not (has_left (terms_of e s) s.past))

abbrev pub settled_end : Callers → Terms → Session → Option EndCause
settled_end Draft e s = None
settled_end Libsrt e s = drained_end e s

abbrev pub settled_ending : Callers → Terms → Ending
settled_ending callers e = record { cause = settled_end callers e; last = λ s. s }

-- how sessions end at the end of an event: the subscribers' that have the whole file
abbrev pub file_ending : (over : Bool) → Ending
file_ending over = record { cause = λ s. file_cause (has_whole_file over s); last = λ s. s }

-- the changes of what is kept by an item on a route that wasn't closed, in the four parts of the event in which
-- sessions end: time, the item, the deliveries, and the end
pub record EndsInEvent (e : Terms) (index clock : ℕ) (item : Item) (sessions : List Session) (old new : Kept) : Type 0 where
  pub kept_after_time : Kept
  pub kept_after_item : Kept
  pub kept_after_delivery : Kept
  pub by_time : EndsAre e index (idle_ending clock) clock sessions old kept_after_time
  pub by_item : EndsAre e index (item_ending e index clock item (advanced e clock sessions)) clock (advanced e clock sessions) kept_after_time kept_after_item
  pub by_delivery : EndsAre e index (settled_ending e.rules.callers e) clock
      (delivered e clock (taken e index clock item (advanced e clock sessions)).sessions) kept_after_item kept_after_delivery
  pub by_end : EndsAre e index (file_ending (is_file_over e (passed_at e index clock item sessions))) clock (passed_at e index clock item sessions)
      kept_after_delivery new

-- after a route was closed nothing changes
pub record StaysKept (old new : Kept) : Type 0 where
  pub ended : (slot : ℕ) → new.ended slot ≡ old.ended slot
  pub totals : new.totals ≡ old.totals

abbrev pub KeepsEndsIf : (is_closed : Bool) → (e : Terms) (index clock : ℕ) → Item → List Session → (old new : Kept) → Type 0
KeepsEndsIf true e index clock item sessions old new = StaysKept old new
KeepsEndsIf false e index clock item sessions old new = EndsInEvent e index clock item sessions old new

-- the changes of what is kept by an item, where `route` is the route before it
abbrev pub KeepsEnds : (e : Terms) (index : ℕ) → Item → Route → (old new : Kept) → Type 0
KeepsEnds e index item route old new =
    KeepsEndsIf route.is_closed e index (clock_after item route) (heard_by e index item route) route.sessions old new

-- the changes in a part of an event, for all sessions that a table represents
abbrev pub Ends : (clock : ℕ) → (ending : (e : Terms) (index : ℕ) → List Session → Ending) → Table → (old new : Ledger) → Type 0
Ends clock ending table old new =
    (e : Terms) (index : ℕ) (sessions : List Session)
    → IsTable e index clock table sessions → EndsAre e index (ending e index sessions) clock sessions (kept_of old) (kept_of new)
