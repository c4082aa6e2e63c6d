-- Draining publishers' sessions, in terms of a route's table.
use Rattle.std.specs.Prelude.{◌≡◌, ℕ, ◌+◌, Bool, true, false, Option, None, Some, List, find, map, not, slice_index_or, ◌&&◌}
use Rattle.srt_types.specs.declared.shared.Callers.TheVariants.{Libsrt}
use Rattle.srt_types.specs.Terms.{Terms}
use Rattle.srt_packet.specs.Grammar.{Body}
use Rattle.srt_pub.specs.declared.session.Publisher.{Publisher}
use Rattle.srt_route.specs.declared.seat.Seat.{Seat}
use Rattle.srt_route.specs.declared.ledger.Ledger.{Ledger}
use Rattle.srt_route.specs.declared.table.Table.{Table}
use Rattle.srt_route.specs.Past.{has_left, is_shutdown}
use Rattle.srt_route.specs.Sessions.{Session, is_active, is_draining, is_open_in, is_publisher, settled, terms_of}
use Rattle.srt_route.specs.Route.{after_delivery, delivered, drain_if, drain_of, gives_some, settled_by}
use Rattle.srt_route.specs.Ends.{EndsAre, kept_of, settled_ending}
use Rattle.srt_route.specs.Tables.{IsSeat, IsTable, buffers_of}
use Rattle.srt_route.specs.inside.Calls.{TableBecomes}

-- the time until which the publisher of slot `at` drains after a packet, if it drains
abbrev pub Drains : (at : ℕ) → Body → (clock : ℕ) → Table → Option ℕ → Type 0
Drains at body clock table drains =
    (e : Terms) (index : ℕ) (sessions : List Session) (s : Session)
    → IsTable e index clock table sessions → find (is_open_in at) sessions ≡ Some s → is_publisher s ≡ true
    → drains ≡ drain_of e clock body sessions (Some s)

-- whether the active publisher delivers something
abbrev pub GivesSome : (clock : ℕ) → Table → Bool → Type 0
GivesSome clock table given = (e : Terms) (index : ℕ) (sessions : List Session) → IsTable e index clock table sessions → given ≡ gives_some e clock sessions

-- the same on a route for libsrt callers
abbrev pub DrainsFrom : (at : ℕ) → Body → (clock : ℕ) → Table → Option ℕ → Type 0
DrainsFrom at body clock table drains =
    (e : Terms) (index : ℕ) (sessions : List Session) (s : Session)
    → IsTable e index clock table sessions → find (is_open_in at) sessions ≡ Some s → is_publisher s ≡ true
    → drains ≡ drain_if Libsrt (is_shutdown body && is_active sessions s && has_left (terms_of e s) s.past)
    (clock + (terms_of e s).publisher.delay + 5_000_000)

-- a fact about the open session of every slot that a seat with one of these buffers can represent
abbrev pub TellsOf : List Publisher → Seat → (fact : Terms → Option Session → Type 0) → Type 0
TellsOf publishers seat fact =
    (e : Terms) (index clock at : ℕ) (p : Publisher) (sessions : List Session)
    → IsSeat e index clock at (buffers_of publishers seat p) seat sessions → fact e (find (is_open_in at) sessions)

-- whether a session has something left to deliver
abbrev pub left_in : Terms → Option Session → Bool
left_in e None = false
left_in e (Some s) = has_left (terms_of e s) s.past

abbrev pub HasLeft : (at : ℕ) → Table → Bool → Type 0
HasLeft at table left = (d : Seat) → TellsOf table.publishers.items (slice_index_or table.seats.items at d) (λ e o. left ≡ left_in e o)

-- whether a session drains and has nothing left
abbrev pub drained_in : Terms → Option Session → Bool
drained_in e None = false
drained_in e (Some s) = is_draining s && not (has_left (terms_of e s) s.past)

abbrev pub IsDrained : (at : ℕ) → Table → Bool → Type 0
IsDrained at table ends = (d : Seat) → TellsOf table.publishers.items (slice_index_or table.seats.items at d) (λ e o. ends ≡ drained_in e o)

-- the sessions after the deliveries of an event, and the recorded ends
abbrev pub SettlesTo : (clock : ℕ) → (delivered : Bool) → (old new : Table) → Type 0
SettlesTo clock given old new = TableBecomes clock old new (λ e. map (settled e given clock))

abbrev pub EndsDrained : (clock : ℕ) → Table → (old new : Ledger) → Type 0
EndsDrained clock table old new =
    (e : Terms) (index : ℕ) (sessions : List Session)
    → IsTable e index clock table sessions → EndsAre e index (settled_ending Libsrt e) clock sessions (kept_of old) (kept_of new)

abbrev pub DeliversAndSettles : (clock : ℕ) → (old new : Table) → Type 0
DeliversAndSettles clock old new = TableBecomes clock old new (λ e. after_delivery e clock)

abbrev pub EndsSettled : (clock : ℕ) → Table → (old new : Ledger) → Type 0
EndsSettled clock table old new =
    (e : Terms) (index : ℕ) (sessions : List Session)
    → IsTable e index clock table sessions
    → EndsAre e index (settled_ending e.rules.callers e) clock (delivered e clock sessions) (kept_of old) (kept_of new)

-- the same on a route for libsrt callers
abbrev pub DeliversAndEnds : (clock : ℕ) → (old new : Table) → Type 0
DeliversAndEnds clock old new =
    TableBecomes clock old new (λ e sessions. settled_by Libsrt e clock (gives_some e clock sessions) (delivered e clock sessions))

abbrev pub EndsAtDelivery : (clock : ℕ) → Table → (old new : Ledger) → Type 0
EndsAtDelivery clock table old new =
    (e : Terms) (index : ℕ) (sessions : List Session)
    → IsTable e index clock table sessions
    → EndsAre e index (settled_ending Libsrt e) clock (delivered e clock sessions) (kept_of old) (kept_of new)
