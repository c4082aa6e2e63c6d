-- In buffer mode, everything acknowledged to a publisher has been delivered once its session ends by its own SHUTDOWN.
use Rattle.std.specs.Prelude.{None, ◌==◌, if◌then◌else◌, ◌≡◌, ℕ, ◌+◌, ◌<◌, ◌≤◌, ⊤, Bool, true, false, Option, Some, List, [], ◌∷◌, ◌++◌, length, map}
use Rattle.std.specs.Prelude.{find}
use Rattle.srt_types.specs.declared.shared.Mode.TheVariants.{Buffer}
use Rattle.srt_types.specs.declared.shared.Callers.TheVariants.{Libsrt}
use Rattle.srt_types.specs.declared.shared.Peer.{Peer}
use Rattle.srt_types.specs.Terms.{Terms}
use Rattle.srt_types.specs.Items.{Item}
use Rattle.srt_types.specs.Runs.{numbers_from}
use Rattle.srt_recvbuf.specs.Receiving.{Arrival, Receiving, ack_point, is_received}
use Rattle.srt_packet.specs.Grammar.{Packet}
use Rattle.srt_pub.specs.Heard.{Heard}
use Rattle.srt_pub.specs.Publishing as publisher
use Rattle.srt_pub.specs.Publishing.{Note, Arrived, Sent, Confirmed, Report, FullAck, LightAck, Publishing}
use Rattle.srt_pub.specs.Stands.{Each}
use Rattle.srt_route.specs.Past.{Past, Publishes, Subscribes, is_shutdown}
use Rattle.srt_route.specs.Queues.{payload_in, queue_in}
use Rattle.srt_route.specs.Sessions.{Session, advanced, is_active, is_draining, passed, settled, terms_of, time_in, took}
use Rattle.srt_route.specs.Route.{Route, after, clock_after, delivered, delivery, drain_of, gives_some, is_for, least_room, room_if, route_before, taken_by}

-- the acknowledgement point in a report, if it is a Full or a Light ACK
abbrev pub points_in : Report → List ℕ
points_in (FullAck index point round_trip variance available rates) = point ∷ []
points_in (LightAck point) = point ∷ []
points_in _ = []

-- all acknowledgement points sent to a publisher
abbrev pub points_reported : List Note → List ℕ
points_reported [] = []
points_reported (Arrived time region put ∷ notes) = points_reported notes
points_reported (Sent time report ∷ notes) = points_in report ++ points_reported notes
points_reported (Confirmed time stamp full sample ∷ notes) = points_reported notes

-- each of these numbers is at most n
abbrev pub AreAtMost : List ℕ → ℕ → Type 0
AreAtMost [] n = ⊤
AreAtMost (point ∷ points) n = (point ≤ n) × AreAtMost points n

-- no acknowledgement point sent to a publisher is past its present one, which never decreases
abbrev pub IsReportedIn : (width : ℕ) → Past → Type 0
IsReportedIn width (Publishes p) = AreAtMost (points_reported p.notes) (ack_point width p.receiving)
IsReportedIn width (Subscribes m) = ⊤

abbrev pub IsReported : Terms → Session → Type 0
IsReported e s = IsReportedIn e.buffer s.past

abbrev pub PointsStay : Type 0
PointsStay = (e : Terms) (index : ℕ) (items : List Item) → e.mode ≡ Buffer → Each (IsReported e) (after e index items).sessions

-- these packets have the numbers from the front on, one after another, and the front moves past the last of them
abbrev pub number_in : Arrival → ℕ
number_in a = a.number

pub record IsInOrder (given : List Arrival) (r s : Receiving) : Type 0 where
  pub numbers_are : map number_in given ≡ numbers_from r.front (length given)
  pub front_is : s.front ≡ r.front + length given

-- a publisher delivers in this order at any time and with any room: no number is omitted, and none is delivered again
abbrev pub DeliversOnIn : publisher.Terms → Past → Type 0
DeliversOnIn terms (Publishes p) =
    (time : ℕ) (room : Option ℕ)
    → IsInOrder (publisher.deliveries terms.mode terms time room p) p.receiving (publisher.delivered terms time room p).receiving
DeliversOnIn terms (Subscribes m) = ⊤

abbrev pub DeliversOn : Terms → Session → Type 0
DeliversOn e s = DeliversOnIn (terms_of e s).publisher s.past

abbrev pub DeliversInOrder : Type 0
DeliversInOrder =
    (e : Terms) (index : ℕ) (items : List Item) (item : Item)
    → e.mode ≡ Buffer → Each (DeliversOn e) (taken_by e index item (route_before e index item items)).sessions

-- the session that was opened after k others
abbrev pub opened_as : (k : ℕ) → List Session → Option Session
opened_as k [] = None
opened_as k (s ∷ older) = if length older == k then Some s else opened_as k older

-- the numbers of the packets that a session delivers in an event, where `sessions` are all sessions
abbrev pub numbers_in : publisher.Terms → (time : ℕ) → (room : Option ℕ) → Past → List ℕ
numbers_in terms time room (Publishes p) = map number_in (publisher.deliveries terms.mode terms time room p)
numbers_in terms time room (Subscribes m) = []

abbrev pub numbers_of : Terms → (clock : ℕ) → List Session → Option Session → List ℕ
numbers_of e clock sessions None = []
numbers_of e clock sessions (Some s) =
    if s.is_open then numbers_in (terms_of e s).publisher (time_in s clock) (room_if (is_active sessions s) (least_room e sessions)) s.past else []

abbrev pub numbers_at : (is_closed : Bool) → Terms → (index : ℕ) → Item → Route → (k : ℕ) → List ℕ
numbers_at true e index item m k = []
numbers_at false e index item m k =
    let sessions = (taken_by e index item m).sessions in numbers_of e (clock_after item m) sessions (opened_as k sessions)

-- the numbers of all packets that the session opened after k others delivered, the first one first
abbrev pub numbers_delivered : Terms → (index : ℕ) → List Item → (k : ℕ) → List ℕ
numbers_delivered e index [] k = []
numbers_delivered e index (item ∷ items) k =
    let m = route_before e index item items in numbers_delivered e index items k ++ numbers_at m.is_closed e index item m k

-- in buffer mode these are all numbers below its front, in order and each once
abbrev pub AreAllBelow : (numbers : List ℕ) → Past → Type 0
AreAllBelow numbers (Publishes p) = numbers ≡ numbers_from 0 p.receiving.front
AreAllBelow numbers (Subscribes m) = numbers ≡ []

abbrev pub DeliversAll : Type 0
DeliversAll =
    (e : Terms) (index : ℕ) (items : List Item) (k : ℕ) (s : Session)
    → e.mode ≡ Buffer → opened_as k (after e index items).sessions ≡ Some s → AreAllBelow (numbers_delivered e index items k) s.past

-- in buffer mode only the active publisher delivers
abbrev pub OneAloneDelivers : Type 0
OneAloneDelivers =
    (e : Terms) (clock : ℕ) (sessions : List Session) (s : Session)
    → e.mode ≡ Buffer → is_active sessions s ≡ false → numbers_of e clock sessions (Some s) ≡ []

-- each subscriber that is open while an event delivers gets all payloads that the active publisher delivers, in order
abbrev pub GetsAll : (given : List (List ℕ)) → (old new : Past) → Type 0
GetsAll given (Publishes p) new = ⊤
GetsAll given (Subscribes m) new = map payload_in (queue_in new) ≡ map payload_in m.sending.queue ++ given

abbrev pub IsFed : Terms → (clock : ℕ) → List Session → Session → Type 0
IsFed e clock sessions s =
    let room = least_room e sessions in
    let given = delivery e clock room sessions in
    s.is_open ≡ true → GetsAll given s.past (passed e clock (room_if (is_active sessions s) room) given s).past

abbrev pub FeedsAll : Type 0
FeedsAll = (e : Terms) (clock : ℕ) (sessions : List Session) → e.mode ≡ Buffer → Each (IsFed e clock sessions) sessions

-- in buffer mode no packet that arrives moves the front
abbrev pub FrontsStay : Type 0
FrontsStay =
    (terms : publisher.Terms) (time stamp : ℕ) (heard : Heard) (p : Publishing)
    → terms.mode ≡ Buffer → (publisher.took terms time stamp heard p).receiving.front ≡ p.receiving.front

-- every number below each point sent to the publisher is below the front, and all numbers below the front were received
pub record IsDelivered (p : Publishing) : Type 0 where
  pub points : AreAtMost (points_reported p.notes) p.receiving.front
  pub below : (n : ℕ) → n < p.receiving.front → is_received p.receiving n ≡ true

abbrev pub HasDeliveredIn : Past → Type 0
HasDeliveredIn (Publishes p) = IsDelivered p
HasDeliveredIn (Subscribes m) = ⊤

abbrev pub HasDelivered : Session → Type 0
HasDelivered s = HasDeliveredIn s.past

-- if the active publisher's session ends at once by its own SHUTDOWN, it has delivered everything acknowledged to it
abbrev pub EndsAtOnce : Type 0
EndsAtOnce =
    (e : Terms) (index : ℕ) (items : List Item) (item : Item) (peer : Peer) (packet : Packet) (s : Session)
    → e.mode ≡ Buffer → e.rules.callers ≡ Libsrt
    → let clock = clock_after item (after e index items) in
    let sessions = advanced e clock (route_before e index item items).sessions in
    let drains = drain_of e clock packet.body sessions (Some s) in
    find (is_for index peer packet.dest) sessions ≡ Some s → is_active sessions s ≡ true → is_shutdown packet.body ≡ true
    → (took drains e clock packet.stamp packet.body s).is_open ≡ false → HasDelivered (took drains e clock packet.stamp packet.body s)

-- if a draining session ends after the deliveries of an event, it has delivered everything acknowledged to it
abbrev pub EndsWithAll : Terms → (given : Bool) → (clock : ℕ) → Session → Type 0
EndsWithAll e given clock s =
    s.is_open ≡ true → is_draining s ≡ true → (settled e given clock s).is_open ≡ false → HasDelivered (settled e given clock s)

abbrev pub EndsDrained : Type 0
EndsDrained =
    (e : Terms) (index : ℕ) (items : List Item) (item : Item)
    → e.mode ≡ Buffer
    → let clock = clock_after item (after e index items) in
    let sessions = (taken_by e index item (route_before e index item items)).sessions in
    Each (EndsWithAll e (gives_some e clock sessions) clock) (delivered e clock sessions)
