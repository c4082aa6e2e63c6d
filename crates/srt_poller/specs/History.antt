-- The events of a poller, the oldest first, and what follows from them alone.
use Rattle.std.specs.Prelude.{◌≡◌, ◌⊎◌, ℕ, suc, ◌+◌, ◌<◌, ◌==◌, Bool, true, false, Option, None, Some, List, [], ◌∷◌, map, max, filter, if◌then◌else◌}
use Rattle.std.specs.Option.{is_some}
use Rattle.std.specs.List.{flat_map, fold, sum_by}
use Rattle.srt_types.specs.declared.shared.Schedule.{Schedule}
use Rattle.srt_types.specs.Items.{Datagram, Item, Received, Close}
use Rattle.srt_lobby.specs.Names.{RouteName, AreDistinct}
use Rattle.srt_lobby.specs.declared.classes.Class.{Class}
use Rattle.srt_lobby.specs.declared.classes.Class.TheVariants.{Answer, Route, Dropped}
use Rattle.srt_lobby.specs.declared.classes.Cause.{Cause}
use Rattle.srt_poller.specs.declared.devices.Sent.{Sent}
use Rattle.srt_poller.specs.declared.devices.Sent.TheVariants.{Taken, Later, Failed}
use Rattle.srt_poller.specs.Devices.{Arrival, handed_by_send, Attempt, attempt, Call, WaitEnded, WaitFailed, ReadGave, ReadEmpty, ReadFailed}
use Rattle.srt_poller.specs.Schedules.{CloseOffer, offered_routes, opened_if, due, begun}

-- the class that a lobby with these names assigns to a datagram that arrives at a time
abbrev pub Sorting : Type 0
Sorting = (names : List RouteName) → Datagram → (moment : ℕ) → Class

pub data Event : Type 0 where
  -- a round began: the routes that open in it became visible, those to be closed were offered Close of this time, and those whose inbox
  -- accepted it were hidden. In a round that closes all, none opens, and all visible ones are to be closed
  Begins : (closes_all : Bool) (moment : ℕ) (offers : List CloseOffer) → Event
  -- the source waited, and didn't fail
  Waits : Event
  -- a wait of the source failed
  WaitFails : Event
  -- the source was read, and returned nothing
  ReadsNothing : Event
  -- a read of the source failed
  ReadFails : Event
  -- a datagram arrived, and the lobby's answer, these bytes, was sent with this outcome
  Answers : (arrival : Arrival) (bytes : List ℕ) (sent : Sent) → Event
  -- a datagram arrived, and its route's inbox accepted it
  Accepts : (arrival : Arrival) (route : ℕ) → Event
  -- a datagram arrived, and its route's inbox was full
  Overflows : (arrival : Arrival) (route : ℕ) → Event
  -- a datagram arrived for a route, and its copy failed to allocate
  Refuses : (arrival : Arrival) (route : ℕ) → Event
  -- a datagram arrived, and the lobby dropped it
  Drops : (arrival : Arrival) (cause : Cause) → Event
  -- a reply was taken from a route's outbox, and sent with this outcome
  Sends : (route : ℕ) (reply : Datagram) (sent : Sent) → Event
  -- the reply that was kept was sent again, with this outcome
  Resends : (route : ℕ) (reply : Datagram) (sent : Sent) → Event

-- a reply whose send returned Later
pub record Kept : Type 0 where
  pub route : ℕ
  pub reply : Datagram

abbrev pub kept : ℕ → Datagram → Kept
kept route reply = record { route = route; reply = reply }

-- the reply that is kept after it was sent with this outcome
abbrev pub kept_if : Sent → Kept → Option Kept
kept_if Taken k = None
kept_if Later k = Some k
kept_if Failed k = None

-- the reply that is kept after an event
abbrev pub kept_by : Option Kept → Event → Option Kept
kept_by k (Sends route reply sent) = kept_if sent (kept route reply)
kept_by k (Resends route reply sent) = kept_if sent (kept route reply)
kept_by k _ = k

abbrev pub kept_after : Option Kept → List Event → Option Kept
kept_after k events = fold kept_by k events

-- how far a round has come
pub data Phase : Type 0 where
  -- no round has begun yet
  Between : Phase
  -- the round began, and its wait is still to come; a reply was kept then that hasn't been sent again yet
  Begun : (owes : Bool) → Phase
  -- the source waited and was read this often, and is read again
  Reading : (reads : ℕ) → Phase
  -- nothing more is read in this round: this many replies of this route were sent in it, and none of later routes
  Sending : (route sends : ℕ) → Phase

-- the phase after this many reads that returned a datagram: the 256th is the last one
abbrev pub reading : (reads : ℕ) → Phase
reading reads = if reads == 256 then Sending 0 0 else Reading reads

abbrev pub read_on : Phase → Phase
read_on (Reading reads) = reading (reads + 1)
read_on Between = Between
read_on (Begun owes) = Begun owes
read_on (Sending route sends) = Sending route sends

-- the phase after a reply of this route was sent
abbrev pub sent_on : (route : ℕ) → Phase → Phase
sent_on r (Sending route sends) = Sending r (if route == r then sends + 1 else 1)
sent_on r Between = Sending r 1
sent_on r (Begun owes) = Sending r 1
sent_on r (Reading reads) = Sending r 1

-- no round has begun, or the last one may end here
abbrev pub IsOver : Phase → Type 0
IsOver Between = Unit {0}
IsOver (Begun owes) = ⊥
IsOver (Reading reads) = ⊥
IsOver (Sending route sends) = Unit {0}

abbrev pub IsReading : Phase → Type 0
IsReading Between = ⊥
IsReading (Begun owes) = ⊥
IsReading (Reading reads) = Unit {0}
IsReading (Sending route sends) = ⊥

-- a reply of this route may be sent: it is a later one than the last, or the same and fewer than 64 of it were sent in this round
abbrev pub MaySend : Phase → (route : ℕ) → Type 0
MaySend Between r = ⊥
MaySend (Begun owes) r = ⊥
MaySend (Reading reads) r = ⊥
MaySend (Sending route sends) r = (route < r) ⊎ ((route ≡ r) × (sends < 64))

-- what the next event depends on
pub record State : Type 0 where
  -- the names in force
  pub names : List RouteName
  -- the reply that is kept
  pub kept : Option Kept
  -- the number of the source's waits so far: that of the round that began last until its wait, and of the next round after it
  pub round : ℕ
  pub phase : Phase
  -- the greatest timestamp of the source in these rounds, 0 if it has given none
  pub latest : ℕ

abbrev pub state : List RouteName → Option Kept → (round : ℕ) → Phase → (latest : ℕ) → State
state names k round phase latest = record { names = names; kept = k; round = round; phase = phase; latest = latest }

-- before the first event of a poller
abbrev pub at_first : List RouteName → State
at_first names = state names None 0 Between 0

abbrev pub names_by : List Schedule → State → Event → List RouteName
names_by schedules s (Begins closes_all moment offers) = begun closes_all s.round schedules offers s.names
names_by schedules s _ = s.names

abbrev pub round_by : (round : ℕ) → Event → ℕ
round_by round Waits = suc round
round_by round WaitFails = suc round
round_by round _ = round

-- the phase after an event, which finds a reply kept or none
abbrev pub phase_by : (is_kept : Bool) → Phase → Event → Phase
phase_by is_kept phase (Begins closes_all moment offers) = Begun is_kept
phase_by is_kept phase Waits = Reading 0
phase_by is_kept phase WaitFails = Sending 0 0
phase_by is_kept phase ReadsNothing = Sending 0 0
phase_by is_kept phase ReadFails = Sending 0 0
phase_by is_kept phase (Answers arrival bytes sent) = read_on phase
phase_by is_kept phase (Accepts arrival route) = read_on phase
phase_by is_kept phase (Overflows arrival route) = read_on phase
phase_by is_kept phase (Refuses arrival route) = read_on phase
phase_by is_kept phase (Drops arrival cause) = read_on phase
phase_by is_kept phase (Sends route reply sent) = sent_on route phase
phase_by is_kept phase (Resends route reply sent) = Begun false

abbrev pub latest_by : (latest : ℕ) → Event → ℕ
latest_by latest (Answers arrival bytes sent) = max latest arrival.moment
latest_by latest (Accepts arrival route) = max latest arrival.moment
latest_by latest (Overflows arrival route) = max latest arrival.moment
latest_by latest (Refuses arrival route) = max latest arrival.moment
latest_by latest (Drops arrival cause) = max latest arrival.moment
latest_by latest _ = latest

-- the state after an event
abbrev pub state_by : List Schedule → State → Event → State
state_by schedules s event =
    state (names_by schedules s event) (kept_by s.kept event) (round_by s.round event) (phase_by (is_some s.kept) s.phase event) (latest_by s.latest event)

abbrev pub state_after : List Schedule → State → List Event → State
state_after schedules s events = fold (state_by schedules) s events

-- the class of a datagram with the names in force
abbrev pub class_in : Sorting → State → Arrival → Class
class_in class s arrival = class s.names arrival.datagram arrival.moment

-- A round begins where none has begun or the one before is over. It makes the routes visible that open in it, no two of which then have the same name with
-- another visible one, and then offers Close, of the greatest
-- timestamp of the source, once to each visible route whose closing round is this one or an earlier one, in the order of their indexes; if it closes all,
-- it makes none visible, and offers Close so to each visible route. If a reply is kept
-- then, it is sent again, once, before the wait. The source waits once. Unless that failed, it is read until a read returns nothing or fails, or 256
-- datagrams arrived; what happens to a datagram is what its class defines. Then replies are sent in the order of their routes' indexes, at most 64 of a
-- route, and none while one is kept
abbrev pub Fits : Sorting → List Schedule → State → Event → Type 0
Fits class schedules s (Begins closes_all moment offers) =
    IsOver s.phase × (moment ≡ s.latest) × (offered_routes offers ≡ due closes_all s.round schedules (opened_if closes_all s.round schedules s.names))
    × AreDistinct (opened_if closes_all s.round schedules s.names)
Fits class schedules s Waits = s.phase ≡ Begun false
Fits class schedules s WaitFails = s.phase ≡ Begun false
Fits class schedules s ReadsNothing = IsReading s.phase
Fits class schedules s ReadFails = IsReading s.phase
Fits class schedules s (Answers arrival bytes sent) = IsReading s.phase × (class_in class s arrival ≡ Answer bytes)
Fits class schedules s (Accepts arrival route) = IsReading s.phase × (class_in class s arrival ≡ Route route)
Fits class schedules s (Overflows arrival route) = IsReading s.phase × (class_in class s arrival ≡ Route route)
Fits class schedules s (Refuses arrival route) = IsReading s.phase × (class_in class s arrival ≡ Route route)
Fits class schedules s (Drops arrival cause) = IsReading s.phase × (class_in class s arrival ≡ Dropped cause)
Fits class schedules s (Sends route reply sent) = MaySend s.phase route × (s.kept ≡ None)
Fits class schedules s (Resends route reply sent) = (s.phase ≡ Begun true) × (s.kept ≡ Some (kept route reply))

-- each event fits the state in which it happens
abbrev pub Follow : Sorting → List Schedule → State → List Event → Type 0
Follow class schedules s [] = Unit {0}
Follow class schedules s (event ∷ events) = Fits class schedules s event × Follow class schedules (state_by schedules s event) events

-- the datagrams that the source returned
abbrev pub given_by : Event → List Arrival
given_by (Answers arrival bytes sent) = arrival ∷ []
given_by (Accepts arrival route) = arrival ∷ []
given_by (Overflows arrival route) = arrival ∷ []
given_by (Refuses arrival route) = arrival ∷ []
given_by (Drops arrival cause) = arrival ∷ []
given_by _ = []

abbrev pub given : List Event → List Arrival
given events = flat_map given_by events

-- the calls of the source, with its answers
abbrev pub calls_by : Event → List Call
calls_by Waits = WaitEnded ∷ []
calls_by WaitFails = WaitFailed ∷ []
calls_by ReadsNothing = ReadEmpty ∷ []
calls_by ReadFails = ReadFailed ∷ []
calls_by (Answers arrival bytes sent) = ReadGave arrival ∷ []
calls_by (Accepts arrival route) = ReadGave arrival ∷ []
calls_by (Overflows arrival route) = ReadGave arrival ∷ []
calls_by (Refuses arrival route) = ReadGave arrival ∷ []
calls_by (Drops arrival cause) = ReadGave arrival ∷ []
calls_by (Begins closes_all moment offers) = []
calls_by (Sends route reply sent) = []
calls_by (Resends route reply sent) = []

abbrev pub calls : List Event → List Call
calls events = flat_map calls_by events

-- the sends of the wire, with their outcomes
abbrev pub attempts_by : Event → List Attempt
attempts_by (Answers arrival bytes sent) = attempt (record { peer = arrival.datagram.peer; bytes = bytes }) sent ∷ []
attempts_by (Sends route reply sent) = attempt reply sent ∷ []
attempts_by (Resends route reply sent) = attempt reply sent ∷ []
attempts_by _ = []

abbrev pub attempts : List Event → List Attempt
attempts events = flat_map attempts_by events

-- this alone, if the two routes are the same
abbrev pub at_route : {A : Type 0} → (route r : ℕ) → A → List A
at_route route r x = if route == r then x ∷ [] else []

-- the Close that this route's inbox accepted, if this offer was one
abbrev pub closing_by : (moment r : ℕ) → CloseOffer → List Item
closing_by moment r o = if o.is_accepted then at_route o.route r (Close moment) else []

abbrev pub closings : (moment r : ℕ) → List CloseOffer → List Item
closings moment r offers = flat_map (closing_by moment r) offers

-- the items that this route's inbox accepted: datagrams and Close
abbrev pub accepted_by : (r : ℕ) → Event → List Item
accepted_by r (Begins closes_all moment offers) = closings moment r offers
accepted_by r (Accepts arrival route) = at_route route r (Received arrival.datagram arrival.moment)
accepted_by r _ = []

abbrev pub accepted : (r : ℕ) → List Event → List Item
accepted r events = flat_map (accepted_by r) events

-- the replies that were taken from this route's outbox
abbrev pub drained_by : (r : ℕ) → Event → List Datagram
drained_by r (Sends route reply sent) = at_route route r reply
drained_by r _ = []

abbrev pub drained : (r : ℕ) → List Event → List Datagram
drained r events = flat_map (drained_by r) events

-- the lobby's answers whose send didn't return Later
abbrev pub answered_by : Event → List Datagram
answered_by (Answers arrival bytes sent) = handed_by_send sent (record { peer = arrival.datagram.peer; bytes = bytes })
answered_by _ = []

abbrev pub answered : List Event → List Datagram
answered events = flat_map answered_by events

-- the origin of a datagram that was sent
pub data Origin : Type 0 where
  FromLobby : Origin
  FromRoute : (route : ℕ) → Origin

pub record Handed : Type 0 where
  pub origin : Origin
  pub datagram : Datagram

abbrev pub from : Origin → Datagram → Handed
from origin datagram = record { origin = origin; datagram = datagram }

-- the datagrams whose send didn't return Later, with their origins
abbrev pub handed_by : Event → List Handed
handed_by (Answers arrival bytes sent) = handed_by_send sent (from FromLobby (record { peer = arrival.datagram.peer; bytes = bytes }))
handed_by (Sends route reply sent) = handed_by_send sent (from (FromRoute route) reply)
handed_by (Resends route reply sent) = handed_by_send sent (from (FromRoute route) reply)
handed_by _ = []

abbrev pub handed : List Event → List Handed
handed events = flat_map handed_by events

abbrev pub datagrams : List Handed → List Datagram
datagrams hs = map (λ h. h.datagram) hs

-- those of one origin
abbrev pub is_lobby : Handed → Bool
is_lobby h = elim h.origin [ FromLobby ↦ true | FromRoute route ↦ false ]

abbrev pub is_route : (r : ℕ) → Handed → Bool
is_route r h = elim h.origin [ FromLobby ↦ false | FromRoute route ↦ route == r ]

abbrev pub of_lobby : List Handed → List Datagram
of_lobby hs = datagrams (filter is_lobby hs)

abbrev pub of_route : (r : ℕ) → List Handed → List Datagram
of_route r hs = datagrams (filter (is_route r) hs)

-- the kept reply, if it is this route's
abbrev pub kept_of : (r : ℕ) → Option Kept → List Datagram
kept_of r None = []
kept_of r (Some k) = at_route k.route r k.reply

-- the number of the source's waits, of those without a failure, and of its reads
abbrev pub waits_by : Event → ℕ
waits_by Waits = 1
waits_by WaitFails = 1
waits_by _ = 0

abbrev pub waits_in : List Event → ℕ
waits_in events = sum_by waits_by events

-- the number of the rounds that close all
abbrev pub closes_all_by : Event → ℕ
closes_all_by (Begins closes_all moment offers) = if closes_all then 1 else 0
closes_all_by _ = 0

abbrev pub closes_all_in : List Event → ℕ
closes_all_in events = sum_by closes_all_by events

abbrev pub ready_by : Event → ℕ
ready_by Waits = 1
ready_by _ = 0

abbrev pub ready_in : List Event → ℕ
ready_in events = sum_by ready_by events

abbrev pub reads_by : Event → ℕ
reads_by ReadsNothing = 1
reads_by ReadFails = 1
reads_by (Answers arrival bytes sent) = 1
reads_by (Accepts arrival route) = 1
reads_by (Overflows arrival route) = 1
reads_by (Refuses arrival route) = 1
reads_by (Drops arrival cause) = 1
reads_by _ = 0

abbrev pub reads_in : List Event → ℕ
reads_in events = sum_by reads_by events
