-- A model of the whole gateway: one step for each event (our choice). Lists of events, and of applied and accepted
-- items, have the newest first; queues and lists of what was sent have the oldest first.
--
-- The model doesn't fix the behaviour of routes and lobby: a route's meaning is its replies to all its items, and the
-- lobby's is the class of each datagram with the names in force.
use Rattle.std.specs.Prelude.{◌≡◌, ℕ, zero, suc, ◌==◌, Bool, true, false, Option, None, Some, Result, Ok, Err, List, [], ◌∷◌, ◌++◌, map}
use Rattle.std.specs.Prelude.{length, slice_index_or, nat_lt, if◌then◌else◌}
use Rattle.srt_types.specs.declared.shared.Mode.TheVariants.{Live}
use Rattle.srt_types.specs.declared.shared.OpenFault.{OpenFault}
use Rattle.srt_types.specs.declared.shared.OpenFault.TheVariants as faults
use Rattle.srt_types.specs.declared.shared.Turned.{Turned}
use Rattle.srt_types.specs.declared.shared.Turned.TheVariants.{Moved, Applied, Blocked, Idle}
use Rattle.srt_lobby.specs.declared.classes.Class.{Class}
use Rattle.srt_lobby.specs.declared.classes.Class.TheVariants.{Answer, Route, Dropped}
use Rattle.srt_lobby.specs.Changing.{fault_of_adding}
use Rattle.srt_lobby.specs.Names.{RouteName}
use Rattle.srt_hub.specs.declared.answers.Arrived.{Arrived}
use Rattle.srt_hub.specs.declared.answers.Arrived.TheVariants as arrived
use Rattle.srt_hub.specs.declared.answers.Ticked.{Ticked}
use Rattle.srt_hub.specs.declared.answers.Ticked.TheVariants as ticked
use Rattle.srt_hub.specs.declared.answers.Closing.{Closing}
use Rattle.srt_hub.specs.declared.answers.Closing.TheVariants as closings
use Rattle.srt_types.specs.Items.{Datagram, Item, Received, Tick, Close}
use Rattle.srt_types.specs.Access.{anyone}
use Rattle.srt_types.specs.Entries.{draft_rules}
use Rattle.srt_types.specs.Terms.{Terms}

-- the events of the gateway; if `refused`, the copy of an arrival, or a route that opens, couldn't be allocated
pub data Event : Type 0 where
  Arrives : (datagram : Datagram) (moment : ℕ) (refused : Bool) → Event
  Ticks : (route moment : ℕ) → Event
  Turns : (route : ℕ) → Event
  Sends : (route : ℕ) → Event
  Opens : (entry : Terms) (refused : Bool) → Event
  Closes : (route moment : ℕ) → Event

-- the class of a datagram, which depends on the names in force, with their lists and keys, and on nothing else
abbrev pub Sorting : Type 0
Sorting = (names : List RouteName) → Datagram → (moment : ℕ) → Class

-- the replies of a route with these terms and this index to the newest of all its items
abbrev pub Meaning : Type 0
Meaning = Terms → (index : ℕ) → List Item → List Datagram

-- all replies of a route to its items, the oldest first
abbrev pub solo : Meaning → Terms → (index : ℕ) → List Item → List Datagram
solo reply e r [] = []
solo reply e r (item ∷ items) = solo reply e r items ++ reply e r (item ∷ items)

-- one route and its queues
pub record Lane : Type 0 where
  pub inbox : List Item
  pub applied : List Item
  pub waiting : List Datagram
  pub outbox : List Datagram

abbrev pub empty : Lane
empty = record { inbox = []; applied = []; waiting = []; outbox = [] }

-- the place of a route that was opened: its entry, and whether it is visible. A hidden route never becomes visible
-- again, and its place stays
pub record Place : Type 0 where
  pub entry : Terms
  pub is_shown : Bool

-- the gateway: the places of its routes in the order of their indexes, and each route with its queues
pub record World : Type 0 where
  pub places : List Place
  pub lane : (index : ℕ) → Lane

-- the place of a route that was just opened, which is visible
abbrev pub opened : Terms → Place
opened e = record { entry = e; is_shown = true }

-- the place with this index; there is no route at an index that wasn't opened
abbrev pub place_in : World → (r : ℕ) → Place
place_in w r =
    slice_index_or w.places r
    (record {
      entry = record { name = []; mode = Live; latency_ms = 0; buffer = 0; sessions = 0; inbox = 0; outbox = 0; access = anyone; rules = draft_rules };
      is_shown = false;
    })

abbrev pub entry_in : World → (r : ℕ) → Terms
entry_in w r = (place_in w r).entry

abbrev pub is_shown_in : World → (r : ℕ) → Bool
is_shown_in w r = (place_in w r).is_shown

abbrev pub is_there : World → (r : ℕ) → Bool
is_there w r = nat_lt r (length w.places)

-- the names in force, each with the lists and keys of its route
abbrev pub name_at : Place → RouteName
name_at p = record { text = p.entry.name; is_shown = p.is_shown; access = p.entry.access }

abbrev pub names_in : World → List RouteName
names_in w = map name_at w.places

-- the step of one route for an event
pub data Step : Type 0 where
  Offers : (item : Item) → Step
  Turn : Step
  Send : Step
  Nothing : Step

abbrev pub is_route : ℕ → Class → Bool
is_route r (Route s) = s == r
is_route r (Answer bytes) = false
is_route r (Dropped cause) = false

abbrev pub offer_unless : (refused : Bool) → Item → Step
offer_unless refused item = if refused then Nothing else Offers item

abbrev pub offer_if : (shown : Bool) → Item → Step
offer_if shown item = if shown then Offers item else Nothing

-- the step of an existing route for an event; a closing is an item of the route, unless it is hidden
abbrev pub own_step : Sorting → World → ℕ → Event → Step
own_step class w r (Arrives d moment refused) = if is_route r (class (names_in w) d moment) then offer_unless refused (Received d moment) else Nothing
own_step class w r (Ticks s moment) = if s == r then Offers (Tick moment) else Nothing
own_step class w r (Turns s) = if s == r then Turn else Nothing
own_step class w r (Sends s) = if s == r then Send else Nothing
own_step class w r (Opens e refused) = Nothing
own_step class w r (Closes s moment) = if s == r then offer_if (is_shown_in w r) (Close moment) else Nothing

-- the step of a route for an event; none if the route doesn't exist
abbrev pub step_for : Sorting → World → ℕ → Event → Step
step_for class w r event = if is_there w r then own_step class w r event else Nothing

abbrev pub has_room : Terms → Lane → Bool
has_room e m = nat_lt (length m.inbox) e.inbox

-- an item is appended to the inbox, if there is room
abbrev pub offered : Terms → Item → Lane → Lane
offered e item m = if has_room e m then record m { inbox = m.inbox ++ item ∷ [] } else m

-- a waiting reply is moved first; an item is processed only if none waits
abbrev pub turned_by : Meaning → Terms → ℕ → List Datagram → List Item → Lane → Lane
turned_by reply e r (d ∷ ds) inbox m = if nat_lt (length m.outbox) e.outbox then record m { waiting = ds; outbox = m.outbox ++ d ∷ [] } else m
turned_by reply e r [] (x ∷ xs) m = record m { inbox = xs; applied = x ∷ m.applied; waiting = reply e r (x ∷ m.applied) }
turned_by reply e r [] [] m = m

abbrev pub turn_by : Terms → List Datagram → List Item → Lane → Turned
turn_by e (d ∷ ds) inbox m = if nat_lt (length m.outbox) e.outbox then Moved else Blocked
turn_by e [] (x ∷ xs) m = Applied
turn_by e [] [] m = Idle

abbrev pub turned : Meaning → Terms → ℕ → Lane → Lane
turned reply e r m = turned_by reply e r m.waiting m.inbox m

abbrev pub turn : Terms → Lane → Turned
turn e m = turn_by e m.waiting m.inbox m

abbrev pub without_first : List Datagram → List Datagram
without_first [] = []
without_first (d ∷ ds) = ds

abbrev pub first : List Datagram → Option Datagram
first [] = None
first (d ∷ ds) = Some d

abbrev pub sent_from : Lane → Lane
sent_from m = record m { outbox = without_first m.outbox }

-- the route and its queues after a step
abbrev pub after_step : Meaning → Terms → ℕ → Step → Lane → Lane
after_step reply e r (Offers item) m = offered e item m
after_step reply e r Turn m = turned reply e r m
after_step reply e r Send m = sent_from m
after_step reply e r Nothing m = m

-- the result of an opening: the next index, or a fault; the entry's, given the names in force, precedes lack of memory
abbrev pub opening_of : (next : ℕ) → (refused : Bool) → Option OpenFault → Result ℕ OpenFault
opening_of next refused (Some fault) = Err fault
opening_of next refused None = if refused then Err faults.OutOfMemory else Ok next

abbrev pub opening : World → Terms → (refused : Bool) → Result ℕ OpenFault
opening w e refused = opening_of (length w.places) refused (fault_of_adding (names_in w) e)

abbrev pub places_opened : Terms → List Place → Result ℕ OpenFault → List Place
places_opened e places (Ok next) = places ++ opened e ∷ []
places_opened e places (Err fault) = places

-- the result of a closing: `Closed` if the route is hidden, otherwise `Accepted` or `Full` by the route's own inbox
abbrev pub closing_of : (shown room : Bool) → Closing
closing_of shown room = if shown then (if room then closings.Accepted else closings.Full) else closings.Closed

abbrev pub closing : World → (r : ℕ) → Closing
closing w r = closing_of (is_shown_in w r) (has_room (entry_in w r) (w.lane r))

-- a place that is hidden keeps its entry
abbrev pub hidden : Place → Place
hidden p = record p { is_shown = false }

abbrev pub hidden_at : (r : ℕ) → List Place → List Place
hidden_at r [] = []
hidden_at zero (p ∷ places) = hidden p ∷ places
hidden_at (suc r) (p ∷ places) = p ∷ hidden_at r places

-- a route is hidden only if its closing is accepted
abbrev pub places_closed : (r : ℕ) → List Place → Closing → List Place
places_closed r places closings.Accepted = hidden_at r places
places_closed r places closings.Full = places
places_closed r places closings.Closed = places

abbrev pub places_after : Event → World → List Place
places_after (Arrives d moment refused) w = w.places
places_after (Ticks r moment) w = w.places
places_after (Turns r) w = w.places
places_after (Sends r) w = w.places
places_after (Opens e refused) w = places_opened e w.places (opening w e refused)
places_after (Closes r moment) w = places_closed r w.places (closing w r)

-- the gateway after an event: each route makes its step
abbrev pub after : Sorting → Meaning → Event → World → World
after class reply event w = record {
  places = places_after event w;
  lane = λ r. after_step reply (entry_in w r) r (step_for class w r event) (w.lane r);
}

-- the gateway that was opened with these entries, after these events
abbrev pub world_after : Sorting → Meaning → (entries : List Terms) → List Event → World
world_after class reply entries [] = record { places = map opened entries; lane = λ r. empty }
world_after class reply entries (event ∷ events) = after class reply event (world_after class reply entries events)

-- the items that a step adds to the inbox, and the datagrams that it sends
abbrev pub takes_in : Terms → Step → Lane → List Item
takes_in e (Offers item) m = if has_room e m then item ∷ [] else []
takes_in e Turn m = []
takes_in e Send m = []
takes_in e Nothing m = []

abbrev pub listed : Option Datagram → List Datagram
listed None = []
listed (Some d) = d ∷ []

abbrev pub sends_out : Step → Lane → List Datagram
sends_out (Offers item) m = []
sends_out Turn m = []
sends_out Send m = listed (first m.outbox)
sends_out Nothing m = []

-- the items that entered the inbox of route r, the newest first
abbrev pub accepted : Sorting → Meaning → List Terms → ℕ → List Event → List Item
accepted class reply entries r [] = []
accepted class reply entries r (event ∷ events) =
    let w = world_after class reply entries events in
    takes_in (entry_in w r) (step_for class w r event) (w.lane r) ++ accepted class reply entries r events

-- the datagrams that were sent for route r, the oldest first
abbrev pub sent : Sorting → Meaning → List Terms → ℕ → List Event → List Datagram
sent class reply entries r [] = []
sent class reply entries r (event ∷ events) =
    let w = world_after class reply entries events in
    sent class reply entries r events ++ sends_out (step_for class w r event) (w.lane r)

-- nothing of the route waits
pub record IsQuiet (m : Lane) : Type 0 where
  pub inbox : m.inbox ≡ []
  pub waiting : m.waiting ≡ []
  pub outbox : m.outbox ≡ []

-- the result of each event. An arrival's result depends on a route only if its class is that route
abbrev pub offered_to : (r : ℕ) → (room : Bool) → Arrived
offered_to r room = if room then arrived.Accepted r else arrived.Full r

abbrev pub arrival_of : (refused : Bool) → (rooms : ℕ → Bool) → Class → Option Arrived
arrival_of refused rooms (Answer bytes) = Some (arrived.Answer bytes)
arrival_of refused rooms (Dropped cause) = Some (arrived.Dropped cause)
arrival_of refused rooms (Route r) = if refused then None else Some (offered_to r (rooms r))

abbrev pub tick : Terms → Lane → Ticked
tick e m = if has_room e m then ticked.Accepted else ticked.Full
