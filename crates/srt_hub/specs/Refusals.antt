-- When something is refused, and that nothing changes then; and what the opening and the closing of a route change.
use Rattle.std.specs.Prelude.{◌≡◌, ℕ, ◌+◌, ◌⊎◌, Bool, true, false, None, Some, Ok, Err, List, [], ◌∷◌, length}
use Rattle.srt_types.specs.declared.shared.OpenFault.{OpenFault}
use Rattle.srt_types.specs.declared.shared.OpenFault.TheVariants as faults
use Rattle.srt_types.specs.declared.shared.Turned.TheVariants.{Blocked, Idle}
use Rattle.srt_lobby.specs.declared.classes.Class.TheVariants.{Answer, Route, Dropped}
use Rattle.srt_hub.specs.declared.answers.Arrived.TheVariants as arrived
use Rattle.srt_hub.specs.declared.answers.Closing.TheVariants as closings
use Rattle.srt_hub.specs.declared.answers.Ticked.TheVariants as ticked
use Rattle.srt_lobby.specs.declared.classes.Cause.{Cause}
use Rattle.srt_lobby.specs.Changing.{fault_of_adding}
use Rattle.srt_types.specs.Items.{Datagram, Close}
use Rattle.srt_types.specs.Terms.{Terms}
use Rattle.srt_hub.specs.World.{Event, Arrives, Ticks, Turns, Opens, Closes, Sorting, Meaning, empty, world_after, is_there, opening}
use Rattle.srt_hub.specs.World.{closing, accepted, sent, arrival_of, tick, turn}
use Rattle.srt_hub.specs.Hubs.{names_at, routes_at, entry_at, is_shown_at, lane_at, room_at}

-- an event that leaves every route as it is, opens none and hides none
pub record ChangesNoRoute (class : Sorting) (reply : Meaning) (entries : List Terms) (events : List Event) (event : Event) : Type 0 where
  pub lanes : (k : ℕ) → lane_at class reply entries k (event ∷ events) ≡ lane_at class reply entries k events
  pub places : (world_after class reply entries (event ∷ events)).places ≡ (world_after class reply entries events).places

-- an arrival is refused as Full only if it is that route's and that route's own inbox is full
abbrev pub FullIsAtCapacity : Type 0
FullIsAtCapacity =
    (class : Sorting) (reply : Meaning) (entries : List Terms) (events : List Event) (d : Datagram) (moment : ℕ) (refused : Bool) (r : ℕ) →
    arrival_of refused (room_at class reply entries events) (class (names_at class reply entries events) d moment) ≡ Some (arrived.Full r) →
    (class (names_at class reply entries events) d moment ≡ Route r) ×
    (length (lane_at class reply entries r events).inbox ≡ (entry_at class reply entries r events).inbox) ×
    ChangesNoRoute class reply entries events (Arrives d moment refused)

-- the same of a tick
abbrev pub FullTickIsAtCapacity : Type 0
FullTickIsAtCapacity =
    (class : Sorting) (reply : Meaning) (entries : List Terms) (events : List Event) (r moment : ℕ) →
    tick (entry_at class reply entries r events) (lane_at class reply entries r events) ≡ ticked.Full →
    (length (lane_at class reply entries r events).inbox ≡ (entry_at class reply entries r events).inbox) ×
    ChangesNoRoute class reply entries events (Ticks r moment)

-- a turn is Blocked only if a reply of the route waits and its own outbox is full
abbrev pub BlockedIsAtCapacity : Type 0
BlockedIsAtCapacity =
    (class : Sorting) (reply : Meaning) (entries : List Terms) (events : List Event) (r : ℕ) →
    turn (entry_at class reply entries r events) (lane_at class reply entries r events) ≡ Blocked →
    ((lane_at class reply entries r events).waiting ≡ [] → ⊥) ×
    (length (lane_at class reply entries r events).outbox ≡ (entry_at class reply entries r events).outbox) ×
    ChangesNoRoute class reply entries events (Turns r)

-- a turn is Idle only if no reply waits and the inbox is empty
abbrev pub IdleIsEmpty : Type 0
IdleIsEmpty =
    (class : Sorting) (reply : Meaning) (entries : List Terms) (events : List Event) (r : ℕ) →
    turn (entry_at class reply entries r events) (lane_at class reply entries r events) ≡ Idle →
    ((lane_at class reply entries r events).waiting ≡ []) × ((lane_at class reply entries r events).inbox ≡ []) ×
    ChangesNoRoute class reply entries events (Turns r)

-- an arrival ends in an error only if it is a route's and its copy couldn't be allocated
abbrev pub RefusedIsARoutes : Type 0
RefusedIsARoutes =
    (class : Sorting) (reply : Meaning) (entries : List Terms) (events : List Event) (d : Datagram) (moment : ℕ) (refused : Bool) →
    arrival_of refused (room_at class reply entries events) (class (names_at class reply entries events) d moment) ≡ None →
    ((r : ℕ) × (class (names_at class reply entries events) d moment ≡ Route r)) × (refused ≡ true) ×
    ChangesNoRoute class reply entries events (Arrives d moment refused)

-- what the lobby answers or drops depends only on its class of that one datagram, whatever the routes hold and however
-- much memory there is
abbrev pub LobbyAnswersAlone : Type 0
LobbyAnswersAlone =
    (class : Sorting) (reply : Meaning) (entries : List Terms) (events : List Event) (d : Datagram) (moment : ℕ) (refused : Bool) →
    ((bytes : List ℕ) → class (names_at class reply entries events) d moment ≡ Answer bytes →
    (arrival_of refused (room_at class reply entries events) (class (names_at class reply entries events) d moment) ≡ Some (arrived.Answer bytes)) ×
    ChangesNoRoute class reply entries events (Arrives d moment refused)) ×
    ((cause : Cause) → class (names_at class reply entries events) d moment ≡ Dropped cause →
    (arrival_of refused (room_at class reply entries events) (class (names_at class reply entries events) d moment) ≡ Some (arrived.Dropped cause)) ×
    ChangesNoRoute class reply entries events (Arrives d moment refused))

-- an opening with a fault opens nothing: the fault is that of the entry, given the names in force, or else the route
-- couldn't be allocated
abbrev pub FaultOpensNothing : Type 0
FaultOpensNothing =
    (class : Sorting) (reply : Meaning) (entries : List Terms) (events : List Event) (e : Terms) (refused : Bool) (fault : OpenFault) →
    opening (world_after class reply entries events) e refused ≡ Err fault →
    ((fault_of_adding (names_at class reply entries events) e ≡ Some fault) ⊎
    ((fault_of_adding (names_at class reply entries events) e ≡ None) × (fault ≡ faults.OutOfMemory) × (refused ≡ true)))
    ×
    ChangesNoRoute class reply entries events (Opens e refused)

-- an opening's index is the number of routes so far, including hidden ones, so no index is used again; the new route is
-- visible, with its entry, and with nothing accepted or sent
pub record HasOpened (class : Sorting) (reply : Meaning) (entries : List Terms) (events : List Event) (e : Terms) (refused : Bool) (r : ℕ) : Type 0 where
  pub index : r ≡ routes_at class reply entries events
  pub one_more : routes_at class reply entries (Opens e refused ∷ events) ≡ r + 1
  pub entry : entry_at class reply entries r (Opens e refused ∷ events) ≡ e
  pub shown : is_shown_at class reply entries r (Opens e refused ∷ events) ≡ true
  pub lane : lane_at class reply entries r (Opens e refused ∷ events) ≡ empty
  pub none_accepted : accepted class reply entries r (Opens e refused ∷ events) ≡ []
  pub none_sent : sent class reply entries r (Opens e refused ∷ events) ≡ []

abbrev pub OpeningIsNext : Type 0
OpeningIsNext =
    (class : Sorting) (reply : Meaning) (entries : List Terms) (events : List Event) (e : Terms) (refused : Bool) (r : ℕ) →
    opening (world_after class reply entries events) e refused ≡ Ok r → HasOpened class reply entries events e refused r

-- a closing is answered Closed only if the route is hidden, or was never opened
abbrev pub ClosedIsHidden : Type 0
ClosedIsHidden =
    (class : Sorting) (reply : Meaning) (entries : List Terms) (events : List Event) (r moment : ℕ) →
    closing (world_after class reply entries events) r ≡ closings.Closed →
    (is_shown_at class reply entries r events ≡ false) × ChangesNoRoute class reply entries events (Closes r moment)

-- a closing is refused as Full only if the route is visible and its own inbox is full; the route then stays visible
abbrev pub FullClosingIsAtCapacity : Type 0
FullClosingIsAtCapacity =
    (class : Sorting) (reply : Meaning) (entries : List Terms) (events : List Event) (r moment : ℕ) →
    closing (world_after class reply entries events) r ≡ closings.Full →
    (is_shown_at class reply entries r events ≡ true) × (length (lane_at class reply entries r events).inbox ≡ (entry_at class reply entries r events).inbox) ×
    ChangesNoRoute class reply entries events (Closes r moment)

-- an accepted closing is an item that the route accepts, and hides it
abbrev pub AcceptedClosingHides : Type 0
AcceptedClosingHides =
    (class : Sorting) (reply : Meaning) (entries : List Terms) (events : List Event) (r moment : ℕ) →
    closing (world_after class reply entries events) r ≡ closings.Accepted →
    (is_shown_at class reply entries r (Closes r moment ∷ events) ≡ false) ×
    (accepted class reply entries r (Closes r moment ∷ events) ≡ Close moment ∷ accepted class reply entries r events)

-- a hidden route stays hidden, and keeps its index and its entry, whatever happens
abbrev pub HiddenStays : Type 0
HiddenStays =
    (class : Sorting) (reply : Meaning) (entries : List Terms) (events : List Event) (r : ℕ) (event : Event) →
    is_there (world_after class reply entries events) r ≡ true → is_shown_at class reply entries r events ≡ false →
    (is_shown_at class reply entries r (event ∷ events) ≡ false) × (entry_at class reply entries r (event ∷ events) ≡ entry_at class reply entries r events)
