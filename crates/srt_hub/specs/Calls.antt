-- The effect of a call on a gateway, a lane, a lobby or a route, and its result, whatever happened before the call.
use Rattle.std.specs.Prelude.{◌≡◌, ℕ, Bool, true, false, List, ◌∷◌, take, Option, option_map, Result, Ok, Err, is_err}
use Rattle.std.specs.Result.{result_ok}
use Rattle.srt_types.specs.declared.shared.OpenFault.{OpenFault}
use Rattle.srt_types.specs.declared.shared.OpenFault.TheVariants as faults
use Rattle.srt_types.specs.declared.shared.Peer.{Peer}
use Rattle.srt_types.specs.Items.{Datagram, Item}
use Rattle.srt_types.specs.Terms.{Terms}
use Rattle.srt_lobby.specs.declared.classes.Class.{Class}
use Rattle.srt_lobby.specs.Names.{RouteName}
use Rattle.srt_lobby.specs.Changing.{fault_of_name}
use Rattle.srt_hub.specs.declared.answers.Arrived.{Arrived}
use Rattle.srt_hub.specs.declared.answers.Closing.{Closing}
use Rattle.srt_hub.specs.declared.answers.OutOfMemory.{OutOfMemory}
use Rattle.srt_hub.specs.World.{Event, Sorting, Meaning, Lane, arrival_of, first, opening, closing, world_after}
use Rattle.srt_hub.specs.Hubs.{names_at, routes_at, entry_at, lane_at, room_at}

-- a datagram with these bytes, from or for this peer
abbrev pub datagram : Peer → List ℕ → Datagram
datagram peer bytes = record { peer = peer; bytes = bytes }

-- the datagram that was written to the front of a buffer, from its receiver and its length
abbrev pub datagram_at : (buffer : List ℕ) → Option (Peer × ℕ) → Option Datagram
datagram_at buffer written = option_map (λ sent. datagram sent.0 (take sent.1 buffer)) written

-- the datagram that the lane sends next
abbrev pub first_out : Terms → Lane → Option Datagram
first_out e m = first m.outbox

-- how a lobby classifies datagrams, by its secret and its routes' names
abbrev pub SortingFor : Type 0
SortingFor = (secret : List ℕ) → Sorting

-- a gateway's possible history: the secret and the entries that it was opened with, and its events, the newest first
abbrev pub Past : Type 1
Past = (secret : List ℕ) → (entries : List Terms) → (events : List Event) → Type 0

-- no event happened: every history of the old gateway is one of the new
abbrev pub IsUnchanged : {X : Type 0} → (Stands : X → Past) → (old new : X) → Type 0
IsUnchanged Stands old new =
    (secret : List ℕ) (entries : List Terms) (events : List Event) → Stands old secret entries events → Stands new secret entries events

-- the gateway has this number of routes
abbrev pub HasRoutes : {X : Type 0} → (Stands : X → Past) → X → SortingFor → Meaning → (number : ℕ) → Type 0
HasRoutes Stands hub class reply number =
    (secret : List ℕ) (entries : List Terms) (events : List Event) → Stands hub secret entries events → number ≡ routes_at (class secret) reply entries events

-- this event happened, after the events before it
abbrev pub Happened : {X : Type 0} → (Stands : X → Past) → (old new : X) → Event → Type 0
Happened Stands old new event =
    (secret : List ℕ) (entries : List Terms) (events : List Event)
    → Stands old secret entries events → Stands new secret entries (event ∷ events)

-- an arrival's result is the model's, with the names in force
abbrev pub ArrivalAnswers : {X : Type 0}
    → (Stands : X → Past) → (old : X) → SortingFor → Meaning → Datagram → (moment : ℕ) → Result Arrived OutOfMemory → Type 0
ArrivalAnswers Stands old class reply d moment result =
    (secret : List ℕ) (entries : List Terms) (events : List Event) → Stands old secret entries events →
    result_ok result
    ≡ arrival_of (is_err result) (room_at (class secret) reply entries events)
    (class secret (names_at (class secret) reply entries events) d moment)

-- the result of a call of route r is the model's for that route's lane
abbrev pub RouteAnswers : {X A : Type 0}
    → (Stands : X → Past) → (old : X) → SortingFor → Meaning → (r : ℕ) → (answer : Terms → Lane → A) → (result : A) → Type 0
RouteAnswers Stands old class reply r answer result =
    (secret : List ℕ) (entries : List Terms) (events : List Event) → Stands old secret entries events →
    result ≡ answer (entry_at (class secret) reply entries r events) (lane_at (class secret) reply entries r events)

-- whether an opening ran out of memory
abbrev pub wants_memory : Result ℕ OpenFault → Bool
wants_memory (Ok r) = false
wants_memory (Err faults.Names) = false
wants_memory (Err faults.Limits) = false
wants_memory (Err faults.OutOfMemory) = true

-- an opening's result is the model's, with the names in force
abbrev pub OpeningAnswers : {X : Type 0} → (Stands : X → Past) → (old : X) → SortingFor → Meaning → Terms → Result ℕ OpenFault → Type 0
OpeningAnswers Stands old class reply e result =
    (secret : List ℕ) (entries : List Terms) (events : List Event) → Stands old secret entries events →
    result ≡ opening (world_after (class secret) reply entries events) e (wants_memory result)

-- the first fault of an opening with this name, memory aside, is the model's, with the names in force
abbrev pub FaultAnswers : {X : Type 0} → (Stands : X → Past) → X → SortingFor → Meaning → (name : List ℕ) → (within : Bool) → Option OpenFault → Type 0
FaultAnswers Stands hub class reply name within result =
    (secret : List ℕ) (entries : List Terms) (events : List Event) → Stands hub secret entries events →
    result ≡ fault_of_name (names_at (class secret) reply entries events) name within

-- a closing's result is the model's
abbrev pub ClosingAnswers : {X : Type 0} → (Stands : X → Past) → (old : X) → SortingFor → Meaning → (r : ℕ) → Closing → Type 0
ClosingAnswers Stands old class reply r result =
    (secret : List ℕ) (entries : List Terms) (events : List Event) → Stands old secret entries events →
    result ≡ closing (world_after (class secret) reply entries events) r

-- a lane becomes the model's lane after a step, whatever its terms and its index are
abbrev pub LaneBecomes : {X : Type 0} → (Is : X → Terms → (index : ℕ) → Lane → Type 0) → (old new : X) → (after : Terms → (index : ℕ) → Lane → Lane) → Type 0
LaneBecomes Is old new after = (e : Terms) (r : ℕ) (m : Lane) → Is old e r m → Is new e r (after e r m)

-- a lane's result is the model's
abbrev pub LaneAnswers : {X A : Type 0} → (Is : X → Terms → (index : ℕ) → Lane → Type 0) → (old : X) → (answer : Terms → Lane → A) → (result : A) → Type 0
LaneAnswers Is old answer result = (e : Terms) (r : ℕ) (m : Lane) → Is old e r m → result ≡ answer e m

-- a lobby's result is the class of the datagram, whatever its secret and its names are
abbrev pub LobbyAnswers : {X : Type 0}
    → (Knows : X → (secret : List ℕ) → (names : List RouteName) → Type 0) → X → SortingFor → Datagram → (moment : ℕ) → Class → Type 0
LobbyAnswers Knows lobby class d moment result = (secret : List ℕ) (names : List RouteName) → Knows lobby secret names → result ≡ class secret names d moment

-- the replies that wait after an item are the route's to that item, whatever its terms, index and earlier items are
abbrev pub RouteReplies : {X : Type 0}
    → (Stands : X → Terms → (index : ℕ) → List Item → Type 0) → (old : X) → Meaning → Item → (waiting : List Datagram) → Type 0
RouteReplies Stands old reply item waiting = (e : Terms) (index : ℕ) (items : List Item) → Stands old e index items → waiting ≡ reply e index (item ∷ items)
