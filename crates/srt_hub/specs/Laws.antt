-- Theorems about every run of the gateway, whatever routes reply and however the lobby classifies datagrams.
use Rattle.std.specs.Prelude.{◌≡◌, ℕ, ◌<◌, Bool, true, None, List, [], ◌∷◌, ◌++◌, length}
use Rattle.srt_lobby.specs.declared.classes.Class.TheVariants.{Route}
use Rattle.srt_types.specs.Items.{Datagram}
use Rattle.srt_types.specs.Terms.{Terms}
use Rattle.srt_lobby.specs.Names.{RouteName}
use Rattle.srt_lobby.specs.Laws.{HasRoute}
use Rattle.srt_lobby.specs.Opening.{fault_of}
use Rattle.srt_hub.specs.World.{Event, Arrives, Ticks, Turns, Sends, Opens, Closes, Sorting, Meaning, solo, World, place_in, is_there}
use Rattle.srt_hub.specs.World.{names_in, Step, Offers, Turn, Send, Nothing, is_route, step_for, after, world_after, accepted, sent}
use Rattle.srt_hub.specs.World.{IsQuiet}
use Rattle.srt_hub.specs.Hubs.{terms_at, names_at, entry_at, is_shown_at, lane_at}

-- xs is a prefix of ys
abbrev pub IsFrontOf : {X : Type 0} → List X → List X → Type 0
IsFrontOf {X} xs ys = (rest : List X) × (xs ++ rest ≡ ys)

-- the datagrams sent for a route are a prefix of those that it alone would reply to the items that it accepted
abbrev pub SentIsFront : Type 0
SentIsFront =
    (class : Sorting) (reply : Meaning) (entries : List Terms) (r : ℕ) (events : List Event) →
    IsFrontOf (sent class reply entries r events) (solo reply (entry_at class reply entries r events) r (accepted class reply entries r events))

-- they are all of those if nothing waits
abbrev pub SentIsWhole : Type 0
SentIsWhole =
    (class : Sorting) (reply : Meaning) (entries : List Terms) (r : ℕ) (events : List Event) →
    IsQuiet (lane_at class reply entries r events) →
    sent class reply entries r events ≡ solo reply (entry_at class reply entries r events) r (accepted class reply entries r events)

-- what is sent for a route depends only on its entry and on the items that it accepted: two gateways may classify
-- differently, have other routes, have opened this one earlier or later, and have other events in another order
abbrev pub RoutesAreIsolated : Type 0
RoutesAreIsolated =
    (class class' : Sorting) (reply : Meaning) (entries entries' : List Terms) (r : ℕ) (events events' : List Event) →
    entry_at class reply entries r events ≡ entry_at class' reply entries' r events' →
    accepted class reply entries r events ≡ accepted class' reply entries' r events' →
    IsQuiet (lane_at class reply entries r events) → IsQuiet (lane_at class' reply entries' r events') →
    sent class reply entries r events ≡ sent class' reply entries' r events'

-- the route's own steps
abbrev pub and_own : Step → List Step → List Step
and_own Nothing steps = steps
and_own (Offers item) steps = Offers item ∷ steps
and_own Turn steps = Turn ∷ steps
and_own Send steps = Send ∷ steps

abbrev pub own_steps : Sorting → Meaning → List Terms → ℕ → List Event → List Step
own_steps class reply entries r [] = []
own_steps class reply entries r (event ∷ events) =
    and_own (step_for class (world_after class reply entries events) r event) (own_steps class reply entries r events)

-- a route's entry and its own steps determine what it accepts, sends and holds, also if something waits
abbrev pub OwnStepsDecide : Type 0
OwnStepsDecide =
    (class class' : Sorting) (reply : Meaning) (entries entries' : List Terms) (r : ℕ) (events events' : List Event) →
    entry_at class reply entries r events ≡ entry_at class' reply entries' r events' →
    own_steps class reply entries r events ≡ own_steps class' reply entries' r events' →
    (lane_at class reply entries r events ≡ lane_at class' reply entries' r events') ×
    (accepted class reply entries r events ≡ accepted class' reply entries' r events') ×
    (sent class reply entries r events ≡ sent class' reply entries' r events')

-- only the lobby's choice of a route's datagrams matters: if two lobbies agree on this whenever the route is visible in
-- both or hidden in both, a route that both gateways were opened with has the same steps
abbrev pub SortingDecides : Type 0
SortingDecides =
    (class class' : Sorting) (reply : Meaning) (entries entries' : List Terms) (r : ℕ) (events : List Event) →
    r < length entries → r < length entries' → terms_at entries r ≡ terms_at entries' r →
    ((earlier : List Event) → is_shown_at class reply entries r earlier ≡ is_shown_at class' reply entries' r earlier →
    (d : Datagram) (moment : ℕ)
    → is_route r (class (names_at class reply entries earlier) d moment)
    ≡ is_route r (class' (names_at class' reply entries' earlier) d moment))
    →
    own_steps class reply entries r events ≡ own_steps class' reply entries' r events

-- a route's arrivals, ticks, turns, sends and closings don't change any other route, nor whether it is visible; the
-- opening of a route is not a step of any route, and leaves the existing ones
abbrev pub OthersStay : Type 0
OthersStay =
    (class : Sorting) (reply : Meaning) (w : World) (r s : ℕ) → (r ≡ s → ⊥) →
    ((d : Datagram) (moment : ℕ) (refused : Bool) → class (names_in w) d moment ≡ Route s → step_for class w r (Arrives d moment refused) ≡ Nothing) ×
    ((moment : ℕ) → step_for class w r (Ticks s moment) ≡ Nothing) × (step_for class w r (Turns s) ≡ Nothing) × (step_for class w r (Sends s) ≡ Nothing) ×
    ((moment : ℕ) → (step_for class w r (Closes s moment) ≡ Nothing) × (place_in (after class reply (Closes s moment) w) r ≡ place_in w r)) ×
    ((e : Terms) (refused : Bool)
    → (step_for class w r (Opens e refused) ≡ Nothing) ×
    (is_there w r ≡ true → place_in (after class reply (Opens e refused) w) r ≡ place_in w r))

-- the main theorem for whole gateways: with the same secret and the same entry for a route, the other entries and all
-- their events may differ; the route may have been opened among the events
abbrev pub GatewaysAreIsolated : Type 0
GatewaysAreIsolated =
    (class : (secret : List ℕ) → Sorting) (reply : Meaning) (secret : List ℕ) (entries entries' : List Terms) (r : ℕ) (events events' : List Event) →
    let sorting = class secret in
    let e = entry_at sorting reply entries r events in
    e ≡ entry_at sorting reply entries' r events' →
    accepted sorting reply entries r events ≡ accepted sorting reply entries' r events' →
    IsQuiet (lane_at sorting reply entries r events) → IsQuiet (lane_at sorting reply entries' r events') →
    (sent sorting reply entries r events ≡ sent sorting reply entries' r events') ×
    (sent sorting reply entries r events ≡ solo reply e r (accepted sorting reply entries r events))

-- a classification in which a route's datagrams depend on the secret, the route's index and name, whether it is
-- visible, its lists and keys, and the datagram alone, whatever other names are in force
abbrev pub SortsByOwnName : ((secret : List ℕ) → Sorting) → Type 0
SortsByOwnName class =
    (secret : List ℕ) (names others : List RouteName) (r : ℕ) (name : RouteName) → HasRoute names r name → HasRoute others r name →
    (d : Datagram) (moment : ℕ) → is_route r (class secret names d moment) ≡ is_route r (class secret others d moment)

-- with such a classification the same events are the same steps for a route that both gateways were opened with
abbrev pub OwnNameDecides : Type 0
OwnNameDecides =
    (class : (secret : List ℕ) → Sorting) → SortsByOwnName class →
    (reply : Meaning) (secret : List ℕ) (entries entries' : List Terms) (r : ℕ) → fault_of entries ≡ None → fault_of entries' ≡ None →
    r < length entries → r < length entries' → terms_at entries r ≡ terms_at entries' r →
    (events : List Event) → own_steps (class secret) reply entries r events ≡ own_steps (class secret) reply entries' r events
