-- Theorems about the gateway with the real lobby and the real routes.
use Rattle.std.specs.Prelude.{◌≡◌, ◌↔◌, ℕ, ◌<◌, Bool, List, All, length, ⊤}
use Rattle.std.specs.List.{AllByRecursion}
use Rattle.srt_types.specs.Items.{Datagram, Item, Received, Tick, Close}
use Rattle.srt_types.specs.Access.{AccessTerms}
use Rattle.srt_types.specs.Terms.{Terms}
use Rattle.srt_lobby.specs.declared.classes.Class.TheVariants.{Route}
use Rattle.srt_lobby.specs.Names.{RouteName, AreDistinct}
use Rattle.srt_lobby.specs.Lobby.{class_of}
use Rattle.srt_lobby.specs.Laws.{MayCall}
use Rattle.srt_route.specs.Route.{reply}
use Rattle.srt_route.specs.Route as route
use Rattle.srt_route.specs.Sendable.{IsSendable}
use Rattle.srt_hub.specs.World.{Event, Sorting, solo, accepted, sent, IsQuiet}
use Rattle.srt_hub.specs.Hubs.{names, terms_at, names_at, routes_at, entry_at, is_shown_at, lane_at}
use Rattle.srt_hub.specs.Laws.{own_steps}

-- how the lobby classifies datagrams with this secret, by the names in force
abbrev pub sorting : (secret : List ℕ) → Sorting
sorting secret = class_of secret

-- the state of a gateway that was opened with this secret and these entries, after these events: the names in force and
-- the number of routes; for the route with this index its entry, whether it is visible, the items that it accepted, and
-- the datagrams sent for it
abbrev pub names_of : (secret : List ℕ) → List Terms → List Event → List RouteName
names_of secret entries events = names_at (sorting secret) reply entries events

abbrev pub routes_of : (secret : List ℕ) → List Terms → List Event → ℕ
routes_of secret entries events = routes_at (sorting secret) reply entries events

abbrev pub entry_of : (secret : List ℕ) → List Terms → ℕ → List Event → Terms
entry_of secret entries r events = entry_at (sorting secret) reply entries r events

abbrev pub is_shown_of : (secret : List ℕ) → List Terms → ℕ → List Event → Bool
is_shown_of secret entries r events = is_shown_at (sorting secret) reply entries r events

abbrev pub accepted_of : (secret : List ℕ) → List Terms → ℕ → List Event → List Item
accepted_of secret entries r events = accepted (sorting secret) reply entries r events

abbrev pub sent_of : (secret : List ℕ) → List Terms → ℕ → List Event → List Datagram
sent_of secret entries r events = sent (sorting secret) reply entries r events

abbrev pub HasQuiet : (secret : List ℕ) → List Terms → ℕ → List Event → Type 0
HasQuiet secret entries r events = IsQuiet (lane_at (sorting secret) reply entries r events)

-- after these events both gateways have this route under the same name, with the same lists and keys, and it is visible
-- in both or hidden in both; neither was opened with a duplicate name, as no gateway is
pub record HaveRoute (secret : List ℕ) (entries others : List Terms) (events events' : List Event) (r : ℕ) : Type 0 where
  pub below : r < routes_of secret entries events
  pub below_there : r < routes_of secret others events'
  pub same_name : (entry_of secret entries r events).name ≡ (entry_of secret others r events').name
  pub same_access : (entry_of secret entries r events).access ≡ (entry_of secret others r events').access
  pub same_shown : is_shown_of secret entries r events ≡ is_shown_of secret others r events'
  pub distinct : AreDistinct (names entries)
  pub distinct_there : AreDistinct (names others)

-- whether a datagram is the route's depends on the secret, the route's index and name, its lists and keys, whether the
-- route is visible, and that datagram alone
abbrev pub ArrivalsAreOwn : Type 0
ArrivalsAreOwn =
    (secret : List ℕ) (entries others : List Terms) (events events' : List Event) (r : ℕ) → HaveRoute secret entries others events events' r →
    (d : Datagram) (moment : ℕ)
    → (sorting secret (names_of secret entries events) d moment ≡ Route r)
    ↔ (sorting secret (names_of secret others events') d moment ≡ Route r)

-- both gateways were opened with the same entry for this route, and neither with a duplicate name
pub record OpenWith (entries others : List Terms) (r : ℕ) : Type 0 where
  pub below : r < length entries
  pub below_there : r < length others
  pub same_entry : terms_at entries r ≡ terms_at others r
  pub distinct : AreDistinct (names entries)
  pub distinct_there : AreDistinct (names others)

-- the same events are the same steps for the route, whatever other routes there are
abbrev pub StepsAreOwn : Type 0
StepsAreOwn =
    (secret : List ℕ) (entries others : List Terms) (r : ℕ) → OpenWith entries others r →
    (events : List Event) → own_steps (sorting secret) reply entries r events ≡ own_steps (sorting secret) reply others r events

-- with the same steps the route accepts and sends the same, whatever else happened, also if something waits
abbrev pub SentByOwnSteps : Type 0
SentByOwnSteps =
    (secret : List ℕ) (entries others : List Terms) (r : ℕ) (events events' : List Event) →
    entry_of secret entries r events ≡ entry_of secret others r events' →
    own_steps (sorting secret) reply entries r events ≡ own_steps (sorting secret) reply others r events' →
    (accepted_of secret entries r events ≡ accepted_of secret others r events') × (sent_of secret entries r events ≡ sent_of secret others r events')

-- two gateways with the same secret and the same entry for a route, after any events, among which the route may have
-- been opened: if the route's inbox accepted the same items in the same order and nothing of it waits, the same
-- datagrams were sent for it, and they are those that the route alone replies
abbrev pub SentByAccepted : Type 0
SentByAccepted =
    (secret : List ℕ) (entries others : List Terms) (r : ℕ) (events events' : List Event) →
    entry_of secret entries r events ≡ entry_of secret others r events' →
    accepted_of secret entries r events ≡ accepted_of secret others r events' →
    HasQuiet secret entries r events → HasQuiet secret others r events' →
    (sent_of secret entries r events ≡ sent_of secret others r events') ×
    (sent_of secret entries r events ≡ solo reply (entry_of secret entries r events) r (accepted_of secret entries r events))

-- what the route alone replies is the list that the theorems of `srt_route` are about, so they hold for what was sent:
-- with other sequence numbers, other timestamps, or later times
abbrev pub SoloIsTheRoutes : Type 0
SoloIsTheRoutes = (e : Terms) (index : ℕ) (items : List Item) → solo reply e index items ≡ route.solo e index items

-- after any events, each datagram that was sent for a route is the encoding of a packet that can be sent, and decodes
-- to that packet
abbrev pub SentArePackets : Type 0
SentArePackets = (secret : List ℕ) (entries : List Terms) (r : ℕ) (events : List Event) → All (λ d. IsSendable d.bytes) (sent_of secret entries r events)

-- an item of a route with these lists and keys is a tick or a Close, or a datagram whose sender may call the route
abbrev pub IsOfCaller : AccessTerms → Item → Type 0
IsOfCaller access (Received d moment) = MayCall access d
IsOfCaller access (Tick moment) = ⊤
IsOfCaller access (Close moment) = ⊤

-- whatever is sent to the gateway, this holds for each item that ever entered the route's inbox
abbrev pub CallersMayCall : Type 0
CallersMayCall =
    (secret : List ℕ) (entries : List Terms) (r : ℕ) (events : List Event) →
    AllByRecursion (IsOfCaller (entry_of secret entries r events).access) (accepted_of secret entries r events)
