-- The state of a hub, as a function of its events.
use Rattle.std.specs.Prelude.{◌≡◌, ℕ, ◌<◌, Bool, List, [], map, length, slice_index_or}
use Rattle.srt_types.specs.declared.shared.Mode.TheVariants.{Live}
use Rattle.srt_types.specs.Access.{anyone}
use Rattle.srt_types.specs.Entries.{draft_rules}
use Rattle.srt_types.specs.Terms.{Terms}
use Rattle.srt_lobby.specs.Names.{RouteName, name_of}
use Rattle.srt_hub.specs.World.{Event, Sorting, Meaning, Lane, World, entry_in, is_shown_in, names_in, world_after, has_room}

-- the entry with this index that the gateway was opened with
abbrev pub terms_at : List Terms → ℕ → Terms
terms_at entries r =
    slice_index_or entries r
    (record { name = []; mode = Live; latency_ms = 0; buffer = 0; sessions = 0; inbox = 0; outbox = 0; access = anyone; rules = draft_rules })

-- the names in force when the gateway was opened
abbrev pub names : List Terms → List RouteName
names entries = map name_of entries

-- after these events: the names in force, and the number of routes, including hidden ones
abbrev pub names_at : Sorting → Meaning → List Terms → List Event → List RouteName
names_at class reply entries events = names_in (world_after class reply entries events)

abbrev pub routes_at : Sorting → Meaning → List Terms → List Event → ℕ
routes_at class reply entries events = length (world_after class reply entries events).places

-- the route with this index after these events: its entry, whether it is visible, and its queues
abbrev pub entry_at : Sorting → Meaning → List Terms → ℕ → List Event → Terms
entry_at class reply entries r events = entry_in (world_after class reply entries events) r

abbrev pub is_shown_at : Sorting → Meaning → List Terms → ℕ → List Event → Bool
is_shown_at class reply entries r events = is_shown_in (world_after class reply entries events) r

abbrev pub lane_at : Sorting → Meaning → List Terms → ℕ → List Event → Lane
lane_at class reply entries r events = (world_after class reply entries events).lane r

abbrev pub room_at : Sorting → Meaning → List Terms → List Event → ℕ → Bool
room_at class reply entries events r = has_room (entry_at class reply entries r events) (lane_at class reply entries r events)

-- there is one lane for each place, and each is the lane of its route
pub record AreLanes {X : Type 0} (Is : X → Terms → ℕ → Lane → Type 0) (w : World) (lanes : List X) : Type 0 where
  pub as_many : length lanes ≡ length w.places
  pub each : (r : ℕ) (x : X) → r < length lanes → Is (slice_index_or lanes r x) (entry_in w r) r (w.lane r)

-- the lobby knows the secret and the names in force, and the lanes are those of the routes
pub record IsHub (Knows : Type 0) (Lanes : Type 0) : Type 0 where
  pub lobby_knows : Knows
  pub lanes_are : Lanes
