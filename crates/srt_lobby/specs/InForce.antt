-- The names in force while a gateway runs: each datagram is classified by the names after all changes before it. In a
-- list of events the newest one is the first.
use Rattle.std.specs.Prelude.{◌≡◌, ℕ, List, [], ◌∷◌, ◌++◌, Option, None, Some, nat_eq, slice_get, if◌then◌else◌}
use Rattle.std.specs.Option.{option_map}
use Rattle.srt_types.specs.Access.{AccessTerms}
use Rattle.srt_types.specs.Items.{Datagram}
use Rattle.srt_lobby.specs.declared.classes.Class.{Class}
use Rattle.srt_lobby.specs.declared.classes.Class.TheVariants.{Route}
use Rattle.srt_lobby.specs.RouteNames.{RouteName}
use Rattle.srt_lobby.specs.ListsAndKeys.{ListsAndKeys, access_with, replaced_at}
use Rattle.srt_lobby.specs.Lobby.{class_of}
use Rattle.srt_lobby.specs.Laws.{MayCall}
use Rattle.srt_lobby.specs.Changing.{hidden_at, shown_at}

-- a route is appended, hidden or made visible, or its lists and keys are replaced; or a datagram arrives
pub data Event : Type 0 where
  Appends : RouteName → Event
  Hides : (r : ℕ) → Event
  Shows : (r : ℕ) → Event
  Replaces : (r : ℕ) → ListsAndKeys → Event
  Arrives : Datagram → (moment : ℕ) → Event

-- the names after an event; the arrival of a datagram changes none
abbrev pub names_after : Event → List RouteName → List RouteName
names_after (Appends name) names = names ++ name ∷ []
names_after (Hides r) names = hidden_at r names
names_after (Shows r) names = shown_at r names
names_after (Replaces r new) names = replaced_at new r names
names_after (Arrives datagram moment) names = names

-- the names after these events
abbrev pub in_force : (names : List RouteName) → List Event → List RouteName
in_force names [] = names
in_force names (event ∷ earlier) = names_after event (in_force names earlier)

-- the classes of the datagrams among these events, each by the names that are in force when it arrives
abbrev pub classes : (secret : List ℕ) → (names : List RouteName) → List Event → List Class
classes secret names [] = []
classes secret names (Arrives datagram moment ∷ earlier) = class_of secret (in_force names earlier) datagram moment ∷ classes secret names earlier
classes secret names (Appends name ∷ earlier) = classes secret names earlier
classes secret names (Hides r ∷ earlier) = classes secret names earlier
classes secret names (Shows r ∷ earlier) = classes secret names earlier
classes secret names (Replaces r new ∷ earlier) = classes secret names earlier

-- the lists and keys that the route with this index was last given, if they were ever replaced
abbrev pub last_given : (r : ℕ) → List Event → Option ListsAndKeys
last_given r [] = None
last_given r (Replaces s new ∷ earlier) = if nat_eq r s then Some new else last_given r earlier
last_given r (Appends name ∷ earlier) = last_given r earlier
last_given r (Hides s ∷ earlier) = last_given r earlier
last_given r (Shows s ∷ earlier) = last_given r earlier
last_given r (Arrives datagram moment ∷ earlier) = last_given r earlier

-- the access rules of a route with these lists and keys in place of its own, if it was given any
abbrev pub access_given : Option ListsAndKeys → AccessTerms → AccessTerms
access_given None access = access
access_given (Some new) access = access_with new access

-- the access rules of a route, if there is one
abbrev pub access_in : Option RouteName → Option AccessTerms
access_in name = option_map (λ (route : RouteName). route.access) name

-- whatever happened, the lists and keys of a route are those that it was last given; what other routes were given has no
-- influence, nor have arrivals, nor whether the route was visible
abbrev pub LastGivenAreInForce : Type 0
LastGivenAreInForce =
    (names : List RouteName) (events : List Event) (r : ℕ) (name : RouteName)
    → slice_get names r ≡ Some name
    → access_in (slice_get (in_force names events) r) ≡ Some (access_given (last_given r events) name.access)

-- a datagram is for a route only if the lists and keys that the route was last given admit its sender
abbrev pub LastGivenDecide : Type 0
LastGivenDecide =
    (secret : List ℕ) (names : List RouteName) (events : List Event) (datagram : Datagram) (moment r : ℕ) (name : RouteName)
    → slice_get names r ≡ Some name
    → class_of secret (in_force names events) datagram moment ≡ Route r
    → MayCall (access_given (last_given r events) name.access) datagram

-- changes count for the datagrams after them, and for none before
abbrev pub ClassesAreByNamesInForce : Type 0
ClassesAreByNamesInForce =
    (secret : List ℕ) (names : List RouteName) (later earlier : List Event)
    → classes secret names (later ++ earlier) ≡ classes secret (in_force names earlier) later ++ classes secret names earlier
