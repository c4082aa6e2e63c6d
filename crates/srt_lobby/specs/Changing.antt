-- Changes of the routes' names while a gateway runs: a route is added, hidden or made visible. An index is never
-- reused; the name of a hidden route may be.
use Rattle.std.specs.Prelude.{◌≡◌, ◌≢◌, ◌↔◌, ℕ, zero, suc, ◌<◌, Bool, true, false, not, List, [], ◌∷◌, ◌++◌, length, map, Option, None}
use Rattle.std.specs.Prelude.{Some, IfSome, is_some, slice_get, nat_lt, ◌&&◌, if◌then◌else◌}
use Rattle.srt_types.specs.declared.shared.OpenFault.{OpenFault}
use Rattle.srt_types.specs.declared.shared.OpenFault.TheVariants as faults
use Rattle.srt_types.specs.Items.{Datagram}
use Rattle.srt_types.specs.Terms.{Terms}
use Rattle.srt_types.specs.Entries.{is_name, in_limits}
use Rattle.srt_lobby.specs.declared.classes.Class.TheVariants.{Route}
use Rattle.srt_lobby.specs.Names.{RouteName, as_shown, name_of, index_of, AreDistinct}
use Rattle.srt_lobby.specs.Lobby.{class_of}

-- the names with a changed visibility of the route with this index
abbrev pub marked_at : (is_shown : Bool) → (r : ℕ) → List RouteName → List RouteName
marked_at is_shown r [] = []
marked_at is_shown zero (name ∷ names) = record name { is_shown = is_shown } ∷ names
marked_at is_shown (suc r) (name ∷ names) = name ∷ marked_at is_shown r names

-- the names after the route with this index is hidden
abbrev pub hidden_at : (r : ℕ) → List RouteName → List RouteName
hidden_at r names = marked_at false r names

-- the names after the route with this index is made visible
abbrev pub shown_at : (r : ℕ) → List RouteName → List RouteName
shown_at r names = marked_at true r names

-- no other visible route has the name of the route with this index
abbrev pub IsUnused : (r : ℕ) → List RouteName → Type 0
IsUnused r names = IfSome (slice_get names r) (λ name. index_of (hidden_at r names) name.text ≡ None)

-- the names with one more route, which is visible
abbrev pub added : Terms → List RouteName → List RouteName
added e names = names ++ name_of e ∷ []

-- the first reason, except memory, why a route of this name can't be added, given whether its numbers are within their
-- limits: an invalid name or that of a visible route; a 512th index or a number outside its limits
abbrev pub fault_of_name : List RouteName → (name : List ℕ) → (within : Bool) → Option OpenFault
fault_of_name names name within =
    if is_name name && not (is_some (index_of names name))
    then (if nat_lt (length names) 511 && within then None else Some faults.Limits) else Some faults.Names

-- the first reason, except memory, why a route with these terms can't be added
abbrev pub fault_of_adding : List RouteName → Terms → Option OpenFault
fault_of_adding names e = fault_of_name names e.name (in_limits e)

-- adding a route keeps the names of visible routes distinct
abbrev pub AddingKeepsNames : Type 0
AddingKeepsNames = (names : List RouteName) (e : Terms) → fault_of_adding names e ≡ None → AreDistinct names → AreDistinct (added e names)

-- hiding a route keeps the names of visible routes distinct
abbrev pub HidingKeepsNames : Type 0
HidingKeepsNames = (names : List RouteName) (r : ℕ) → AreDistinct names → AreDistinct (hidden_at r names)

-- making a route visible whose name is unused keeps the names of visible routes distinct
abbrev pub ShowingKeepsNames : Type 0
ShowingKeepsNames = (names : List RouteName) (r : ℕ) → r < length names → IsUnused r names → AreDistinct names → AreDistinct (shown_at r names)

-- if no two routes have the same name, visible or hidden, each route's name is unused
abbrev pub DistinctAreUnused : Type 0
DistinctAreUnused = (names : List RouteName) → AreDistinct (map as_shown names) → (r : ℕ) → IsUnused r names

-- the same datagrams are for route r with these names and with the others
abbrev pub AreSameFor : (r : ℕ) → (names others : List RouteName) → Type 0
AreSameFor r names others =
    (secret : List ℕ) (datagram : Datagram) (moment : ℕ)
    → (class_of secret names datagram moment ≡ Route r) ↔ (class_of secret others datagram moment ≡ Route r)

-- adding a route keeps the datagrams of each existing route
abbrev pub AddingKeepsOthers : Type 0
AddingKeepsOthers =
    (names : List RouteName) (e : Terms) (r : ℕ)
    → r < length names → fault_of_adding names e ≡ None → AreDistinct names → AreSameFor r names (added e names)

-- hiding a route keeps the datagrams of each other route
abbrev pub HidingKeepsOthers : Type 0
HidingKeepsOthers = (names : List RouteName) (s r : ℕ) → r < length names → r ≢ s → AreDistinct names → AreSameFor r names (hidden_at s names)

-- making a route visible whose name is unused keeps the datagrams of each other route
abbrev pub ShowingKeepsOthers : Type 0
ShowingKeepsOthers =
    (names : List RouteName) (s r : ℕ)
    → r < length names → s < length names → r ≢ s → IsUnused s names → AreDistinct names → AreSameFor r names (shown_at s names)

-- a hidden route has no datagrams
abbrev pub HiddenHasNone : Type 0
HiddenHasNone =
    (secret : List ℕ) (names : List RouteName) (r : ℕ) (datagram : Datagram) (moment : ℕ)
    → class_of secret (hidden_at r names) datagram moment ≡ Route r → ⊥

-- all of these routes are hidden
abbrev pub AreHidden : List RouteName → Type 0
AreHidden [] = Unit {0}
AreHidden (name ∷ names) = (name.is_shown ≡ false) × AreHidden names

-- hidden routes at the end change no datagram's class, so a route may be appended, hidden, long before it is made
-- visible
abbrev pub HiddenChangeNothing : Type 0
HiddenChangeNothing =
    (secret : List ℕ) (names more : List RouteName)
    → AreHidden more
    → (datagram : Datagram) (moment : ℕ)
    → class_of secret (names ++ more) datagram moment ≡ class_of secret names datagram moment
