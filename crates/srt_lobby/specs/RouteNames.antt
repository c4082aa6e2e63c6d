-- The names of routes, in the order of their indexes.
use Rattle.std.specs.Prelude.{◌≡◌, ℕ, Bool, true, false, List, Option, position, slice_get, None, Some, ◌&&◌}
use Rattle.std.specs.Str.{bytes_eq}
use Rattle.srt_types.specs.declared.shared.Peer.{Peer}
use Rattle.srt_types.specs.declared.shared.Role.{Role}
use Rattle.srt_types.specs.Access.{AccessTerms, in_role, admits, knows, is_secured}
use Rattle.srt_types.specs.Terms.{Terms}

-- the name of a route, whether the route is visible, and its access rules; only visible routes receive datagrams
pub record RouteName : Type 0 where
  pub text : List ℕ
  pub is_shown : Bool
  pub access : AccessTerms

-- a visible route with this name and these access rules
abbrev pub shown : (text : List ℕ) → AccessTerms → RouteName
shown text access = record { text = text; is_shown = true; access = access }

-- the same route, visible
abbrev pub as_shown : RouteName → RouteName
as_shown name = record name { is_shown = true }

-- a hidden route with this name and these access rules
abbrev pub hidden : (text : List ℕ) → AccessTerms → RouteName
hidden text access = record { text = text; is_shown = false; access = access }

-- the same route, hidden
abbrev pub as_hidden : RouteName → RouteName
as_hidden name = record name { is_shown = false }

-- the name of a route that a gateway is opened with, visible
abbrev pub name_of : Terms → RouteName
name_of e = shown e.name e.access

-- whether the route has this name and is visible
abbrev pub is_requested : (text : List ℕ) → RouteName → Bool
is_requested text name = name.is_shown && bytes_eq text name.text

-- the index of the visible route with this name
abbrev pub index_of : (names : List RouteName) → (text : List ℕ) → Option ℕ
index_of names text = position (is_requested text) names

-- whether there is a route, and it is visible
abbrev pub shows : Option RouteName → Bool
shows (Some name) = name.is_shown
shows None = false

-- whether there is a route with this index, and it is visible
abbrev pub is_shown_at : (names : List RouteName) → (r : ℕ) → Bool
is_shown_at names r = shows (slice_get names r)

-- whether there is a route, it has this name, and it is visible
abbrev pub has_name : (text : List ℕ) → Option RouteName → Bool
has_name text (Some name) = is_requested text name
has_name text None = false

-- whether there is a route with this index, it has this name, and it is visible
abbrev pub has_name_at : (names : List RouteName) → (r : ℕ) → (text : List ℕ) → Bool
has_name_at names r text = has_name text (slice_get names r)

-- no two visible routes have the same name
abbrev pub AreDistinct : List RouteName → Type 0
AreDistinct names = (i j : ℕ) (text : List ℕ) → has_name_at names i text ≡ true → has_name_at names j text ≡ true → i ≡ j

-- whether there is a route, and one of its lists contains the caller's address
abbrev pub knows_caller : Peer → Option RouteName → Bool
knows_caller peer (Some name) = knows name.access peer
knows_caller peer None = false

-- whether there is a route with this index, and one of its lists contains the caller's address
abbrev pub knows_caller_at : (names : List RouteName) → (r : ℕ) → Peer → Bool
knows_caller_at names r peer = knows_caller peer (slice_get names r)

-- whether there is a route, and it admits the caller in this role with this key
abbrev pub admits_caller : Peer → Role → (brought : Option (List ℕ)) → Option RouteName → Bool
admits_caller peer role brought (Some name) = admits (in_role name.access role) peer brought
admits_caller peer role brought None = false

-- whether there is a route, and its role is secured
abbrev pub secures : Role → Option RouteName → Bool
secures role (Some name) = is_secured (in_role name.access role)
secures role None = false
