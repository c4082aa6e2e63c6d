-- A table that finds a visible route by its name. It maps each name to the route that was last made visible under it,
-- or to the first route with this name if none was.
use Rattle.std.specs.Prelude.{◌≡◌, ℕ, true, List, Option, Some, is_some, slice_get, not, ◌&&◌, if◌then◌else◌}
use Rattle.std.specs.Option.{option_map}
use Rattle.std.specs.Map.{lookup}
use Rattle.std.specs.Str.{bytes_eq}
use Rattle.srt_types.specs.Access.{access_of}
use Rattle.srt_lobby.specs.declared.names.NamedRoute.{NamedRoute}
use Rattle.srt_lobby.specs.RouteNames.{RouteName, has_name_at}

-- the name that a value of the code represents
abbrev pub name_in : NamedRoute → RouteName
name_in route = record { text = route.text.items; is_shown = route.is_shown; access = access_of route.access }

-- the text of the route with this index, visible or hidden
abbrev pub text_at : List RouteName → (r : ℕ) → Option (List ℕ)
text_at names r = option_map (λ (name : RouteName). name.text) (slice_get names r)

-- the index to which a table maps this text
abbrev pub index_in : {K : Type 0} → (text_of : K → List ℕ) → List (K × ℕ) → (text : List ℕ) → Option ℕ
index_in text_of entries text = lookup (λ key. bytes_eq text (text_of key)) entries

-- the index to which a table maps this text after a name is entered with an index; a name in the table keeps its index
abbrev pub entered : (latest : List ℕ → Option ℕ) → (name : List ℕ) → (r : ℕ) → (text : List ℕ) → Option ℕ
entered latest name r text = if bytes_eq text name && not (is_some (latest name)) then Some r else latest text

-- a table has the entries new after a name is entered with this index into a table with the entries old
abbrev pub Enters : {K : Type 0} → (text_of : K → List ℕ) → (old : List (K × ℕ)) → (name : List ℕ) → (r : ℕ) → (new : List (K × ℕ)) → Type 0
Enters text_of old name r new = (text : List ℕ) → index_in text_of new text ≡ entered (index_in text_of old) name r text

-- the table maps the text of each visible route to its index
abbrev pub HasShown : List RouteName → (latest : List ℕ → Option ℕ) → Type 0
HasShown names latest = (r : ℕ) (text : List ℕ) → has_name_at names r text ≡ true → latest text ≡ Some r

-- the table maps a text only to a route with this text
abbrev pub HasNamed : List RouteName → (latest : List ℕ → Option ℕ) → Type 0
HasNamed names latest = (r : ℕ) (text : List ℕ) → latest text ≡ Some r → text_at names r ≡ Some text

-- the table contains the text of each route
abbrev pub HasTexts : List RouteName → (latest : List ℕ → Option ℕ) → Type 0
HasTexts names latest = (r : ℕ) (text : List ℕ) → text_at names r ≡ Some text → is_some (latest text) ≡ true
