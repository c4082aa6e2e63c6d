-- The list of all faults, as the code makes it.
use Rattle.std.proofs.Common.{◌≡◌, ℕ, ◌<◌, ◌≤◌, ◌+◌, suc, Bool, true, false, ◌||◌, List, [], ◌∷◌, ◌++◌, length, map, get_or, drop, append_assoc, append-nil}
use Rattle.std.proofs.Common.{Option, Ok, Err, String, Global, string_bytes, Less, Greater, nat_cmp}
use Rattle.std.proofs.Common.{refl, sym, ap, ◌∙◌, if◌then◌else◌, arith}
use Rattle.std.specs.Borrow.{Bor}
use Rattle.std.specs.List.{list_any, AllByRecursion}
use Rattle.std.specs.List.Sorted.{IsStrictlySortedBy}
use Rattle.std.specs.Map.{keys_of}
use Rattle.std.specs.Ordering.{ordering_reverse}
use Rattle.std.specs.Str.{bytes_eq}
use Rattle.std.specs.String.{string_cmp}
use Rattle.std.specs.Cmp.Lexicographic.{slice_cmp}
use Rattle.std.proofs.lemmas.Cmp.{nat_list_cmp_total}
use Rattle.std.proofs.lemmas.List.{at_drop_more, at_drop_all}
use Rattle.toml.specs.Data.{Members, Items, as_table}
use Rattle.toml.specs.View.{view, items_view, members_view}
use Rattle.toml.specs.declared.value.Value.{Value}
use Rattle.srt_config.specs.declared.config.keys.Key.{Key}
use Rattle.srt_config.specs.declared.config.placed.Place.{Place}
use Rattle.srt_config.specs.declared.config.placed.PlacedFault.{PlacedFault}
use Rattle.srt_config.specs.declared.config.faults.ConfigFault.{ConfigFault}
use Rattle.srt_config.specs.declared.config.faults.ConfigFault.TheVariants as code
use Rattle.srt_config.specs.Faults.{key_text}
use Rattle.srt_types.specs.Entries.{is_name}
use Rattle.srt_config.specs.FirstFault.{Fault, RepeatedName, plain_fault}
use Rattle.srt_config.specs.Keys.{is_key}
use Rattle.srt_config.specs.AllFaults.{Placed, faults_seen, told, each, put_in_order, unknown_in, fault_key, Part}
use Rattle.srt_config.specs.AllFaults.{has_fault_at, name_among, each_unknown, unknown_faults, keys_of as part_keys, table_of}
use Rattle.srt_config.specs.AllFaults.{table_faults, names_after, routes_faults}
use Rattle.srt_config.specs.inside.Sections.{texts_seen}

-- a test of what items stand for
any_map : {A B : Type 0} (test : B → Bool) (view : A → B) (xs : List A) → list_any (λ x. test (view x)) xs ≡ list_any test (map view xs)
any_map test view [] = refl
any_map test view (x ∷ xs) = ap (λ b. test (view x) || b) (any_map test view xs)

pub any_text : (names : List (Bor (List ℕ))) (text : List ℕ) →
    list_any (λ (name : Bor (List ℕ)). bytes_eq name.now text) names ≡ list_any (λ (name : List ℕ). bytes_eq name text) (texts_seen names)
any_text names text = any_map (λ (name : List ℕ). bytes_eq name text) (λ (name : Bor (List ℕ)). name.now) names

key_of : (fault : ConfigFault) → key_text fault ≡ fault_key (plain_fault fault)
key_of code.Toml = refl
key_of (code.UnknownKey key) = refl
key_of (code.Missing key) = refl
key_of (code.WrongKind key) = refl
key_of (code.OutOfRange key) = refl
key_of code.BadName = refl
key_of code.RepeatedName = refl
key_of code.BadSecret = refl
key_of (code.BadAddress key) = refl
key_of code.OutOfMemory = refl

pub any_fault : (faults : List PlacedFault) (key : List ℕ) →
    list_any (λ (it : PlacedFault). bytes_eq (key_text it.fault) key) faults ≡ has_fault_at key (faults_seen faults)
any_fault [] key = refl
any_fault (it ∷ faults) key =
    ap (λ b. bytes_eq (key_text it.fault) key || b) (any_fault faults key) ∙
    ap (λ text. bytes_eq text key || has_fault_at key (faults_seen faults)) (key_of it.fault)

-- one key more
pub next_key : (at : Place) (f : Key → Option Fault) (keys : List Key) (k d : Key) (n : ℕ) (x y z : List Placed) → n < length keys →
    k ≡ get_or keys n d → y ++ each at f (drop n keys) ≡ x → z ≡ y ++ told at (f k) → z ++ each at f (drop (n + 1) keys) ≡ x
next_key at f keys k d n x y z within is before put =
    let later = each at f (drop (n + 1) keys) in
    let split : each at f (drop n keys) ≡ told at (f k) ++ later =
    at_drop_more (λ (ks : List Key). each at f ks) keys n d within ∙ ap (λ (key : Key). told at (f key) ++ later) (sym is) in
    ap (λ (l : List Placed). l ++ later) put ∙ append_assoc y (told at (f k)) later ∙ ap (λ (l : List Placed). y ++ l) (sym split) ∙ before

pub no_key_left : (at : Place) (f : Key → Option Fault) (keys : List Key) (n : ℕ) (x y : List Placed) → length keys ≤ n →
    y ++ each at f (drop n keys) ≡ x → y ≡ x
no_key_left at f keys n x y past before =
    sym (append-nil y) ∙ ap (λ (l : List Placed). y ++ l) (sym (at_drop_all (λ (ks : List Key). each at f ks) keys n past)) ∙ before

-- unknown keys, which a map keeps in the order of their bytes
abbrev pub unknowns_of : List Key → List (String Global) → List (List ℕ)
unknowns_of keys [] = []
unknowns_of keys (k ∷ ks) = if is_key keys (string_bytes k) then unknowns_of keys ks else string_bytes k ∷ unknowns_of keys ks

goes_first : (x : List ℕ) (known : Bool) (rest : List (List ℕ)) (text : List ℕ)
    → put_in_order x rest ≡ x ∷ rest → slice_cmp nat_cmp text x ≡ Greater
    → put_in_order x (if known then rest else text ∷ rest) ≡ x ∷ (if known then rest else text ∷ rest)
goes_first x true rest text h g = h
goes_first x false rest text h g = rw g refl

before_all : (keys : List Key) (k : String Global) (ks : List (String Global))
    → AllByRecursion (λ y. string_cmp k y ≡ Less) ks → put_in_order (string_bytes k) (unknowns_of keys ks) ≡ string_bytes k ∷ unknowns_of keys ks
before_all keys k [] h = refl
before_all keys k (l ∷ ks) h =
    goes_first (string_bytes k) (is_key keys (string_bytes l)) (unknowns_of keys ks) (string_bytes l) (before_all keys k ks h.1)
    (nat_list_cmp_total.antisymm (string_bytes l) (string_bytes k) ∙ ap ordering_reverse h.0)

pub unknown_view : (keys : List Key) (es : List (String Global × Value))
    → IsStrictlySortedBy string_cmp (keys_of es) → unknown_in keys (members_view es) ≡ unknowns_of keys (keys_of es)
unfolding IsStrictlySortedBy
unknown_view keys [] h = refl
unknown_view keys (e ∷ es) h =
    ap (λ (r : List (List ℕ)). if is_key keys (string_bytes e.0) then r else put_in_order (string_bytes e.0) r) (unknown_view keys es h.1) ∙
    ap (λ (r : List (List ℕ)). if is_key keys (string_bytes e.0) then unknowns_of keys (keys_of es) else r) (before_all keys e.0 (keys_of es) h.0)

-- the unknown keys of a part, as they are found
pub unknown_start : (part : Part) (keys : List Key) (table : Members) (ks : List (String Global)) (old : List Placed) →
    keys ≡ part_keys part → table ≡ table_of part → unknown_in keys table ≡ unknowns_of keys ks →
    old ++ each_unknown part (unknowns_of keys ks) ≡ old ++ unknown_faults part
unfolding unknown_faults
unknown_start part keys table ks old e f h =
    ap (λ (texts : List (List ℕ)). old ++ each_unknown part texts)
    (sym h ∙ ap (λ (k : List Key). unknown_in k table) e ∙ ap (λ (t : Members). unknown_in (part_keys part) t) f)

-- a name that is checked
pub name_taken : (names : List (Bor (List ℕ))) (text : List ℕ) → is_name text ≡ true →
    list_any (λ (name : Bor (List ℕ)). bytes_eq name.now text) names ≡ true → Err RepeatedName ≡ name_among (texts_seen names) text
name_taken names text good taken = rw (good, sym (any_text names text) ∙ taken) refl

pub name_free : (names : List (Bor (List ℕ))) (text : List ℕ) → is_name text ≡ true →
    list_any (λ (name : Bor (List ℕ)). bytes_eq name.now text) names ≡ false → Ok text ≡ name_among (texts_seen names) text
name_free names text good taken = rw (good, sym (any_text names text) ∙ taken) refl

pub told_as : (y z : List Placed) (p p' : Place) (o o' : Option Fault) → z ≡ y ++ told p o → p ≡ p' → o ≡ o' → z ≡ y ++ told p' o'
told_as y z p p' o o' put e f = put ∙ ap (λ (q : Place). y ++ told q o) e ∙ ap (λ (q : Option Fault). y ++ told p' q) f

-- the first route and the others
pub routes_step : (written : Items) (wrong : List Placed) (number : ℕ) (names : List (List ℕ)) (vs : List Value) (d : Value) → 0 < length vs →
    routes_faults written wrong number names (items_view vs)
    ≡ table_faults written wrong number names (as_table (view (get_or vs 0 d))) ++
    routes_faults written wrong (suc number) (names_after names (as_table (view (get_or vs 0 d)))) (items_view (drop 1 vs))
routes_step written wrong number names [] d some = absurd (omega arith)
routes_step written wrong number names (v ∷ vs) d some = refl

-- one route more
pub next_route : (written : Items) (wrong : List Placed) (number : ℕ) (names after : List (List ℕ)) (vs : List Value) (v d : Value) (x y z : List Placed) →
    0 < length vs → v ≡ get_or vs 0 d → y ++ routes_faults written wrong number names (items_view vs) ≡ x →
    z ≡ y ++ table_faults written wrong number names (as_table (view v)) → after ≡ names_after names (as_table (view v)) →
    z ++ routes_faults written wrong (suc number) after (items_view (drop 1 vs)) ≡ x
next_route written wrong number names after vs v d x y z some is before put named =
    let here = table_faults written wrong number names (as_table (view v)) in
    let later = λ (ns : List (List ℕ)). routes_faults written wrong (suc number) ns (items_view (drop 1 vs)) in
    ap (λ (l : List Placed). l ++ later after) put ∙ append_assoc y here (later after) ∙
    ap (λ (ns : List (List ℕ)). y ++ (here ++ later ns)) named ∙
    ap (λ (w : Value). y ++ (table_faults written wrong number names (as_table (view w)) ++ later (names_after names (as_table (view w))))) is ∙
    ap (λ (l : List Placed). y ++ l) (sym (routes_step written wrong number names vs d some)) ∙ before
