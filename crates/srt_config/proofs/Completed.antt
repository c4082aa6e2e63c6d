-- A table completed by defaults.
use Rattle.std.proofs.Common.{◌≡◌, ℕ, Bool, true, false, is_some, option_map, map, List, [], ◌∷◌, String, Global, string_bytes}
use Rattle.std.proofs.Common.{Option, None, Some, option_and_then}
use Rattle.std.proofs.Common.{Ordering, Less, Equal, Greater, nat_cmp, refl, sym, ap, subst, ◌∙◌, if◌then◌else◌}
use Rattle.std.proofs.lemmas.Cmp.{nat_list_cmp_total}
use Rattle.std.specs.Cmp.{tied_itself, alike_right}
use Rattle.std.specs.Ordering.{match_ordering}
use Rattle.std.specs.Cmp.Lexicographic.{slice_cmp}
use Rattle.std.specs.BTreeMap.{insert_entry, is_at}
use Rattle.std.specs.Map.{lookup}
use Rattle.std.specs.String.{string_cmp}
use Rattle.toml.specs.Data.{Data, array, Items, item, Members, no_members, member, get_member, as_table}
use Rattle.toml.specs.View.{view, items_of, items_view, members_view}
use Rattle.toml.specs.declared.value.Value.{Value}
use Rattle.toml.proofs.Views.{Entry, view-lookup}
use Rattle.srt_config.specs.declared.config.keys.Key.TheVariants.{Defaults, Route}
use Rattle.srt_config.specs.KeyTable.{key_name}
use Rattle.srt_config.specs.Config.{settings_at}
use Rattle.srt_config.specs.Defaults.{set_member, with_missing, completed, completed_if, completed_items, table_at, items_at, completed_by}
use Rattle.srt_config.specs.Defaults.{with_routes, with_defaults}
use Rattle.srt_config.specs.DefaultLaws.{or_default, OwnBeforeDefault, NoneWithoutDefaults, HasKeysOf, WrittenOutStays}

in_order : (o : Ordering) (a b c : List Entry) → members_view (match_ordering o a b c) ≡ match_ordering o (members_view a) (members_view b) (members_view c)
in_order Less a b c = refl
in_order Equal a b c = refl
in_order Greater a b c = refl

-- the map's insertion is the table's
pub set_view : (es : List Entry) (k : String Global) (v : Value) →
    members_view (insert_entry string_cmp es k v) ≡ set_member (string_bytes k) (view v) (members_view es)
set_view [] k v = refl
set_view (e ∷ es) k v = in_order (string_cmp k e.0) _ _ _ ∙ rw (set_view es k v)

some_mapped : (o : Option Value) → is_some (option_map view o) ≡ is_some o
some_mapped None = refl
some_mapped (Some v) = refl

-- what the map finds at a key
abbrev found_in : List ℕ → List Entry → Option Value
found_in k es = lookup (is_at (λ x. slice_cmp nat_cmp k (string_bytes x))) es

has_view : (k : List ℕ) (es : List Entry) (t : Bool) → is_some (found_in k es) ≡ t → is_some (get_member k (members_view es)) ≡ t
has_view k es t h = ap is_some (sym (view-lookup k es)) ∙ some_mapped (found_in k es) ∙ h

-- a key that is there stays, and another one is put
pub kept_view : (k text : List ℕ) (v : Data) (es : List Entry) → k ≡ text → is_some (found_in k es) ≡ true →
    members_view es ≡ with_missing text v (members_view es)
kept_view k text v es same h = subst (λ (t : List ℕ). members_view es ≡ with_missing t v (members_view es)) same (rw (has_view k es true h) refl)

pub put_view : (k text : List ℕ) (name : String Global) (v : Value) (d : Data) (es : List Entry) → k ≡ text → string_bytes name ≡ text → view v ≡ d →
    is_some (found_in k es) ≡ false → members_view (insert_entry string_cmp es name v) ≡ with_missing text d (members_view es)
put_view k text name v d es same named seen h =
    set_view es name v ∙
    ap (λ (t : List ℕ). set_member t (view v) (members_view es)) named ∙
    ap (λ (x : Data). set_member text x (members_view es)) seen ∙
    subst (λ (t : List ℕ). set_member t d (members_view es) ≡ with_missing t d (members_view es)) same (rw (has_view k es false h) refl)

-- the value at the first key or after it, by the order of the key that is looked for
abbrev at_first : Ordering → (value : Data) (rest : Option Data) → Option Data
at_first o value rest = match_ordering o rest (Some value) rest

-- two keys of the same bytes have the same value
same_at : (q k : List ℕ) (ms : Members) → slice_cmp nat_cmp q k ≡ Equal → get_member q ms ≡ get_member k ms
same_at q k no_members e = refl
same_at q k (member l d ms) e =
    ap (λ (o : Ordering). at_first o d (get_member q ms)) (nat_list_cmp_total.congr q k l e)
    ∙ ap (at_first (slice_cmp nat_cmp k l) d) (same_at q k ms e)

first_wins : (o : Ordering) (v d : Data) (rest : Option Data) → at_first o v rest ≡ at_first o v (at_first o d rest)
first_wins Less v d rest = refl
first_wins Equal v d rest = refl
first_wins Greater v d rest = refl

exchanged : (o p : Ordering) (v d : Data) (rest : Option Data) → (o ≡ Equal → p ≡ Equal → ⊥) →
    at_first o d (at_first p v rest) ≡ at_first p v (at_first o d rest)
exchanged Less p v d rest h = refl
exchanged Equal Less v d rest h = refl
exchanged Equal Equal v d rest h = absurd (h refl refl)
exchanged Equal Greater v d rest h = refl
exchanged Greater p v d rest h = refl

not_both : Greater ≡ Equal → ⊥
not_both e = cc

-- what is found after a value was put at a key
get_set : (q k : List ℕ) (v : Data) (ms : Members) → get_member q (set_member k v ms) ≡ at_first (slice_cmp nat_cmp q k) v (get_member q ms)
get_set q k v no_members = refl
get_set q k v (member l d ms) = by (slice_cmp nat_cmp k l) refl (get_set q k v ms)
  where
    by : (o : Ordering) → slice_cmp nat_cmp k l ≡ o →
        get_member q (set_member k v ms) ≡ at_first (slice_cmp nat_cmp q k) v (get_member q ms) →
        get_member q (match_ordering o (member k v (member l d ms)) (member l v ms) (member l d (set_member k v ms)))
        ≡ at_first (slice_cmp nat_cmp q k) v (get_member q (member l d ms))
    by Less e ih = refl
    by Equal e ih =
        first_wins (slice_cmp nat_cmp q l) v d (get_member q ms) ∙
        ap (λ (o : Ordering). at_first o v (at_first (slice_cmp nat_cmp q l) d (get_member q ms))) (sym (alike_right nat_list_cmp_total k l q e))
    by Greater e ih =
        ap (at_first (slice_cmp nat_cmp q l) d) ih ∙
        exchanged (slice_cmp nat_cmp q l) (slice_cmp nat_cmp q k) v d (get_member q ms)
        (λ a b. not_both (sym e ∙ sym (nat_list_cmp_total.congr q k l b) ∙ a))

own_or_none : (own : Option Data) → own ≡ or_default own None
own_or_none None = refl
own_or_none (Some x) = refl

-- what is found after a missing value was put at a key
get_missing : (q k : List ℕ) (v : Data) (ms : Members) →
    get_member q (with_missing k v ms) ≡ or_default (get_member q ms) (at_first (slice_cmp nat_cmp q k) v None)
get_missing q k v ms = by (get_member k ms) refl
  where
    none_some : (w : Data) → None ≡ Some w → ⊥
    none_some w e = cc

    kept : (w : Data) → get_member k ms ≡ Some w → (o : Ordering) → slice_cmp nat_cmp q k ≡ o → (found : Option Data) → get_member q ms ≡ found →
        found ≡ or_default found (at_first o v None)
    kept w has o e (Some x) is = refl
    kept w has Less e None is = refl
    kept w has Equal e None is = absurd (none_some w (sym is ∙ same_at q k ms e ∙ has))
    kept w has Greater e None is = refl

    put : get_member k ms ≡ None → (o : Ordering) → slice_cmp nat_cmp q k ≡ o →
        at_first o v (get_member q ms) ≡ or_default (get_member q ms) (at_first o v None)
    put none Less e = own_or_none (get_member q ms)
    put none Equal e = ap (λ (own : Option Data). or_default own (Some v)) (sym (same_at q k ms e ∙ none))
    put none Greater e = own_or_none (get_member q ms)

    by : (o : Option Data) → get_member k ms ≡ o →
        get_member q (if is_some o then ms else set_member k v ms) ≡ or_default (get_member q ms) (at_first (slice_cmp nat_cmp q k) v None)
    by (Some w) has = kept w has (slice_cmp nat_cmp q k) refl (get_member q ms) refl
    by None none = get_set q k v ms ∙ put none (slice_cmp nat_cmp q k) refl

in_two : (own : Option Data) (o : Ordering) (v : Data) (rest : Option Data) →
    or_default (or_default own (at_first o v None)) rest ≡ or_default own (at_first o v rest)
in_two (Some x) o v rest = refl
in_two None Less v rest = refl
in_two None Equal v rest = refl
in_two None Greater v rest = refl

pub own_before_default : OwnBeforeDefault
own_before_default q route no_members = own_or_none (get_member q route)
own_before_default q route (member k v rest) =
    own_before_default q (with_missing k v route) rest ∙
    ap (λ (own : Option Data). or_default own (get_member q rest)) (get_missing q k v route) ∙
    in_two (get_member q route) (slice_cmp nat_cmp q k) v (get_member q rest)

pub none_without_defaults : NoneWithoutDefaults
unfolding with_defaults
none_without_defaults table none = (same, ap settings_at same)
  where
    same : with_defaults table ≡ table
    same = ap (λ (found : Option Data). with_routes (completed_by (option_and_then as_table found) (items_at Route table)) table) none

pub written_out_stays : WrittenOutStays
written_out_stays route no_members has = refl
written_out_stays route (member k v rest) has = ap (λ (r : Members). completed r rest) stays ∙ written_out_stays route rest later
  where
    stays : with_missing k v route ≡ route
    stays =
        let own : is_some (get_member k (member k v rest)) ≡ true = rw (tied_itself nat_list_cmp_total k) refl in
        rw (has k own) refl

    some_first : (o : Ordering) (found : Option Data) → is_some found ≡ true → is_some (at_first o v found) ≡ true
    some_first Less found h = h
    some_first Equal found h = refl
    some_first Greater found h = h

    later : HasKeysOf route rest
    later key h = has key (some_first (slice_cmp nat_cmp key k) (get_member key rest) h)

-- values that are completed one by one
pub completed_view : (routes values : List Value) (defaults : Members) →
    map view routes ≡ map (λ v. completed_if (as_table (view v)) (view v) defaults) values → items_view routes ≡ completed_items (items_view values) defaults
completed_view routes values defaults same = ap items_of same ∙ by values
  where
    by : (vs : List Value) → items_of (map (λ v. completed_if (as_table (view v)) (view v) defaults) vs) ≡ completed_items (items_view vs) defaults
    by [] = refl
    by (v ∷ vs) = ap (item (completed_if (as_table (view v)) (view v) defaults)) (by vs)

-- the routes are put into the table
pub with_completed : (es : List Entry) (routes : Items) (k : String Global) (v : Value) →
    completed_by (table_at Defaults (members_view es)) (items_at Route (members_view es)) ≡ Some routes → string_bytes k ≡ key_name Route →
    view v ≡ array routes → members_view (insert_entry string_cmp es k v) ≡ with_defaults (members_view es)
unfolding with_defaults
with_completed es routes k v found named seen =
    set_view es k v ∙
    ap (λ (t : List ℕ). set_member t (view v) (members_view es)) named ∙
    ap (λ (x : Data). set_member (key_name Route) x (members_view es)) seen ∙
    sym (ap (λ (r : Option Items). with_routes r (members_view es)) found)
