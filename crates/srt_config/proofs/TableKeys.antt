-- The keys of a table, which its map keeps in the order of their bytes.
use Rattle.std.proofs.Common.{◌≡◌, ℕ, Bool, true, false, cond, List, [], ◌∷◌, String, Global, string_bytes, Option, None, Some, Less}
use Rattle.std.proofs.Common.{Greater, nat_cmp, refl, ap, ◌∙◌, if◌then◌else◌}
use Rattle.std.specs.List.{AllByRecursion}
use Rattle.std.specs.List.Sorted.{IsStrictlySortedBy}
use Rattle.std.specs.Map.{keys_of}
use Rattle.std.specs.Ordering.{ordering_reverse}
use Rattle.std.specs.Cmp.Lexicographic.{slice_cmp}
use Rattle.std.specs.String.{string_cmp}
use Rattle.std.proofs.lemmas.Cmp.{nat_list_cmp_total}
use Rattle.toml.specs.View.{members_view}
use Rattle.toml.specs.declared.value.Value.{Value}
use Rattle.srt_config.specs.declared.config.keys.Key.{Key}
use Rattle.srt_config.specs.Keys.{is_key, lesser, least_unknown}

-- the first of these texts that is none of these keys
abbrev pub unknown_of : List Key → List (String Global) → Option (List ℕ)
unknown_of keys [] = None
unknown_of keys (k ∷ ks) = if is_key keys (string_bytes k) then unknown_of keys ks else Some (string_bytes k)

chosen : (x : List ℕ) (known : Bool) (rest : Option (List ℕ)) (text : List ℕ)
    → lesser x rest ≡ x → slice_cmp nat_cmp text x ≡ Greater → lesser x (cond known rest (Some text)) ≡ x
chosen x true rest text h g = h
chosen x false rest text h g = rw g refl

-- a key before all of them is the least
before_all : (keys : List Key) (k : String Global) (ks : List (String Global))
    → AllByRecursion (λ y. string_cmp k y ≡ Less) ks → lesser (string_bytes k) (unknown_of keys ks) ≡ string_bytes k
before_all keys k [] h = refl
before_all keys k (l ∷ ks) h =
    chosen (string_bytes k) (is_key keys (string_bytes l)) (unknown_of keys ks) (string_bytes l) (before_all keys k ks h.1)
    (nat_list_cmp_total.antisymm (string_bytes l) (string_bytes k) ∙ ap ordering_reverse h.0)

pub view_keys : (keys : List Key) (es : List (String Global × Value))
    → IsStrictlySortedBy string_cmp (keys_of es) → least_unknown keys (members_view es) ≡ unknown_of keys (keys_of es)
unfolding IsStrictlySortedBy
view_keys keys [] h = refl
view_keys keys (e ∷ es) h =
    ap (λ (r : Option (List ℕ)). if is_key keys (string_bytes e.0) then r else Some (lesser (string_bytes e.0) r)) (view_keys keys es h.1) ∙
    ap (λ (text : List ℕ). if is_key keys (string_bytes e.0) then unknown_of keys (keys_of es) else Some text) (before_all keys e.0 (keys_of es) h.0)
