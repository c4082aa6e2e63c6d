-- Names of entries that can be opened.
use Rattle.std.proofs.Common.{◌≡◌, ℕ, zero, suc, ◌<◌, Bool, true, false, not, ◌&&◌, ◌||◌, cond, List, [], ◌∷◌, ◌++◌, take, map, Option}
use Rattle.std.proofs.Common.{None, Some, slice_get, refl, sym, ap, ◌∙◌, arith}
use Rattle.std.specs.Str.{bytes_eq}
use Rattle.std.proofs.lemmas.Bool.{or_right}
use Rattle.std.proofs.lemmas.Slice.Eq.{bytes_eq-Decides}
use Rattle.srt_types.specs.declared.shared.OpenFault.TheVariants as faults
use Rattle.srt_types.specs.Terms.{Terms}
use Rattle.srt_types.specs.Entries.{is_name}
use Rattle.srt_lobby.specs.Opening.{text_in, is_taken, are_names, are_in_limits, fault_of}
use Rattle.srt_lobby.specs.Names.{RouteName, name_of, index_of, has_name_at}
use Rattle.srt_lobby.specs.Laws.{NamesAreDistinct}
use Rattle.srt_lobby.proofs.Finds.{requested_is_text, found_there}

true_or : (b c : Bool) → b ≡ true → (b || c) ≡ true
true_or true c h = refl
true_or false c h = cc

record Parts (b c : Bool) : Type 0 where
  new : b ≡ false
  more : c ≡ true

parts : (a b c : Bool) → (a && not b && c) ≡ true → Parts b c
parts true true c h = cc
parts true false c h = record { new = refl; more = h }
parts false true c h = cc
parts false false c h = cc

first_parts : (e : Terms) (es : List Terms) → are_names (e ∷ es) ≡ true → Parts (is_taken e.name es) (are_names es)
first_parts e es h = parts (is_name e.name) (is_taken e.name es) (are_names es) h

taken : (name : List ℕ) (es : List Terms) (k : ℕ) → slice_get (map text_in es) k ≡ Some name → is_taken name es ≡ true
taken name [] k h = cc
taken name (e ∷ es) zero h = true_or (bytes_eq e.name name) (is_taken name es) ((bytes_eq-Decides e.name name).1 (cc))
taken name (e ∷ es) (suc k) h = or_right (bytes_eq e.name name) (is_taken name es) (taken name es k h)

-- no text appears twice
abbrev AreApart : List (List ℕ) → Type 0
AreApart texts = (i j : ℕ) (text : List ℕ) → slice_get texts i ≡ Some text → slice_get texts j ≡ Some text → i ≡ j

distinct : (es : List Terms) → are_names es ≡ true → AreApart (map text_in es)
distinct [] h i j name p q = cc
distinct (e ∷ es) h zero zero name p q = refl
distinct (e ∷ es) h zero (suc j) name p q =
    let both = first_parts e es h in
    let same : e.name ≡ name = cc in
    let there : is_taken e.name es ≡ true = taken e.name es j (q ∙ ap Some (sym same)) in
    let never : true ≡ false = sym there ∙ both.new in
    cc
distinct (e ∷ es) h (suc i) zero name p q =
    let both = first_parts e es h in
    let same : e.name ≡ name = cc in
    let there : is_taken e.name es ≡ true = taken e.name es i (p ∙ ap Some (sym same)) in
    let never : true ≡ false = sym there ∙ both.new in
    cc
distinct (e ∷ es) h (suc i) (suc j) name p q = ap suc (distinct es (first_parts e es h).more i j name p q)

named : (es : List Terms) → fault_of es ≡ None → are_names es ≡ true
named es h = by_test (are_names es) (are_in_limits es) h
  where
    by_test : (a b : Bool) → cond a (cond b None (Some faults.Limits)) (Some faults.Names) ≡ None → a ≡ true
    by_test true b h = refl
    by_test false b h = cc

text_at : (es : List Terms) (i : ℕ) (text : List ℕ) → has_name_at (map name_of es) i text ≡ true → slice_get (map text_in es) i ≡ Some text
text_at [] i text h = cc
text_at (e ∷ es) zero text h = ap Some (sym (requested_is_text text (name_of e) h))
text_at (e ∷ es) (suc i) text h = text_at es i text h

pub names_are_distinct : NamesAreDistinct
names_are_distinct es h i j text p q = distinct es (named es h) i j text (text_at es i text p) (text_at es j text q)

taken_at : (names : List RouteName) (i k : ℕ) (text : List ℕ) → has_name_at (take i names) k text ≡ true → (has_name_at names k text ≡ true) × (k < i)
taken_at names zero k text h = absurd (let bad : false ≡ true = h in cc)
taken_at [] (suc i) k text h = absurd (let bad : false ≡ true = h in cc)
taken_at (n ∷ ns) (suc i) zero text h = (h, omega arith)
taken_at (n ∷ ns) (suc i) (suc k) text h =
    let rest = taken_at ns i k text h in
    (rest.0, omega (arith, rest.1))

-- the name of an entry isn't found before its index
pub not_yet : (es : List Terms) (i : ℕ) (name : List ℕ)
    → are_names es ≡ true → slice_get (map text_in es) i ≡ Some name → index_of (take i (map name_of es)) name ≡ None
not_yet es i name h p = by (index_of (take i (map name_of es)) name) refl
  where
    by : (o : Option ℕ) → index_of (take i (map name_of es)) name ≡ o → o ≡ None
    by None e = refl
    by (Some k) e =
        let before = taken_at (map name_of es) i k name (found_there (take i (map name_of es)) k name e) in
        let same : k ≡ i = distinct es h k i name (text_at es k name before.0) p in
        absurd (omega (arith, same, before.1))

-- one more name
pub take_name : (es : List Terms) (i : ℕ) (name : RouteName)
    → slice_get (map name_of es) i ≡ Some name → take (suc i) (map name_of es) ≡ take i (map name_of es) ++ name ∷ []
take_name [] i name h = cc
take_name (e ∷ es) zero name h = ap (λ (n : RouteName). n ∷ []) (let same : name_of e ≡ name = cc in same)
take_name (e ∷ es) (suc i) name h = ap (λ (rest : List RouteName). name_of e ∷ rest) (take_name es i name h)
