-- Routes that are appended hidden, and names that no other visible route has.
use Rattle.std.proofs.Common.{◌≡◌, ◌≢◌, ℕ, zero, suc, ◌≤◌, Bool, true, false, List, [], ◌∷◌, ◌++◌, length, Option, None, Some}
use Rattle.std.proofs.Common.{IfSome, IsTrue, slice_get, nat_eq, inl, inr, ◌⊎◌, refl, sym, ap, subst, ◌∙◌, arith}
use Rattle.std.proofs.lemmas.Bool.{cases_eq}
use Rattle.std.proofs.lemmas.Bool.Decides.{nat_tests}
use Rattle.srt_types.specs.Access.{AccessTerms}
use Rattle.srt_lobby.specs.Names.{RouteName, shown, hidden, index_of, is_shown_at, has_name, AreDistinct}
use Rattle.srt_lobby.specs.Changing.{marked_at, hidden_at, shown_at, IsUnused}
use Rattle.srt_lobby.proofs.Finds.{found_there, has_name_shown}
use Rattle.srt_lobby.proofs.Changing.{not_there, stays, is_hidden, was_shown, hiding_keeps_names}
use Rattle.srt_lobby.proofs.HiddenNames.{index_more}

-- the last name
slice_last : (names : List RouteName) (x : RouteName) → slice_get (names ++ x ∷ []) (length names) ≡ Some x
slice_last [] x = refl
slice_last (n ∷ ns) x = slice_last ns x

marked_last : (b : Bool) (names : List RouteName) (x : RouteName)
    → marked_at b (length names) (names ++ x ∷ []) ≡ names ++ record x { is_shown = b } ∷ []
marked_last b [] x = refl
marked_last b (n ∷ ns) x = ap (λ (rest : List RouteName). n ∷ rest) (marked_last b ns x)

pub shown_last : (names : List RouteName) (text : List ℕ) (access : AccessTerms)
    → shown_at (length names) (names ++ hidden text access ∷ []) ≡ names ++ shown text access ∷ []
shown_last names text access = marked_last true names (hidden text access)

pub last_unused : (names : List RouteName) (text : List ℕ) (access : AccessTerms)
    → index_of names text ≡ None → IsUnused (length names) (names ++ hidden text access ∷ [])
last_unused names text access none =
    subst (λ (o : Option RouteName). IfSome o (λ name. index_of (hidden_at (length names) (names ++ hidden text access ∷ [])) name.text ≡ None))
    (sym (slice_last names (hidden text access)))
    (ap (λ (ns : List RouteName). index_of ns text) (marked_last false names (hidden text access))
    ∙ index_more names (hidden text access ∷ []) (refl, tt) text
    ∙ none)

-- whether another visible route has a route's name
module _ (names : List RouteName) (distinct : AreDistinct names) (r : ℕ) (name : RouteName) (here : slice_get names r ≡ Some name) where
  unused_if : index_of (hidden_at r names) name.text ≡ None → IsUnused r names
  unused_if none = subst (λ (o : Option RouteName). IfSome o (λ n. index_of (hidden_at r names) n.text ≡ None)) (sym here) none

  pub unused_if_none : index_of names name.text ≡ None → IsUnused r names
  unused_if_none none = unused_if (by (index_of (hidden_at r names) name.text) refl)
    where
      by : (o : Option ℕ) → index_of (hidden_at r names) name.text ≡ o → o ≡ None
      by None e = refl
      by (Some i) e = absurd (not_there names i name.text distinct (was_shown names r i name.text (found_there (hidden_at r names) i name.text e)) none)

  pub unused_if_own : index_of names name.text ≡ Some r → IsUnused r names
  unused_if_own own = unused_if (by (index_of (hidden_at r names) name.text) refl)
    where
      by : (o : Option ℕ) → index_of (hidden_at r names) name.text ≡ o → o ≡ None
      by None e = refl
      by (Some i) e =
          let there = found_there (hidden_at r names) i name.text e in
          let same : i ≡ r = distinct i r name.text (was_shown names r i name.text there) (found_there names r name.text own) in
          let bad : false ≡ true = sym (is_hidden names r) ∙ ap (is_shown_at (hidden_at r names)) (sym same) ∙ has_name_shown name.text _ there in
          cc

  pub used_if_other : (s : ℕ) → index_of names name.text ≡ Some s → s ≢ r → IsUnused r names → ⊥
  used_if_other s other apart unused =
      let none : index_of (hidden_at r names) name.text ≡ None =
      subst (λ (o : Option RouteName). IfSome o (λ n. index_of (hidden_at r names) n.text ≡ None)) here unused in
      not_there (hidden_at r names) s name.text (hiding_keeps_names names r distinct)
      (ap (has_name name.text) (stays false names r s apart) ∙ found_there names s name.text other) none

  pub unused_test : (s : ℕ) → index_of names name.text ≡ Some s → (IsTrue (nat_eq s r) → IsUnused r names) × (IsUnused r names → IsTrue (nat_eq s r))
  unused_test s found = (
    λ same. unused_if_own (found ∙ ap Some (let at : s ≡ r = grind (arith, nat_tests, same) in at)),
    λ unused. by unused (cases_eq s r),
  )
    where
      by : IsUnused r names → (s ≡ r) ⊎ (s ≢ r) → nat_eq s r ≡ true
      by unused (inl same) = grind (arith, nat_tests, same)
      by unused (inr apart) = absurd (used_if_other s found apart unused)

-- an index without a route
nothing_at : (names : List RouteName) (r : ℕ) → length names ≤ r → slice_get names r ≡ None
nothing_at [] r beyond = refl
nothing_at (n ∷ ns) zero beyond = absurd (omega (arith, beyond))
nothing_at (n ∷ ns) (suc r) beyond = nothing_at ns r (omega (arith, beyond))

pub unused_beyond : (names : List RouteName) (r : ℕ) → length names ≤ r → IsUnused r names
unused_beyond names r beyond =
    subst (λ (o : Option RouteName). IfSome o (λ name. index_of (hidden_at r names) name.text ≡ None)) (sym (nothing_at names r beyond)) tt
