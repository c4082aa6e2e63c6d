-- Facts about all numbers below a small one, by computing a test of each.
use Rattle.std.proofs.Common.{◌≡◌, ℕ, zero, suc, ◌+◌, ◌<◌, ◌≤◌, Bool, true, false, ◌&&◌, ◌⊎◌, List, [], ◌∷◌, map, refl, sym, ap, ◌∙◌, subst, inl, inr}
use Rattle.std.proofs.Common.{arith, eqb}
use Rattle.std.specs.List.{range_with_len}
use Rattle.std.proofs.lemmas.Bool.{and_parts, cases_lt}

-- the test holds of all numbers below count
abbrev pub all_to : (ℕ → Bool) → (count : ℕ) → Bool
all_to test zero = true
all_to test (suc count) = test count && all_to test count

pub all_to-at : (test : ℕ → Bool) (count : ℕ) → all_to test count ≡ true → (k : ℕ) → k < count → test k ≡ true
all_to-at test zero all k below = absurd (omega arith)
all_to-at test (suc count) all k below =
    let parts = and_parts (test count) (all_to test count) all in
    elim (cases_lt k count) [
      | inl less ↦ all_to-at test count parts.1 k less
      | inr more ↦ let same : k ≡ count = omega arith in subst (λ (n : ℕ). test n ≡ true) (sym same) parts.0
    ]

-- lists over a range are equal if their items are
pub same_over_range : (f g : ℕ → ℕ) (from count : ℕ) → ((i : ℕ) → i < from + count → f i ≡ g i) →
    map f (range_with_len from count) ≡ map g (range_with_len from count)
same_over_range f g from zero same = refl
same_over_range f g from (suc count) same =
    let head = same from (omega arith) in
    let tail = same_over_range f g (from + 1) count (λ i below. same i (omega arith)) in
    cc
