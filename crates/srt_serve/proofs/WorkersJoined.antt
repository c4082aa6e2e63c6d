-- Workers that are started and joined, one after another.
use Rattle.std.proofs.Common.{◌≡◌, ◌∙◌, ◌⊎◌, inl, inr, ℕ, zero, suc, ◌+◌, ◌<◌, List, [], ◌∷◌, ◌++◌, length, slice_get, Some, refl, sym, ap, arith}

some_same : {X : Type 0} (x y : X) → Some x ≡ Some y → x ≡ y
some_same x y h = cc

-- what stands at a place of a list with one element more
pub snoc_shows : {X : Type 0} (xs : List X) (w x : X) (k : ℕ) → slice_get (xs ++ w ∷ []) k ≡ Some x
    → ((k < length xs) × (slice_get xs k ≡ Some x)) ⊎ ((k ≡ length xs) × (w ≡ x))
snoc_shows [] w x zero h = inr (refl, some_same w x h)
snoc_shows [] w x (suc k) h = absurd cc
snoc_shows (y ∷ xs) w x zero h = inl (omega arith, h)
snoc_shows (y ∷ xs) w x (suc k) h = elim (snoc_shows xs w x k h) [
  | inl p ↦ inl (omega (arith, p.0), p.1)
  | inr p ↦ inr (omega (arith, p.0), p.1)
]

-- the elements at the first places have the numbers of their places, and so has one more at the end
pub numbered_next : {X : Type 0} (number : X → ℕ) (xs all : List X) (w : X) (n : ℕ) → all ≡ xs ++ w ∷ [] → length xs ≡ n → number w ≡ n
    → ((k : ℕ) (x : X) → slice_get xs k ≡ Some x → number x ≡ k) → (k : ℕ) (x : X) → slice_get all k ≡ Some x → number x ≡ k
numbered_next number xs all w n is many here before k x at =
    elim (snoc_shows xs w x k (ap (λ zs. slice_get zs k) (sym is) ∙ at)) [
      | inl p ↦ before k x p.1
      | inr p ↦ sym (ap number p.1) ∙ here ∙ sym many ∙ sym p.0
    ]
