-- The three lengths of keys.
use Rattle.std.proofs.Common.{◌≡◌, ℕ, ◌+◌, ◌*◌, ◌/◌, ◌<◌, ◌⊎◌, Bool, true, false, ◌||◌, refl, subst, sym, inl, inr, arith, eqb}
use Rattle.std.proofs.lemmas.Bool.{eqb-true}
use Rattle.srt_aes.specs.Aes.{IsKeyLength}

either : (a b : Bool) → (a || b) ≡ true → (a ≡ true) ⊎ (b ≡ true)
either true b h = inl refl
either false b h = inr h

pub key_lengths : (n : ℕ) → IsKeyLength n → (n ≡ 16) ⊎ ((n ≡ 24) ⊎ (n ≡ 32))
key_lengths n is =
    elim (either (eqb n 16) (eqb n 24 || eqb n 32) is) [
      | inl e ↦ inl (eqb-true n 16 e)
      | inr rest ↦ elim (either (eqb n 24) (eqb n 32) rest) [
        | inl e ↦ inr (inl (eqb-true n 24 e))
        | inr e ↦ inr (inr (eqb-true n 32 e))
      ]
    ]

quarter_of : (n : ℕ) → (n ≡ 16) ⊎ ((n ≡ 24) ⊎ (n ≡ 32)) → 4 * (n / 4) ≡ n
quarter_of n (inl e) = rw e refl
quarter_of n (inr (inl e)) = rw e refl
quarter_of n (inr (inr e)) = rw e refl

pub quarter : (n : ℕ) → IsKeyLength n → 4 * (n / 4) ≡ n
quarter n is = quarter_of n (key_lengths n is)

bounded : (n : ℕ) → (n ≡ 16) ⊎ ((n ≡ 24) ⊎ (n ≡ 32)) → (15 < n) × (n < 33)
bounded n (inl e) = (omega arith, omega arith)
bounded n (inr (inl e)) = (omega arith, omega arith)
bounded n (inr (inr e)) = (omega arith, omega arith)

pub key_bounds : (n : ℕ) → IsKeyLength n → (15 < n) × (n < 33)
key_bounds n is = bounded n (key_lengths n is)

few_of : (n i : ℕ) → (n ≡ 16) ⊎ ((n ≡ 24) ⊎ (n ≡ 32)) → i < 4 * (n / 4) + 28 → i / (n / 4) < 11
few_of n i (inl e) less =
    let below : i < 44 = subst (λ (m : ℕ). i < 4 * (m / 4) + 28) e less in
    let goal : i / 4 < 11 = omega arith in subst (λ (m : ℕ). i / (m / 4) < 11) (sym e) goal
few_of n i (inr (inl e)) less =
    let below : i < 52 = subst (λ (m : ℕ). i < 4 * (m / 4) + 28) e less in
    let goal : i / 6 < 11 = omega arith in subst (λ (m : ℕ). i / (m / 4) < 11) (sym e) goal
few_of n i (inr (inr e)) less =
    let below : i < 60 = subst (λ (m : ℕ). i < 4 * (m / 4) + 28) e less in
    let goal : i / 8 < 11 = omega arith in subst (λ (m : ℕ). i / (m / 4) < 11) (sym e) goal

-- Rcon is asked for at most at 10
pub few_constants : (n i : ℕ) → IsKeyLength n → i < 4 * (n / 4) + 28 → i / (n / 4) < 11
few_constants n i is less = few_of n i (key_lengths n is) less
