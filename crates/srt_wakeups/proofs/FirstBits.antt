-- The first bit of a word from a place on.
use Rattle.std.proofs.Common.{◌≡◌, ℕ, zero, suc, ◌-◌, ◌*◌, ◌^◌, ◌<◌, ◌≤◌, ◌⊎◌, inl, inr, true, sym, ap, subst, ◌∙◌, bit_and, arith}
use Rattle.std.specs.Prelude.{nat_eq, not, ◌==◌}
use Rattle.std.specs.Int.{bit_at, w64}
use Rattle.std.specs.Int.Count.{count_trailing_zeros, trailing_of_zero}
use Rattle.std.proofs.lemmas.Bool.{cases_lt}
use Rattle.std.proofs.lemmas.Bool.Decides.{nat_tests}
use Rattle.std.proofs.lemmas.Nat.{and_le_l}
use Rattle.std.proofs.lemmas.Nat.Bits.{bit_at_and, bit_at-lt, bit_at-zero, bit_at_mask_inside, bit_at_mask_below, bit_at-trailing_zeros}
use Rattle.srt_wakeups.specs.inside.Words.{IsFirstFrom}

-- the test of one bit
is_not_zero : (n : ℕ) → 0 < n → not (nat_eq n 0) ≡ true
is_not_zero n positive = grind (arith, nat_tests)

pub is_one : (bit power : ℕ) → bit < 2 → 0 < power → not (nat_eq (bit * power) 0) ≡ bit == 1
is_one zero power small positive = let none : 0 * power ≡ 0 = omega arith in ap (λ x. not (nat_eq x 0)) none
is_one (suc zero) power small positive =
    let same : 1 * power ≡ power = omega arith in ap (λ x. not (nat_eq x 0)) same ∙ is_not_zero power positive
is_one (suc (suc bit)) power small positive = absurd (omega arith)

masked_from : (word from place : ℕ) → from ≤ place → place < 64 → bit_at (bit_and word (2 ^ 64 - 2 ^ from)) place ≡ bit_at word place
masked_from word from place later inside =
    let one = bit_at_mask_inside from 64 place later inside in
    let small = bit_at-lt word place in
    bit_at_and word (2 ^ 64 - 2 ^ from) place ∙ omega (arith, one, small)

masked_below : (word from place : ℕ) → place < from → bit_at (bit_and word (2 ^ 64 - 2 ^ from)) place ≡ 0
masked_below word from place below =
    let none = bit_at_mask_below from 64 place below in
    bit_at_and word (2 ^ 64 - 2 ^ from) place ∙ omega (arith, none)

-- of a word with the bits from a place on and no others
first_kept : (word from kept : ℕ) → kept < 2 ^ 64 → ((place : ℕ) → from ≤ place → place < 64 → bit_at kept place ≡ bit_at word place)
    → ((place : ℕ) → place < from → bit_at kept place ≡ 0)
    → IsFirstFrom word from (count_trailing_zeros 64 kept)
first_kept word from zero fits same below = subst (IsFirstFrom word from) (sym (trailing_of_zero 64)) (record {
  in_word = omega arith;
  is_later = λ l. absurd (omega (arith, l));
  is_set = λ l. absurd (omega (arith, l));
  is_first = λ other later inside. sym (same other later inside) ∙ bit_at-zero other;
})
first_kept word from (suc kept) fits same below =
    let place = count_trailing_zeros 64 (suc kept) in
    let first = bit_at-trailing_zeros w64 (suc kept) (omega arith) fits in
    let inside : place < 64 = first.0 in
    let later : from ≤ place = is_later place (cases_lt place from) first.1 in
    record {
      in_word = omega (arith, inside);
      is_later = λ _. later;
      is_set = λ _. sym (same place later inside) ∙ first.1;
      is_first = λ other after before. sym (same other after (omega (arith, before, inside))) ∙ first.2 other before;
    }
  where
    is_later : (place : ℕ) → (place < from) ⊎ (from ≤ place) → bit_at (suc kept) place ≡ 1 → from ≤ place
    is_later place (inl before) set = absurd (omega (arith, below place before, set))
    is_later place (inr after) set = after

pub first_from : (word from : ℕ) → word < 2 ^ 64 → from < 64 → IsFirstFrom word from (count_trailing_zeros 64 (bit_and word (2 ^ 64 - 2 ^ from)))
first_from word from fits inside =
    let least = and_le_l word (2 ^ 64 - 2 ^ from) in
    first_kept word from (bit_and word (2 ^ 64 - 2 ^ from)) (omega (arith, least, fits)) (masked_from word from) (masked_below word from)
