-- Turned words bit by bit, and planes that have no bit past the 64th.
use Rattle.std.proofs.Common.{◌≡◌, ℕ, zero, suc, ◌+◌, ◌-◌, ◌*◌, ◌/◌, ◌%◌, ◌^◌, ◌<◌, ◌≤◌, ◌⊎◌, Bool, true, false, List, [], ◌∷◌, map, min, length}
use Rattle.std.proofs.Common.{bit_xor, bit_and, slice_index, refl, sym, ap, ◌∙◌, subst, inl, inr, arith, if◌then◌else◌}
use Rattle.std.specs.Prelude.{◌==◌}
use Rattle.std.specs.Int.{bit_at, bit_not, w64}
use Rattle.std.specs.List.{range_with_len}
use Rattle.std.proofs.lemmas.Bool.{cases_lt}
use Rattle.std.proofs.lemmas.Nat.{shr-shr, shr_split, pow_pos, mod_below}
use Rattle.std.proofs.lemmas.Nat.Bits.{bit_at_xor, bit_at_and, bit_at_not, bit_at-lt, bit_at_above, bit_at_cat_low, bit_at_cat_high, bit_at-zero}
use Rattle.srt_aes.specs.inside.Planes.{turned_word, Bend}
use Rattle.srt_aes.proofs.Bits.{zero_or_one}

-- a word of 64 bits, by its bits
abbrev pub IsNarrow : ℕ → Type 0
IsNarrow word = (position : ℕ) → 64 ≤ position → bit_at word position ≡ 0

-- the position that a bit of a turned word comes from
abbrev pub source : (low high mask : ℕ) → ℕ → ℕ
source low high mask position =
    if bit_at mask position == 1 then (position + low) % 64 else (position + high) % 64

-- `>>`
pub right-bit : (word by position : ℕ) → bit_at (word / 2 ^ by) position ≡ bit_at word (position + by)
right-bit word by position =
    let turned : by + position ≡ position + by = omega arith in
    rw (shr-shr word by position) (ap (λ (n : ℕ). word / 2 ^ n % 2) turned)

-- a word cut to 64 bits
pub cut-bit : (word position : ℕ) → position < 64 → bit_at (word % 2 ^ 64) position ≡ bit_at word position
cut-bit word position inside =
    sym (bit_at_cat_low (word / 2 ^ 64) 64 (word % 2 ^ 64) position inside) ∙
    ap (λ (n : ℕ). bit_at n position) (shr_split word 64)

-- `<<`
pub left-low : (word by position : ℕ) → position < by → position < 64 → bit_at (word * 2 ^ by % 2 ^ 64) position ≡ 0
left-low word by position low inside =
    let same : word * 2 ^ by ≡ word * 2 ^ by + 0 = omega arith in
    cut-bit (word * 2 ^ by) position inside ∙ ap (λ (n : ℕ). bit_at n position) same ∙
    bit_at_cat_low word by 0 position low ∙ bit_at-zero position

pub left-high : (word by position : ℕ) → by ≤ position → position < 64 →
    bit_at (word * 2 ^ by % 2 ^ 64) position ≡ bit_at word (position - by)
left-high word by position high inside =
    let same : word * 2 ^ by ≡ word * 2 ^ by + 0 = omega arith in
    cut-bit (word * 2 ^ by) position inside ∙ ap (λ (n : ℕ). bit_at n position) same ∙
    bit_at_cat_high word by 0 position (pow_pos by) high

pub cut-narrow : (word : ℕ) → IsNarrow (word % 2 ^ 64)
cut-narrow word position past = bit_at_above (word % 2 ^ 64) 64 position (mod_below word (2 ^ 64) (pow_pos 64)) past

-- a rotation
rotated-bit : (word by position : ℕ) → IsNarrow word → 0 < by → by < 64 → position < 64 →
    bit_at (bit_xor (word / 2 ^ by) (word * 2 ^ (64 - by) % 2 ^ 64)) position ≡ bit_at word ((position + by) % 64)
rotated-bit word by position narrow some few inside =
    let both = bit_at_xor (word / 2 ^ by) (word * 2 ^ (64 - by) % 2 ^ 64) position in
    let right = right-bit word by position in
    elim (cases_lt (position + by) 64) [
      | inl low ↦
          let place : (position + by) % 64 ≡ position + by = omega arith in
          let left = left-low word (64 - by) position (omega arith) inside in
          let small = bit_at-lt word (position + by) in
          both ∙ rw (right, left, place) (omega arith)
      | inr high ↦
          let place : position - (64 - by) ≡ (position + by) % 64 = omega arith in
          let left = left-high word (64 - by) position (omega arith) inside ∙ ap (λ (n : ℕ). bit_at word n) place in
          let none = narrow (position + by) high in
          let small = bit_at-lt word ((position + by) % 64) in
          both ∙ rw (right, none, left) (omega arith)
    ]

rotated-narrow : (word by : ℕ) → IsNarrow word → IsNarrow (bit_xor (word / 2 ^ by) (word * 2 ^ (64 - by) % 2 ^ 64))
rotated-narrow word by narrow position past =
    bit_at_xor (word / 2 ^ by) (word * 2 ^ (64 - by) % 2 ^ 64) position ∙
    rw (right-bit word by position, narrow (position + by) (omega arith), cut-narrow (word * 2 ^ (64 - by)) position past) refl

pub turned-bit : (low high mask word position : ℕ) → IsNarrow word → 0 < low → low < 64 → 0 < high → high < 64 →
    mask < 2 ^ 64 → position < 64 →
    bit_at (turned_word low high mask word) position ≡ bit_at word (source low high mask position)
unfolding turned_word
turned-bit low high mask word position narrow some few more fewer whole inside =
    let x : ℕ = bit_xor (word / 2 ^ low) (word * 2 ^ (64 - low) % 2 ^ 64) in
    let y : ℕ = bit_xor (word / 2 ^ high) (word * 2 ^ (64 - high) % 2 ^ 64) in
    let first = rotated-bit word low position narrow some few inside in
    let second = rotated-bit word high position narrow more fewer inside in
    let small = bit_at-lt word ((position + low) % 64) in
    let smaller = bit_at-lt word ((position + high) % 64) in
    let both = bit_at_xor (bit_and x mask) (bit_and y (bit_not w64 mask)) position in
    let left = bit_at_and x mask position in
    let right = bit_at_and y (bit_not w64 mask) position in
    let other = bit_at_not w64 mask position whole inside in
    elim (zero_or_one (bit_at mask position) (bit_at-lt mask position)) [
      | inl off ↦ both ∙ rw (left, right, other, off, first, second) (omega arith)
      | inr on ↦ both ∙ rw (left, right, other, on, first, second) (omega arith)
    ]

pub turned-narrow : (low high mask word : ℕ) → IsNarrow word → IsNarrow (turned_word low high mask word)
unfolding turned_word
turned-narrow low high mask word narrow position past =
    let x : ℕ = bit_xor (word / 2 ^ low) (word * 2 ^ (64 - low) % 2 ^ 64) in
    let y : ℕ = bit_xor (word / 2 ^ high) (word * 2 ^ (64 - high) % 2 ^ 64) in
    let first = rotated-narrow word low narrow position past in
    let second = rotated-narrow word high narrow position past in
    let both = bit_at_xor (bit_and x mask) (bit_and y (bit_not w64 mask)) position in
    both ∙ rw (bit_at_and x mask position, bit_at_and y (bit_not w64 mask) position, first, second) (omega arith)
