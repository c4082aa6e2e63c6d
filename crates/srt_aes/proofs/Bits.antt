-- Bytes as lists of bits, the lowest first.
use Rattle.std.proofs.Common.{◌≡◌, ℕ, zero, suc, ◌+◌, ◌*◌, ◌/◌, ◌%◌, ◌^◌, ◌<◌, ◌≤◌, ◌⊎◌, List, [], ◌∷◌, map, length, bit_xor, slice_index, refl, sym}
use Rattle.std.proofs.Common.{ap, ◌∙◌, inl, inr, arith}
use Rattle.std.specs.Int.{bit_at}
use Rattle.std.specs.List.{range_with_len}
use Rattle.std.proofs.lemmas.Nat.{xor_block}
use Rattle.std.proofs.lemmas.Nat.Bits.{bit_at_xor, bit_at-lt}
use lib.Lanes.{zip2, Each1}
use Rattle.srt_aes.specs.inside.Planes.{bits_at, number, byte_at, sums}

-- each is 0 or 1
abbrev pub AreBits : List ℕ → Type 0
AreBits bits = Each1 (λ (bit : ℕ). bit < 2) bits

-- bits added one by one
abbrev pub added_bits : List ℕ → List ℕ → List ℕ
added_bits bits others = zip2 (λ (a : ℕ) (b : ℕ). (a + b) % 2) bits others

-- the eight bits of a byte
abbrev pub bits_of : ℕ → List ℕ
bits_of byte = map (λ k. bit_at byte k) (range_with_len 0 8)

pub zero_or_one : (bit : ℕ) → bit < 2 → (bit ≡ 0) ⊎ (bit ≡ 1)
zero_or_one zero small = inl refl
zero_or_one (suc zero) small = inr refl
zero_or_one (suc (suc n)) small = absurd (omega arith)

pub xor-bits : (a b : ℕ) → a < 2 → b < 2 → bit_xor a b ≡ (a + b) % 2
xor-bits a b small_a small_b =
    elim (zero_or_one a small_a) [
      | inl ea ↦ elim (zero_or_one b small_b) [ inl eb ↦ rw (ea, eb) refl | inr eb ↦ rw (ea, eb) refl ]
      | inr ea ↦ elim (zero_or_one b small_b) [ inl eb ↦ rw (ea, eb) refl | inr eb ↦ rw (ea, eb) refl ]
    ]

pub number-added : (bits others : List ℕ) → AreBits bits → AreBits others → length bits ≡ length others →
    number (added_bits bits others) ≡ bit_xor (number bits) (number others)
number-added [] [] small smaller same = refl
number-added [] (b ∷ bs) small smaller same = cc
number-added (a ∷ bits) [] small smaller same = cc
number-added (a ∷ bits) (b ∷ others) small smaller same =
    let rest = number-added bits others small.1 smaller.1 (omega arith) in
    let block = xor_block 1 (number bits) (number others) a b small.0 smaller.0 in
    let first = xor-bits a b small.0 smaller.0 in
    let left : a + 2 * number bits ≡ number bits * 2 ^ 1 + a = omega arith in
    let right : b + 2 * number others ≡ number others * 2 ^ 1 + b = omega arith in
    rw (left, right, block, first, rest) (omega arith)

pub bits_of_words : (position : ℕ) (words ks : List ℕ) → AreBits (map (λ k. bit_at (slice_index words k) position) ks)
bits_of_words position words [] = tt
bits_of_words position words (k ∷ ks) = (bit_at-lt (slice_index words k) position, bits_of_words position words ks)

-- AddRoundKey() of planes
pub bits_at-sums : (position : ℕ) (words others : List ℕ) →
    bits_at 8 position (sums words others) ≡ added_bits (bits_at 8 position words) (bits_at 8 position others)
unfolding sums
bits_at-sums position words others = simp bit_at_xor

pub byte_at-sums : (position : ℕ) (words others : List ℕ) →
    byte_at position (sums words others) ≡ bit_xor (byte_at position words) (byte_at position others)
unfolding byte_at
byte_at-sums position words others =
    ap number (bits_at-sums position words others) ∙
    number-added (bits_at 8 position words) (bits_at 8 position others)
    (bits_of_words position words (range_with_len 0 8)) (bits_of_words position others (range_with_len 0 8)) refl

-- eight bits are those of their number
pub bits-number : (a b c d e f g h : ℕ) → AreBits (a ∷ b ∷ c ∷ d ∷ e ∷ f ∷ g ∷ h ∷ []) →
    bits_of (number (a ∷ b ∷ c ∷ d ∷ e ∷ f ∷ g ∷ h ∷ [])) ≡ (a ∷ b ∷ c ∷ d ∷ e ∷ f ∷ g ∷ h ∷ [])
bits-number a b c d e f g h bits =
    let n : ℕ = number (a ∷ b ∷ c ∷ d ∷ e ∷ f ∷ g ∷ h ∷ []) in
    let ea : bit_at n 0 ≡ a = omega arith in
    let eb : bit_at n 1 ≡ b = omega arith in
    let ec : bit_at n 2 ≡ c = omega arith in
    let ed : bit_at n 3 ≡ d = omega arith in
    let ee : bit_at n 4 ≡ e = omega arith in
    let ef : bit_at n 5 ≡ f = omega arith in
    let eg : bit_at n 6 ≡ g = omega arith in
    let eh : bit_at n 7 ≡ h = omega arith in
    cc

pub number_is_byte : (a b c d e f g h : ℕ) → AreBits (a ∷ b ∷ c ∷ d ∷ e ∷ f ∷ g ∷ h ∷ []) →
    number (a ∷ b ∷ c ∷ d ∷ e ∷ f ∷ g ∷ h ∷ []) < 256
number_is_byte a b c d e f g h bits = omega arith
