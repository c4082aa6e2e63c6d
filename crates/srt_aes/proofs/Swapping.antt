-- After the transposition bit p of byte k of word j is the bit of plane p at position 8 k + j.
use Rattle.std.proofs.Common.{◌≡◌, ℕ, zero, suc, ◌+◌, ◌-◌, ◌*◌, ◌/◌, ◌%◌, ◌^◌, ◌<◌, ◌≤◌, ◌⊎◌, Bool, true, false, ◌&&◌, List, map, min}
use Rattle.std.proofs.Common.{bit_xor, bit_and, slice_index, refl, sym, ap, ◌∙◌, inl, inr, arith, nat_lt, if◌then◌else◌}
use Rattle.std.specs.Prelude.{◌==◌}
use Rattle.std.specs.Int.{bit_at}
use Rattle.std.specs.List.{range_with_len}
use Rattle.std.proofs.lemmas.Bool.{eqb-true, and_parts}
use Rattle.std.proofs.lemmas.Bool.Decides.{nat_tests}
use Rattle.std.proofs.lemmas.Nat.{shr_split}
use Rattle.std.proofs.lemmas.Nat.Bits.{bit_at_xor, bit_at_and, bit_at-lt, bit_at_cat_low}
use Rattle.srt_aes.specs.inside.Planes.{bits_at, number, byte_at}
use Rattle.srt_aes.specs.inside.Transposing.{exchanged, first_after, second_after, word_after, swapped, transposed_words}
use Rattle.srt_aes.proofs.AllBelow.{all_to, all_to-at, same_over_range}
use Rattle.srt_aes.proofs.Bits.{zero_or_one, bits_of}
use Rattle.srt_aes.proofs.Spreading.{number-bits}
use Rattle.srt_aes.proofs.Turning.{right-bit, left-low, left-high}
use Rattle.srt_aes.proofs.Mixing.{item}

-- the bit of a first word comes from the second one
abbrev comes : (by mask position : ℕ) → Bool
comes by mask position = if nat_lt position by then false else bit_at mask (position - by) == 1

exchanged-bit : (by mask a b position : ℕ) →
    bit_at (exchanged by mask a b) position ≡ min ((bit_at a (position + by) + bit_at b position) % 2) (bit_at mask position)
exchanged-bit by mask a b position =
    bit_at_and (bit_xor (a / 2 ^ by) b) mask position ∙
    ap (λ (n : ℕ). min n (bit_at mask position)) (bit_at_xor (a / 2 ^ by) b position ∙
    ap (λ (n : ℕ). (n + bit_at b position) % 2) (right-bit a by position))

first-bit : (by mask a b position : ℕ) → position < 64 →
    bit_at (first_after by mask a b) position ≡ (if comes by mask position then bit_at b (position - by) else bit_at a position)
unfolding first_after
first-bit by mask a b position inside =
    let t : ℕ = exchanged by mask a b in
    let both = bit_at_xor a (t * 2 ^ by % 2 ^ 64) position in
    let small = bit_at-lt a position in
    elim (nat_lt position by) as (λ (test : Bool). nat_lt position by ≡ test →
    bit_at (bit_xor a (t * 2 ^ by % 2 ^ 64)) position ≡
    (if (if test then false else bit_at mask (position - by) == 1) then bit_at b (position - by) else bit_at a position)) [
      | true ↦ λ e.
          let low : position < by = grind (arith, nat_tests, e) in
          let none = left-low t by position low inside in
          both ∙ rw none (omega (arith, small))
      | false ↦ λ e.
          let high : by ≤ position = grind (arith, nat_tests, e) in
          let at : position - by + by ≡ position = omega arith in
          let moved = left-high t by position high inside ∙ exchanged-bit by mask a b (position - by) ∙
          ap (λ (n : ℕ). min ((bit_at a n + bit_at b (position - by)) % 2) (bit_at mask (position - by))) at in
          let smaller = bit_at-lt b (position - by) in
          elim (zero_or_one (bit_at mask (position - by)) (bit_at-lt mask (position - by))) [
            | inl off ↦ both ∙ rw (moved, off) (omega (arith, small))
            | inr on ↦ both ∙ rw (moved, on) (omega (arith, small, smaller))
          ]
    ] refl

second-bit : (by mask a b position : ℕ) →
    bit_at (second_after by mask a b) position ≡ (if bit_at mask position == 1 then bit_at a (position + by) else bit_at b position)
unfolding second_after
second-bit by mask a b position =
    let both = bit_at_xor b (exchanged by mask a b) position in
    let moved = exchanged-bit by mask a b position in
    let small = bit_at-lt b position in
    let smaller = bit_at-lt a (position + by) in
    elim (zero_or_one (bit_at mask position) (bit_at-lt mask position)) [
      | inl off ↦ both ∙ rw (moved, off) (omega (arith, small))
      | inr on ↦ both ∙ rw (moved, on) (omega (arith, small, smaller))
    ]

-- the word and the position that a bit comes from
unfoldable from_word : (by mask word position : ℕ) → ℕ
from_word by mask word position =
    if word / by % 2 == 0 then (if comes by mask position then word + by else word)
    else if bit_at mask position == 1 then word - by else word

unfoldable from_position : (by mask word position : ℕ) → ℕ
from_position by mask word position =
    if word / by % 2 == 0 then (if comes by mask position then position - by else position)
    else if bit_at mask position == 1 then position + by else position

either : (test : Bool) (words : List ℕ) (one other here there : ℕ) →
    (if test then bit_at (slice_index words one) here else bit_at (slice_index words other) there) ≡
    bit_at (slice_index words (if test then one else other)) (if test then here else there)
either true words one other here there = refl
either false words one other here there = refl

word-bit : (by mask : ℕ) (words : List ℕ) (word position : ℕ) (even : Bool) → (word / by % 2 == 0) ≡ even → position < 64 →
    bit_at (word_after by mask words word) position ≡
    bit_at (slice_index words (from_word by mask word position)) (from_position by mask word position)
unfolding word_after from_word from_position
word-bit by mask words word position true e inside =
    rw e (first-bit by mask (slice_index words word) (slice_index words (word + by)) position inside ∙
    either (comes by mask position) words (word + by) word (position - by) position)
word-bit by mask words word position false e inside =
    rw e (second-bit by mask (slice_index words (word - by)) (slice_index words word) position ∙
    either (bit_at mask position == 1) words (word - by) word (position + by) position)

layer-bit : (by mask : ℕ) (words : List ℕ) (word position : ℕ) → word < 8 → position < 64 →
    bit_at (slice_index (swapped by mask words) word) position ≡
    bit_at (slice_index words (from_word by mask word position)) (from_position by mask word position)
unfolding swapped
layer-bit by mask words word position below inside =
    ap (λ (n : ℕ). bit_at n position) (item (λ (k : ℕ). word_after by mask words k) word below) ∙
    word-bit by mask words word position _ refl inside

-- through the three layers
is_moved : (word position : ℕ) → Bool
is_moved word position =
    let w1 = from_word 4 0x0f0f_0f0f_0f0f_0f0f word position in
    let p1 = from_position 4 0x0f0f_0f0f_0f0f_0f0f word position in
    let w2 = from_word 2 0x3333_3333_3333_3333 w1 p1 in
    let p2 = from_position 2 0x3333_3333_3333_3333 w1 p1 in
    nat_lt w1 8 && (nat_lt p1 64 && (nat_lt w2 8 && (nat_lt p2 64 &&
    ((from_word 1 0x5555_5555_5555_5555 w2 p2 == position % 8) &&
    (from_position 1 0x5555_5555_5555_5555 w2 p2 == position / 8 * 8 + word)))))

all_moved : all_to (λ word. all_to (λ position. is_moved word position) 64) 8 ≡ true
unfolding is_moved from_word from_position
all_moved = refl

less : (n m : ℕ) → nat_lt n m ≡ true → n < m
less n m e = grind (arith, nat_tests, e)

transposed-bit : (planes : List ℕ) (word position : ℕ) → word < 8 → position < 64 →
    bit_at (slice_index (transposed_words planes) word) position ≡
    bit_at (slice_index planes (position % 8)) (position / 8 * 8 + word)
unfolding transposed_words is_moved
transposed-bit planes word position below inside =
    let words = all_to-at (λ w. all_to (λ p. is_moved w p) 64) 8 all_moved word below in
    let test = all_to-at (λ p. is_moved word p) 64 words position inside in
    let w1 : ℕ = from_word 4 0x0f0f_0f0f_0f0f_0f0f word position in
    let p1 : ℕ = from_position 4 0x0f0f_0f0f_0f0f_0f0f word position in
    let w2 : ℕ = from_word 2 0x3333_3333_3333_3333 w1 p1 in
    let p2 : ℕ = from_position 2 0x3333_3333_3333_3333 w1 p1 in
    let a = and_parts _ _ test in
    let b = and_parts _ _ a.1 in
    let c = and_parts _ _ b.1 in
    let d = and_parts _ _ c.1 in
    let e = and_parts _ _ d.1 in
    let one = swapped 1 0x5555_5555_5555_5555 planes in
    layer-bit 4 0x0f0f_0f0f_0f0f_0f0f (swapped 2 0x3333_3333_3333_3333 one) word position below inside ∙
    layer-bit 2 0x3333_3333_3333_3333 one w1 p1 (less w1 8 a.0) (less p1 64 b.0) ∙
    layer-bit 1 0x5555_5555_5555_5555 planes w2 p2 (less w2 8 c.0) (less p2 64 d.0) ∙
    ap (λ (n : ℕ). bit_at (slice_index planes n) (from_position 1 0x5555_5555_5555_5555 w2 p2)) (eqb-true _ _ e.0) ∙
    ap (λ (n : ℕ). bit_at (slice_index planes (position % 8)) n) (eqb-true _ _ e.1)

low-bit : (n position : ℕ) → position < 8 → bit_at (n % 2 ^ 8) position ≡ bit_at n position
low-bit n position inside =
    sym (bit_at_cat_low (n / 2 ^ 8) 8 (n % 2 ^ 8) position inside) ∙ ap (λ (m : ℕ). bit_at m position) (shr_split n 8)

-- a byte of the words
pub byte-transposed : (planes : List ℕ) (word k : ℕ) → word < 8 → k < 8 →
    slice_index (transposed_words planes) word / 2 ^ (8 * k) % 256 ≡ byte_at (8 * k + word) planes
unfolding byte_at
byte-transposed planes word k below few =
    let w : ℕ = slice_index (transposed_words planes) word in
    let byte : ℕ = w / 2 ^ (8 * k) % 256 in
    let same = λ (p : ℕ) (inside : p < 0 + 8).
    let at1 : (p + 8 * k) % 8 ≡ p = omega arith in
    let at2 : (p + 8 * k) / 8 * 8 + word ≡ 8 * k + word = omega arith in
    low-bit (w / 2 ^ (8 * k)) p (omega arith) ∙ right-bit w (8 * k) p ∙
    transposed-bit planes word (p + 8 * k) below (omega arith) ∙
    ap (λ (n : ℕ). bit_at (slice_index planes n) ((p + 8 * k) / 8 * 8 + word)) at1 ∙
    ap (λ (n : ℕ). bit_at (slice_index planes p) n) at2 in
    sym (number-bits byte (omega arith)) ∙
    ap number (same_over_range (λ p. bit_at byte p) (λ p. bit_at (slice_index planes p) (8 * k + word)) 0 8 same)

-- words copied one by one are the same
pub transposed-items : (planes : List ℕ) →
    map (λ k. slice_index (transposed_words planes) k) (range_with_len 0 8) ≡ transposed_words planes
unfolding transposed_words swapped
transposed-items planes = refl
