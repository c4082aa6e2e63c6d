-- MixColumns() of the bytes that planes hold.
use Rattle.std.proofs.Common.{◌≡◌, ℕ, zero, suc, ◌+◌, ◌-◌, ◌*◌, ◌/◌, ◌%◌, ◌^◌, ◌<◌, ◌≤◌, ◌⊎◌, Bool, true, false, List, [], ◌∷◌, map, min, length}
use Rattle.std.proofs.Common.{bit_xor, bit_and, slice_index, refl, sym, ap, ◌∙◌, subst, inl, inr, arith, if◌then◌else◌}
use Rattle.std.specs.Prelude.{◌==◌}
use Rattle.std.specs.Int.{bit_at}
use Rattle.std.specs.List.{range_with_len}
use Rattle.std.proofs.lemmas.Bool.{eqb-true}
use Rattle.std.proofs.lemmas.Nat.Bits.{bit_at_xor, bit_at-lt, bit_at_ones_above}
use Rattle.srt_aes.specs.Aes.{xtime, mixed}
use Rattle.srt_aes.specs.inside.Planes.{bits_at, number, byte_at, sums, mix_sums, mix_words, bent, Bend, turned_words, turned_word, to_next_row}
use Rattle.srt_aes.specs.inside.Planes.{two_rows_on, AreNarrow}
use Rattle.srt_aes.proofs.AllBelow.{all_to, all_to-at, same_over_range}
use Rattle.srt_aes.proofs.Bits.{AreBits, added_bits, bits_of, bits_of_words, bits-number, number_is_byte, number-added, bits_at-sums}
use Rattle.srt_aes.proofs.Turning.{IsNarrow, source, turned-bit, turned-narrow}
use Rattle.srt_aes.proofs.Substitution.{at_position, substituted-bits}
use Rattle.srt_aes.specs.inside.Circuit.{on_words, linear_layer, products, inverse, sums_of_inverse, outputs, last_layer, substituted}

-- a bend as it may be
pub record IsBend (bend : Bend) : Type 0 where
  pub some : 0 < bend.low
  pub few : bend.low < 64
  pub more : 0 < bend.high
  pub fewer : bend.high < 64
  pub whole : bend.mask < 2 ^ 64

-- xtime() on bits
abbrev twice_bits : List ℕ → List ℕ
twice_bits bits =
    let at = λ (k : ℕ). slice_index bits k in
    at 7 ∷ (at 0 + at 7) % 2 ∷ at 1 ∷ (at 2 + at 7) % 2 ∷ (at 3 + at 7) % 2 ∷ at 4 ∷ at 5 ∷ at 6 ∷ []

is_twice : ℕ → Bool
is_twice byte = number (twice_bits (bits_of byte)) == xtime byte

all_twice : all_to is_twice 256 ≡ true
unfolding is_twice xtime
all_twice = refl

xtime-bits : (byte : ℕ) → byte < 256 → xtime byte ≡ number (twice_bits (bits_of byte))
unfolding is_twice
xtime-bits byte small = sym (eqb-true _ _ (all_to-at is_twice 256 all_twice byte small))

-- a byte of MixColumns() on bits
abbrev mixed_bits : (a b c d : List ℕ) → List ℕ
mixed_bits a b c d = added_bits (added_bits (added_bits (twice_bits a) (added_bits (twice_bits b) b)) c) d

-- mix_sums on bits
abbrev sums_of_bits : (next pairs further : List ℕ) → List ℕ
sums_of_bits next pairs further =
    let b = λ (k : ℕ). slice_index next k in
    let c = λ (k : ℕ). slice_index pairs k in
    let d = λ (k : ℕ). slice_index further k in
    ((b 0 + c 7) % 2 + d 0) % 2 ∷ (((b 1 + c 0) % 2 + c 7) % 2 + d 1) % 2 ∷
    ((b 2 + c 1) % 2 + d 2) % 2 ∷ (((b 3 + c 2) % 2 + c 7) % 2 + d 3) % 2 ∷
    (((b 4 + c 3) % 2 + c 7) % 2 + d 4) % 2 ∷ ((b 5 + c 4) % 2 + d 5) % 2 ∷
    ((b 6 + c 5) % 2 + d 6) % 2 ∷ ((b 7 + c 6) % 2 + d 7) % 2 ∷ []

mix_sums-bits : (position : ℕ) (next pairs further : List ℕ) →
    bits_at 8 position (mix_sums next pairs further) ≡
    sums_of_bits (bits_at 8 position next) (bits_at 8 position pairs) (bits_at 8 position further)
unfolding mix_sums
mix_sums-bits position next pairs further = simp bit_at_xor

single : (a b c d e f : ℕ) → ((b + (a + e) % 2) % 2 + (c + d) % 2) % 2 ≡ (((a + (e + b) % 2) % 2 + c) % 2 + d) % 2
single a b c d e f = omega arith

double : (a b c d e f g h : ℕ) →
    (((b + (e + f) % 2) % 2 + (g + h) % 2) % 2 + (c + d) % 2) % 2 ≡
    ((((e + g) % 2 + ((f + h) % 2 + b) % 2) % 2 + c) % 2 + d) % 2
double a b c d e f g h = omega arith

-- both are the same sums
same_sums : (a b c d : ℕ → ℕ) →
    let bits = λ (f : ℕ → ℕ). map f (range_with_len 0 8) in
    sums_of_bits (bits b) (added_bits (bits a) (bits b)) (added_bits (bits c) (bits d)) ≡
    mixed_bits (bits a) (bits b) (bits c) (bits d)
same_sums a b c d =
    let e0 = single (a 7) (b 0) (c 0) (d 0) (b 7) 0 in
    let e1 = double 0 (b 1) (c 1) (d 1) (a 0) (b 0) (a 7) (b 7) in
    let e2 = single (a 1) (b 2) (c 2) (d 2) (b 1) 0 in
    let e3 = double 0 (b 3) (c 3) (d 3) (a 2) (b 2) (a 7) (b 7) in
    let e4 = double 0 (b 4) (c 4) (d 4) (a 3) (b 3) (a 7) (b 7) in
    let e5 = single (a 4) (b 5) (c 5) (d 5) (b 4) 0 in
    let e6 = single (a 5) (b 6) (c 6) (d 6) (b 5) 0 in
    let e7 = single (a 6) (b 7) (c 7) (d 7) (b 6) 0 in
    cc

bits_of_sums : (bits others : List ℕ) → AreBits (added_bits bits others)
bits_of_sums [] others = tt
bits_of_sums (a ∷ bits) [] = tt
bits_of_sums (a ∷ bits) (b ∷ others) = let small : (a + b) % 2 < 2 = omega arith in (small, bits_of_sums bits others)

bits_of_twice : (a b c d e f g h : ℕ) → AreBits (a ∷ b ∷ c ∷ d ∷ e ∷ f ∷ g ∷ h ∷ []) →
    AreBits (twice_bits (a ∷ b ∷ c ∷ d ∷ e ∷ f ∷ g ∷ h ∷ []))
bits_of_twice a b c d e f g h small =
    let one : (a + h) % 2 < 2 = omega arith in
    let three : (c + h) % 2 < 2 = omega arith in
    let four : (d + h) % 2 < 2 = omega arith in
    let x0 : h < 2 = omega arith in
    let x2 : b < 2 = omega arith in
    let x5 : e < 2 = omega arith in
    let x6 : f < 2 = omega arith in
    let x7 : g < 2 = omega arith in
    (x0, (one, (x2, (three, (four, (x5, (x6, (x7, tt))))))))

-- xtime() of the byte at a position
xtime-at : (position : ℕ) (words : List ℕ) → xtime (byte_at position words) ≡ number (twice_bits (bits_at 8 position words))
unfolding byte_at
xtime-at position words =
    let small = bits_of_words position words (range_with_len 0 8) in
    let w = λ (k : ℕ). bit_at (slice_index words k) position in
    let same = bits-number (w 0) (w 1) (w 2) (w 3) (w 4) (w 5) (w 6) (w 7) small in
    let below = number_is_byte (w 0) (w 1) (w 2) (w 3) (w 4) (w 5) (w 6) (w 7) small in
    xtime-bits (number (bits_at 8 position words)) below ∙ ap (λ (v : List ℕ). number (twice_bits v)) same

-- a byte of MixColumns() of the bytes at four positions
mixed-at : (p q r s : ℕ) (words : List ℕ) →
    number (mixed_bits (bits_at 8 p words) (bits_at 8 q words) (bits_at 8 r words) (bits_at 8 s words)) ≡
    mixed (byte_at p words) (byte_at q words) (byte_at r words) (byte_at s words)
unfolding byte_at
mixed-at p q r s words =
    let at = λ (n : ℕ) (k : ℕ). bit_at (slice_index words k) n in
    let bits = λ (n : ℕ). bits_at 8 n words in
    let small = λ (n : ℕ). bits_of_words n words (range_with_len 0 8) in
    let twice = λ (n : ℕ). bits_of_twice (at n 0) (at n 1) (at n 2) (at n 3) (at n 4) (at n 5) (at n 6) (at n 7) (small n) in
    let e1 = number-added (twice_bits (bits q)) (bits q) (twice q) (small q) refl in
    let s1 = bits_of_sums (twice_bits (bits q)) (bits q) in
    let e2 = number-added (twice_bits (bits p)) (added_bits (twice_bits (bits q)) (bits q)) (twice p) s1 refl in
    let s2 = bits_of_sums (twice_bits (bits p)) (added_bits (twice_bits (bits q)) (bits q)) in
    let m2 = added_bits (twice_bits (bits p)) (added_bits (twice_bits (bits q)) (bits q)) in
    let e3 = number-added m2 (bits r) s2 (small r) refl in
    let s3 = bits_of_sums m2 (bits r) in
    let e4 = number-added (added_bits m2 (bits r)) (bits s) s3 (small s) refl in
    e4 ∙ rw (e3, e2, e1, xtime-at p words, xtime-at q words) refl

abbrev zeros : List ℕ
zeros = 0 ∷ 0 ∷ 0 ∷ 0 ∷ 0 ∷ 0 ∷ 0 ∷ 0 ∷ []

pub item : (f : ℕ → ℕ) (k : ℕ) → k < 8 → slice_index (map f (range_with_len 0 8)) k ≡ f k
item f zero below = refl
item f (suc zero) below = refl
item f (suc (suc zero)) below = refl
item f (suc (suc (suc zero))) below = refl
item f (suc (suc (suc (suc zero)))) below = refl
item f (suc (suc (suc (suc (suc zero))))) below = refl
item f (suc (suc (suc (suc (suc (suc zero)))))) below = refl
item f (suc (suc (suc (suc (suc (suc (suc zero))))))) below = refl
item f (suc (suc (suc (suc (suc (suc (suc (suc k)))))))) below = absurd (omega arith)

-- each plane of narrow ones is a word of 64 bits
narrow-at : (words : List ℕ) → AreNarrow words → (k : ℕ) → k < 8 → IsNarrow (slice_index words k)
narrow-at words narrow k below position past =
    sym (item (λ (n : ℕ). bit_at (slice_index words n) position) k below) ∙
    ap (λ (v : List ℕ). slice_index v k) (narrow position past) ∙ item (λ (n : ℕ). 0) k below

pub narrow-from : (words : List ℕ) → ((k : ℕ) → k < 8 → IsNarrow (slice_index words k)) → AreNarrow words
narrow-from words each position past =
    same_over_range (λ k. bit_at (slice_index words k) position) (λ k. 0) 0 8 (λ k below. each k (omega arith) position past)

pub narrow-sums : (words others : List ℕ) → AreNarrow words → AreNarrow others → AreNarrow (sums words others)
narrow-sums words others narrow narrower position past =
    bits_at-sums position words others ∙ ap (λ (v : List ℕ). added_bits v (bits_at 8 position others)) (narrow position past) ∙
    ap (added_bits zeros) (narrower position past)

pub narrow-substituted : (words : List ℕ) → AreNarrow words → AreNarrow (substituted on_words words)
unfolding substituted linear_layer products inverse sums_of_inverse outputs last_layer
narrow-substituted words narrow position past =
    let none : bit_at 0xffff_ffff_ffff_ffff position ≡ 0 = bit_at_ones_above 64 position past in
    substituted-bits position words ∙ ap (substituted (at_position position)) (narrow position past) ∙
    ap (λ (o : ℕ). substituted (record { sum = λ a b. (a + b) % 2; product = λ a b. min a b; ones = o }) zeros) none

narrow-bent : (bend : Bend) (words : List ℕ) → AreNarrow words → AreNarrow (bent bend words)
narrow-bent bend words narrow =
    narrow-from (bent bend words) (λ k below. subst (λ (n : ℕ). IsNarrow n)
    (sym (item (λ (n : ℕ). turned_word bend.low bend.high bend.mask (slice_index words n)) k below))
    (turned-narrow bend.low bend.high bend.mask (slice_index words k) (narrow-at words narrow k below)))

pub narrow-mixed : (turn : ℕ) (words : List ℕ) → AreNarrow words → AreNarrow (mix_words turn words)
unfolding mix_words
narrow-mixed turn words narrow position past =
    let next = bent (to_next_row turn) words in
    let pairs = sums words next in
    let n1 = narrow-bent (to_next_row turn) words narrow in
    let n2 = narrow-sums words next narrow n1 in
    let n3 = narrow-bent (two_rows_on turn) pairs n2 in
    mix_sums-bits position next pairs (bent (two_rows_on turn) pairs) ∙
    ap (λ (v : List ℕ). sums_of_bits v (bits_at 8 position pairs) (bits_at 8 position (bent (two_rows_on turn) pairs)))
    (n1 position past) ∙
    ap (λ (v : List ℕ). sums_of_bits zeros v (bits_at 8 position (bent (two_rows_on turn) pairs))) (n2 position past) ∙
    ap (sums_of_bits zeros zeros) (n3 position past)

-- planes bent, bit by bit
bits_at-bent : (bend : Bend) → IsBend bend → (position : ℕ) (words : List ℕ) → AreNarrow words → position < 64 →
    bits_at 8 position (bent bend words) ≡ bits_at 8 (source bend.low bend.high bend.mask position) words
bits_at-bent bend good position words narrow inside =
    same_over_range (λ k. bit_at (turned_word bend.low bend.high bend.mask (slice_index words k)) position)
    (λ k. bit_at (slice_index words k) (source bend.low bend.high bend.mask position)) 0 8
    (λ k below. turned-bit bend.low bend.high bend.mask (slice_index words k) position
    (narrow-at words narrow k (omega arith)) good.some good.few
    good.more good.fewer good.whole inside)

is_next_bend : (turn : ℕ) → turn < 4 → IsBend (to_next_row turn)
is_next_bend zero small = record { some = omega arith; few = omega arith; more = omega arith; fewer = omega arith; whole = omega arith }
is_next_bend (suc zero) small = record { some = omega arith; few = omega arith; more = omega arith; fewer = omega arith; whole = omega arith }
is_next_bend (suc (suc zero)) small = record { some = omega arith; few = omega arith; more = omega arith; fewer = omega arith; whole = omega arith }
is_next_bend (suc (suc (suc zero))) small = record { some = omega arith; few = omega arith; more = omega arith; fewer = omega arith; whole = omega arith }
is_next_bend (suc (suc (suc (suc turn)))) small = absurd (omega arith)

is_further_bend : (turn : ℕ) → turn < 4 → IsBend (two_rows_on turn)
is_further_bend zero small = record { some = omega arith; few = omega arith; more = omega arith; fewer = omega arith; whole = omega arith }
is_further_bend (suc zero) small = record { some = omega arith; few = omega arith; more = omega arith; fewer = omega arith; whole = omega arith }
is_further_bend (suc (suc zero)) small = record { some = omega arith; few = omega arith; more = omega arith; fewer = omega arith; whole = omega arith }
is_further_bend (suc (suc (suc zero))) small = record { some = omega arith; few = omega arith; more = omega arith; fewer = omega arith; whole = omega arith }
is_further_bend (suc (suc (suc (suc turn)))) small = absurd (omega arith)

-- the position of the next row's byte, and of that two rows on
abbrev pub next_place : (turn position : ℕ) → ℕ
next_place turn position =
    source (to_next_row turn).low (to_next_row turn).high (to_next_row turn).mask position

abbrev pub further_place : (turn position : ℕ) → ℕ
further_place turn position =
    source (two_rows_on turn).low (two_rows_on turn).high (two_rows_on turn).mask position

pub byte_at-mixed : (turn position : ℕ) (words : List ℕ) → turn < 4 → AreNarrow words → position < 64 →
    further_place turn position < 64 →
    byte_at position (mix_words turn words) ≡
    mixed (byte_at position words) (byte_at (next_place turn position) words) (byte_at (further_place turn position) words)
    (byte_at (next_place turn (further_place turn position)) words)
unfolding byte_at mix_words
byte_at-mixed turn position words small narrow inside within =
    let next = bent (to_next_row turn) words in
    let pairs = sums words next in
    let further = bent (two_rows_on turn) pairs in
    let one = is_next_bend turn small in
    let two = is_further_bend turn small in
    let n1 = narrow-bent (to_next_row turn) words narrow in
    let n2 = narrow-sums words next narrow n1 in
    let p : ℕ = position in
    let q : ℕ = next_place turn p in
    let r : ℕ = further_place turn p in
    let s : ℕ = next_place turn r in
    let bits = λ (n : ℕ). bits_at 8 n words in
    let e1 = bits_at-bent (to_next_row turn) one p words narrow inside in
    let e2 = bits_at-sums p words next ∙ ap (added_bits (bits p)) e1 in
    let e3 = bits_at-bent (two_rows_on turn) two p pairs n2 inside in
    let e4 = bits_at-sums r words next ∙ ap (added_bits (bits r)) (bits_at-bent (to_next_row turn) one r words narrow within) in
    let e5 = mix_sums-bits p next pairs further in
    let at = λ (n : ℕ) (k : ℕ). bit_at (slice_index words k) n in
    let all = ap (λ (v : List ℕ). sums_of_bits v (bits_at 8 p pairs) (bits_at 8 p further)) e1 ∙
    ap (λ (v : List ℕ). sums_of_bits (bits q) v (bits_at 8 p further)) e2 ∙
    ap (λ (v : List ℕ). sums_of_bits (bits q) (added_bits (bits p) (bits q)) v) (e3 ∙ e4) in
    ap number (e5 ∙ all ∙ same_sums (at p) (at q) (at r) (at s)) ∙ mixed-at p q r s words
