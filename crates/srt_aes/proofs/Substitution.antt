-- The circuit is the S-box: bit by bit it is a circuit of bits, which the 256 bytes show to be the table of FIPS 197.
use Rattle.std.proofs.Common.{◌≡◌, ℕ, ◌+◌, ◌<◌, ◌≤◌, ◌%◌, ◌^◌, ◌/◌, Bool, true, List, [], ◌∷◌, min, slice_index, refl, sym, ap, ◌∙◌, subst, arith, eqb}
use Rattle.std.specs.Prelude.{◌==◌}
use Rattle.std.specs.Int.{bit_at}
use Rattle.std.specs.List.{range_with_len}
use Rattle.std.proofs.lemmas.Bool.{eqb-true}
use Rattle.std.proofs.lemmas.Nat.Bits.{bit_at_xor, bit_at_and, bit_at_ones, bit_at_above, bit_at_ones_above}
use Rattle.srt_aes.specs.Aes.{sub_byte, sub_table}
use Rattle.srt_aes.specs.inside.Circuit.{Gates, on_words, on_bits, linear_layer, products, inverse, sums_of_inverse, outputs, last_layer, substituted}
use Rattle.srt_aes.specs.inside.Planes.{bits_at, number, byte_at}
use Rattle.srt_aes.proofs.AllBelow.{all_to, all_to-at}
use Rattle.srt_aes.proofs.Bits.{bits_of, bits_of_words, bits-number, number_is_byte}

-- what the gates on words are at a position
abbrev pub at_position : ℕ → Gates
at_position position =
    record { sum = λ a b. (a + b) % 2; product = λ a b. min a b; ones = bit_at 0xffff_ffff_ffff_ffff position }

linear_layer-bits : (position : ℕ) (xs : List ℕ) →
    bits_at 22 position (linear_layer on_words xs) ≡ linear_layer (at_position position) (bits_at 8 position xs)
unfolding linear_layer
linear_layer-bits position xs = simp bit_at_xor

products-bits : (position : ℕ) (ys : List ℕ) →
    bits_at 4 position (products on_words ys) ≡ products (at_position position) (bits_at 22 position ys)
unfolding products
products-bits position ys = simp (bit_at_xor, bit_at_and)

inverse-bits : (position : ℕ) (ts : List ℕ) →
    bits_at 4 position (inverse on_words ts) ≡ inverse (at_position position) (bits_at 4 position ts)
unfolding inverse
inverse-bits position ts = simp (bit_at_xor, bit_at_and)

sums_of_inverse-bits : (position : ℕ) (ts : List ℕ) →
    bits_at 9 position (sums_of_inverse on_words ts) ≡ sums_of_inverse (at_position position) (bits_at 4 position ts)
unfolding sums_of_inverse
sums_of_inverse-bits position ts = simp bit_at_xor

outputs-bits : (position : ℕ) (ys ts : List ℕ) →
    bits_at 18 position (outputs on_words ys ts) ≡ outputs (at_position position) (bits_at 22 position ys) (bits_at 9 position ts)
unfolding outputs
outputs-bits position ys ts = simp bit_at_and

last_layer-bits : (position : ℕ) (zs : List ℕ) →
    bits_at 8 position (last_layer on_words zs) ≡ last_layer (at_position position) (bits_at 18 position zs)
unfolding last_layer
last_layer-bits position zs = simp bit_at_xor

pub substituted-bits : (position : ℕ) (xs : List ℕ) →
    bits_at 8 position (substituted on_words xs) ≡ substituted (at_position position) (bits_at 8 position xs)
unfolding substituted
substituted-bits position xs =
    let g = at_position position in
    let ys = linear_layer on_words xs in
    let ts = products on_words ys in
    let is = inverse on_words ts in
    let ss = sums_of_inverse on_words is in
    let e1 = linear_layer-bits position xs in
    let e2 = products-bits position ys ∙ ap (products g) e1 in
    let e3 = inverse-bits position ts ∙ ap (inverse g) e2 in
    let e4 = sums_of_inverse-bits position is ∙ ap (sums_of_inverse g) e3 in
    let e5 = outputs-bits position ys ss ∙ ap (λ (v : List ℕ). outputs g v (bits_at 9 position ss)) e1 ∙
    ap (λ (v : List ℕ). outputs g (linear_layer g (bits_at 8 position xs)) v) e4 in
    last_layer-bits position (outputs on_words ys ss) ∙ ap (last_layer g) e5

-- the table is what the circuit makes of the bits of a byte
is_sub_byte : ℕ → Bool
is_sub_byte byte = number (substituted on_bits (bits_of byte)) == sub_byte byte

all_bytes : all_to is_sub_byte 256 ≡ true
unfolding is_sub_byte substituted linear_layer products inverse sums_of_inverse outputs last_layer sub_byte sub_table
all_bytes = refl

sub_byte-bits : (byte : ℕ) → byte < 256 → number (substituted on_bits (bits_of byte)) ≡ sub_byte byte
unfolding is_sub_byte
sub_byte-bits byte small = eqb-true _ _ (all_to-at is_sub_byte 256 all_bytes byte small)

-- SubBytes() of the byte at a position
pub byte_at-substituted : (position : ℕ) (words : List ℕ) → position < 64 →
    byte_at position (substituted on_words words) ≡ sub_byte (byte_at position words)
unfolding byte_at
byte_at-substituted position words inside =
    let bits = bits_at 8 position words in
    let small = bits_of_words position words (range_with_len 0 8) in
    let w = λ (k : ℕ). bit_at (slice_index words k) position in
    let same = bits-number (w 0) (w 1) (w 2) (w 3) (w 4) (w 5) (w 6) (w 7) small in
    let below = number_is_byte (w 0) (w 1) (w 2) (w 3) (w 4) (w 5) (w 6) (w 7) small in
    let one : bit_at 0xffff_ffff_ffff_ffff position ≡ 1 = bit_at_ones 64 position inside in
    ap number (substituted-bits position words) ∙
    subst (λ (o : ℕ). number (substituted (record { sum = λ a b. (a + b) % 2; product = λ a b. min a b; ones = o }) bits) ≡
    number (substituted on_bits bits)) (sym one) refl ∙
    ap (λ (v : List ℕ). number (substituted on_bits v)) (sym same) ∙ sub_byte-bits (number bits) below
