-- Planes that hold the bytes of a block.
use Rattle.std.proofs.Common.{◌≡◌, ℕ, zero, suc, ◌+◌, ◌-◌, ◌*◌, ◌/◌, ◌%◌, ◌^◌, ◌<◌, ◌≤◌, ◌⊎◌, Bool, true, false, cond, List, [], ◌∷◌, map, length}
use Rattle.std.proofs.Common.{bit_xor, slice_index, replicate, refl, sym, ap, ◌∙◌, subst, inl, inr, arith, eqb}
use Rattle.std.specs.Prelude.{◌==◌}
use Rattle.std.specs.Int.{bit_at}
use Rattle.std.specs.List.{range_with_len}
use Rattle.std.proofs.lemmas.Bool.{eqb-true, eq-eqb, ne_eqb, cases_lt, cases_eq}
use Rattle.std.proofs.lemmas.List.FromFn.{fill_by_all}
use Rattle.std.proofs.lemmas.Nat.{xor_comm}
use Rattle.std.proofs.lemmas.Nat.Bits.{bit_at-lt, bit_at-zero, bit_at_xor, same_from_bits}
use mathlib.Core.Logic.{◌≢◌}
use Rattle.srt_aes.specs.Aes.{sub_byte}
use Rattle.srt_aes.specs.inside.Circuit.{on_words, substituted}
use Rattle.srt_aes.specs.inside.Planes.{bits_at, number, byte_at, block_in, place, slot, sums, nibble, nibbles, spread_words, AreNarrow, HoldsKey}
use Rattle.srt_aes.proofs.AllBelow.{all_to, all_to-at, same_over_range}
use Rattle.srt_aes.proofs.Bits.{bits_of, zero_or_one, byte_at-sums}
use Rattle.srt_aes.proofs.Substitution.{byte_at-substituted}
use Rattle.srt_aes.proofs.Turning.{cut-bit, cut-narrow, IsNarrow}
use Rattle.srt_aes.proofs.Mixing.{narrow-from, narrow-sums, item}

is_nibble : (slot position : ℕ) → Bool
is_nibble slot position = bit_at (1 * 15 * 2 ^ (4 * slot) % 2 ^ 64) position == cond (eqb (position / 4) slot) 1 0

all_nibbles : all_to (λ slot. all_to (λ position. is_nibble slot position) 64) 16 ≡ true
unfolding is_nibble
all_nibbles = refl

nibble-bit : (byte k at position : ℕ) → at < 16 → position < 64 →
    bit_at (nibble byte k at) position ≡ cond (eqb (position / 4) at) (bit_at byte k) 0
unfolding nibble is_nibble
nibble-bit byte k at position few inside =
    let slots = all_to-at (λ s. all_to (λ p. is_nibble s p) 64) 16 all_nibbles at few in
    let test = eqb-true _ _ (all_to-at (λ p. is_nibble at p) 64 slots position inside) in
    elim (zero_or_one (bit_at byte k) (bit_at-lt byte k)) [
      | inl off ↦
          let none : 0 * 15 * 2 ^ (4 * at) ≡ 0 = omega arith in
          let empty : cond (eqb (position / 4) at) 0 0 ≡ 0 =
          elim (eqb (position / 4) at) as (λ b. ◌≡◌ {A = ℕ} (cond b 0 0) 0) [ true ↦ refl | false ↦ refl ] in
          subst (λ (b : ℕ). bit_at (b * 15 * 2 ^ (4 * at) % 2 ^ 64) position ≡ cond (eqb (position / 4) at) b 0) (sym off)
          (cut-bit (0 * 15 * 2 ^ (4 * at)) position inside ∙ ap (λ (n : ℕ). bit_at n position) none ∙
          bit_at-zero position ∙ sym empty)
      | inr on ↦
          subst (λ (b : ℕ). bit_at (b * 15 * 2 ^ (4 * at) % 2 ^ 64) position ≡ cond (eqb (position / 4) at) b 0) (sym on) test
    ]

is_whole : ℕ → Bool
is_whole byte = number (bits_of byte) == byte

all_whole : all_to is_whole 256 ≡ true
unfolding is_whole
all_whole = refl

pub number-bits : (byte : ℕ) → byte < 256 → number (bits_of byte) ≡ byte
unfolding is_whole
number-bits byte small = eqb-true _ _ (all_to-at is_whole 256 all_whole byte small)

pub nibbles-here : (byte slot position : ℕ) → byte < 256 → slot < 16 → position < 64 → position / 4 ≡ slot →
    byte_at position (nibbles byte slot) ≡ byte
unfolding byte_at
nibbles-here byte slot position small few inside here =
    let test = eq-eqb (position / 4) slot here in
    ap number (same_over_range (λ k. bit_at (nibble byte k slot) position) (λ k. bit_at byte k) 0 8
    (λ k below. nibble-bit byte k slot position few inside ∙ ap (λ (b : Bool). cond b (bit_at byte k) 0) test)) ∙
    number-bits byte small

pub nibbles-there : (byte slot position : ℕ) → slot < 16 → position < 64 → position / 4 ≢ slot →
    byte_at position (nibbles byte slot) ≡ 0
unfolding byte_at
nibbles-there byte slot position few inside there =
    let test = ne_eqb (position / 4) slot there in
    ap number (same_over_range (λ k. bit_at (nibble byte k slot) position) (λ k. 0) 0 8
    (λ k below. nibble-bit byte k slot position few inside ∙ ap (λ (b : Bool). cond b (bit_at byte k) 0) test))

narrow-nibbles : (byte slot : ℕ) → AreNarrow (nibbles byte slot)
unfolding nibble
narrow-nibbles byte slot =
    narrow-from (nibbles byte slot) (λ k below. subst (λ (n : ℕ). IsNarrow n) (sym (item (λ (n : ℕ). nibble byte n slot) k below))
    (cut-narrow (bit_at byte k * 15 * 2 ^ (4 * slot))))

pub narrow-spread : (turn : ℕ) (bytes : List ℕ) (count : ℕ) → AreNarrow (spread_words turn bytes count)
unfolding spread_words
narrow-spread turn bytes zero position past = simp bit_at-zero
narrow-spread turn bytes (suc count) position past =
    narrow-sums (spread_words turn bytes count) (nibbles (slice_index bytes count) (slot turn count))
    (narrow-spread turn bytes count) (narrow-nibbles (slice_index bytes count) (slot turn count)) position past

-- no two bytes of a state share a slot
are_apart : (turn i j : ℕ) → Bool
are_apart turn i j = cond (eqb (slot turn i) (slot turn j)) (eqb i j) true

all_apart : all_to (λ turn. all_to (λ i. all_to (λ j. are_apart turn i j) 16) 16) 4 ≡ true
unfolding are_apart
all_apart = refl

apart : (turn i j : ℕ) → turn < 4 → i < 16 → j < 16 → slot turn i ≡ slot turn j → i ≡ j
unfolding are_apart
apart turn i j a b c same =
    let turns = all_to-at (λ t. all_to (λ x. all_to (λ y. are_apart t x y) 16) 16) 4 all_apart turn a in
    let firsts = all_to-at (λ x. all_to (λ y. are_apart turn x y) 16) 16 turns i b in
    let test = all_to-at (λ y. are_apart turn i y) 16 firsts j c in
    let shared = eq-eqb (slot turn i) (slot turn j) same in
    eqb-true i j (subst (λ (b : Bool). cond b (eqb i j) true ≡ true) shared test)

xor-zero : (n : ℕ) → bit_xor n 0 ≡ n
xor-zero n = same_from_bits (bit_xor n 0) n (λ i.
    let both = bit_at_xor n 0 i in
    let none = bit_at-zero i in
    let small = bit_at-lt n i in
    omega arith)

abbrev pub AreBytes : List ℕ → Type 0
AreBytes bytes = (i : ℕ) → i < 16 → slice_index bytes i < 256

slot_few : (turn index : ℕ) → slot turn index < 16
slot_few turn index = omega arith

slot_of_place : (turn block index : ℕ) → block < 4 → place turn block index / 4 ≡ slot turn index
slot_of_place turn block index small = omega arith

inside : (turn block index : ℕ) → block < 4 → place turn block index < 64
inside turn block index small = omega arith

spread-later : (turn : ℕ) (bytes : List ℕ) (block index count : ℕ) → turn < 4 → block < 4 → index < 16 → count ≤ index →
    byte_at (place turn block index) (spread_words turn bytes count) ≡ 0
unfolding spread_words byte_at
spread-later turn bytes block index zero a b c few = simp bit_at-zero
spread-later turn bytes block index (suc count) a b c few =
    let p : ℕ = place turn block index in
    let words = spread_words turn bytes count in
    let before = spread-later turn bytes block index count a b c (omega arith) in
    let there = nibbles-there (slice_index bytes count) (slot turn count) p (slot_few turn count) (inside turn block index b)
    (λ e. let same = apart turn index count a c (omega arith) (sym (slot_of_place turn block index b) ∙ e) in omega arith) in
    byte_at-sums p words (nibbles (slice_index bytes count) (slot turn count)) ∙
    ap (λ (n : ℕ). bit_xor n (byte_at p (nibbles (slice_index bytes count) (slot turn count)))) before ∙
    ap (λ (n : ℕ). bit_xor 0 n) there

pub spread-held : (turn : ℕ) (bytes : List ℕ) (block index count : ℕ) → AreBytes bytes → turn < 4 → block < 4 → count ≤ 16 →
    index < count → byte_at (place turn block index) (spread_words turn bytes count) ≡ slice_index bytes index
unfolding spread_words
spread-held turn bytes block index zero small a b all few = absurd (omega arith)
spread-held turn bytes block index (suc count) small a b all few =
    let p : ℕ = place turn block index in
    let words = spread_words turn bytes count in
    let byte = slice_index bytes count in
    let more = nibbles byte (slot turn count) in
    elim (cases_lt index count) [
      | inl less ↦
          let there = nibbles-there byte (slot turn count) p (slot_few turn count) (inside turn block index b)
          (λ e. let same = apart turn index count a (omega arith) (omega arith) (sym (slot_of_place turn block index b) ∙ e) in
          omega arith) in
          byte_at-sums p words more ∙
          ap (λ (n : ℕ). bit_xor n (byte_at p more)) (spread-held turn bytes block index count small a b (omega arith) less) ∙
          ap (λ (n : ℕ). bit_xor (slice_index bytes index) n) there ∙ xor-zero (slice_index bytes index)
      | inr same ↦
          let here : index ≡ count = omega arith in
          let slots = slot_of_place turn block index b ∙ ap (λ (n : ℕ). slot turn n) here in
          byte_at-sums p words more ∙
          ap (λ (n : ℕ). bit_xor n (byte_at p more)) (spread-later turn bytes block index count a b (omega arith) same) ∙
          ap (λ (n : ℕ). bit_xor 0 n)
          (nibbles-here byte (slot turn count) p (small count (omega arith)) (slot_few turn count) (inside turn block index b) slots) ∙
          xor_comm 0 byte ∙ xor-zero byte ∙ ap (λ (n : ℕ). slice_index bytes n) (sym here)
    ]

pub block-spread : (turn : ℕ) (bytes : List ℕ) (block : ℕ) → AreBytes bytes → length bytes ≡ 16 → turn < 4 → block < 4 →
    block_in turn block (spread_words turn bytes 16) ≡ bytes
unfolding block_in
block-spread turn bytes block small full a b =
    sym (fill_by_all (λ i. byte_at (place turn block i) (spread_words turn bytes 16)) bytes 16 0 full
    (λ k below. sym (spread-held turn bytes block k 16 small a b (omega arith) below)))

pub holds-spread : (turn : ℕ) (bytes : List ℕ) → AreBytes bytes → length bytes ≡ 16 → turn < 4 →
    HoldsKey (spread_words turn bytes 16) turn bytes
holds-spread turn bytes small full a =
    record { held = λ block b. block-spread turn bytes block small full a b; narrow = narrow-spread turn bytes 16 }

zero_tail : (count i : ℕ) → slice_index (replicate count 0) i < 256
zero_tail zero i = omega arith
zero_tail (suc count) zero = omega arith
zero_tail (suc count) (suc i) = zero_tail count i

-- four bytes, and twelve zeros
pub four_bytes : (a b c d : ℕ) → a < 256 → b < 256 → c < 256 → d < 256 → AreBytes (a ∷ b ∷ c ∷ d ∷ replicate 12 0)
four_bytes a b c d ha hb hc hd zero below = ha
four_bytes a b c d ha hb hc hd (suc zero) below = hb
four_bytes a b c d ha hb hc hd (suc (suc zero)) below = hc
four_bytes a b c d ha hb hc hd (suc (suc (suc zero))) below = hd
four_bytes a b c d ha hb hc hd (suc (suc (suc (suc i)))) below = zero_tail 12 i

-- SubWord() of the first bytes of a block, by planes
pub sub_word-at : (bytes planes closed : List ℕ) (k : ℕ) → planes ≡ spread_words 0 bytes 16 →
    closed ≡ map (λ j. slice_index (substituted on_words planes) j) (range_with_len 0 8) → AreBytes bytes → k < 4 →
    byte_at (16 * k) closed ≡ sub_byte (slice_index bytes k)
unfolding byte_at
sub_word-at bytes planes closed k spread substitute small few =
    let here : 16 * k ≡ place 0 0 k = omega arith in
    let held = spread-held 0 bytes 0 k 16 small (omega arith) (omega arith) (omega arith) (omega arith) in
    ap (λ (v : List ℕ). byte_at (16 * k) v) substitute ∙
    byte_at-substituted (16 * k) planes (omega arith) ∙
    ap (λ (v : List ℕ). sub_byte (byte_at (16 * k) v)) spread ∙
    ap (λ (n : ℕ). sub_byte (byte_at n (spread_words 0 bytes 16))) here ∙ ap sub_byte held

pub narrow-words : (planes : List ℕ) (turn : ℕ) (bytes : List ℕ) → planes ≡ spread_words turn bytes 16 → AreNarrow planes
narrow-words planes turn bytes spread =
    subst (λ (p : List ℕ). AreNarrow p) (sym spread) (narrow-spread turn bytes 16)
