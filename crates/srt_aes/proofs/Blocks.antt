-- The rounds on planes are those of FIPS 197 on the blocks that the planes hold.
use Rattle.std.proofs.Common.{◌≡◌, ℕ, zero, suc, ◌+◌, ◌-◌, ◌*◌, ◌/◌, ◌%◌, ◌<◌, ◌≤◌, Bool, true, false, ◌&&◌, List, [], ◌∷◌, map, length, bit_xor}
use Rattle.std.proofs.Common.{slice_index, refl, sym, ap, ◌∙◌, subst, arith, eqb, nat_lt}
use Rattle.std.specs.Prelude.{◌==◌}
use Rattle.std.specs.List.{range_with_len}
use Rattle.std.proofs.lemmas.Bool.{eqb-true, and_parts}
use Rattle.srt_aes.specs.Aes.{sub_byte, sub_bytes, shift_rows, mix_columns, mixed, add_round_key, round_key, state_after, cipher}
use Rattle.srt_aes.specs.inside.Circuit.{on_words, substituted}
use Rattle.srt_aes.specs.inside.Planes.{byte_at, block_in, place, slot, sums, mix_words, key_planes, words_after, closed_words, AreNarrow, HoldsKey, HoldKeys}
use Rattle.srt_aes.proofs.AllBelow.{all_to, all_to-at, same_over_range}
use Rattle.srt_aes.proofs.Bits.{byte_at-sums}
use Rattle.srt_aes.proofs.Substitution.{byte_at-substituted}
use Rattle.srt_aes.proofs.Mixing.{byte_at-mixed, next_place, further_place, narrow-sums, narrow-substituted, narrow-mixed}

-- where ShiftRows() takes a byte from, and the place of the byte in the next row
abbrev shifted : ℕ → ℕ
shifted index = (index + 4 * (index % 4)) % 16

abbrev below : ℕ → ℕ
below index = 4 * (index / 4) + (index % 4 + 1) % 4

is_placed : (turn block index : ℕ) → Bool
is_placed turn block index =
    (place turn block index == place ((turn + 3) % 4) block (shifted index)) &&
    ((next_place turn (place turn block index) == place turn block (below index)) &&
    (further_place turn (place turn block index) == place turn block (below (below index))))

all_placed : all_to (λ turn. all_to (λ block. all_to (λ index. is_placed turn block index) 16) 4) 4 ≡ true
unfolding is_placed
all_placed = refl

record IsPlaced (turn block index : ℕ) : Type 0 where
  moved : place turn block index ≡ place ((turn + 3) % 4) block (shifted index)
  next : next_place turn (place turn block index) ≡ place turn block (below index)
  further : further_place turn (place turn block index) ≡ place turn block (below (below index))

placed : (turn block index : ℕ) → turn < 4 → block < 4 → index < 16 → IsPlaced turn block index
unfolding is_placed
placed turn block index a b c =
    let turns = all_to-at (λ t. all_to (λ b. all_to (λ i. is_placed t b i) 16) 4) 4 all_placed turn a in
    let blocks = all_to-at (λ b. all_to (λ i. is_placed turn b i) 16) 4 turns block b in
    let test = all_to-at (λ i. is_placed turn block i) 16 blocks index c in
    let one = and_parts _ _ test in
    let two = and_parts _ _ one.1 in
    record { moved = eqb-true _ _ one.0; next = eqb-true _ _ two.0; further = eqb-true _ _ two.1 }

inside : (turn block index : ℕ) → block < 4 → place turn block index < 64
inside turn block index small = omega arith

block_in-substituted : (turn block : ℕ) (words : List ℕ) → block < 4 →
    block_in turn block (substituted on_words words) ≡ sub_bytes (block_in turn block words)
unfolding block_in
block_in-substituted turn block words small =
    same_over_range (λ i. byte_at (place turn block i) (substituted on_words words))
    (λ i. sub_byte (byte_at (place turn block i) words)) 0 16
    (λ i low. byte_at-substituted (place turn block i) words (inside turn block i small))

block_in-sums : (turn block : ℕ) (words others : List ℕ) →
    block_in turn block (sums words others) ≡ add_round_key (block_in turn block words) (block_in turn block others)
unfolding block_in
block_in-sums turn block words others =
    same_over_range (λ i. byte_at (place turn block i) (sums words others))
    (λ i. bit_xor (byte_at (place turn block i) words) (byte_at (place turn block i) others)) 0 16
    (λ i low. byte_at-sums (place turn block i) words others)

block_in-shifted : (turn block : ℕ) (words : List ℕ) → turn < 4 → block < 4 →
    block_in turn block words ≡ shift_rows (block_in ((turn + 3) % 4) block words)
unfolding block_in
block_in-shifted turn block words few small =
    same_over_range (λ i. byte_at (place turn block i) words)
    (λ i. byte_at (place ((turn + 3) % 4) block (shifted i)) words) 0 16
    (λ i low. ap (λ (n : ℕ). byte_at n words) (placed turn block i few small (omega arith)).moved)

mixed_at : (turn block : ℕ) (words : List ℕ) → turn < 4 → block < 4 → AreNarrow words → (i : ℕ) → i < 16 →
    byte_at (place turn block i) (mix_words turn words) ≡
    mixed (byte_at (place turn block i) words) (byte_at (place turn block (below i)) words)
    (byte_at (place turn block (below (below i))) words) (byte_at (place turn block (below (below (below i)))) words)
mixed_at turn block words few small narrow i low =
    let here = placed turn block i few small low in
    let there = placed turn block (below (below i)) few small (omega arith) in
    let p : ℕ = place turn block i in
    let within : further_place turn p < 64 =
    subst (λ (n : ℕ). n < 64) (sym here.further) (inside turn block (below (below i)) small) in
    let last = ap (λ (n : ℕ). next_place turn n) here.further ∙ there.next in
    byte_at-mixed turn p words few narrow (inside turn block i small) within ∙
    ap (λ (n : ℕ). mixed (byte_at p words) (byte_at n words) (byte_at (further_place turn p) words)
    (byte_at (next_place turn (further_place turn p)) words)) here.next ∙
    ap (λ (n : ℕ). mixed (byte_at p words) (byte_at (place turn block (below i)) words) (byte_at n words)
    (byte_at (next_place turn (further_place turn p)) words)) here.further ∙
    ap (λ (n : ℕ). mixed (byte_at p words) (byte_at (place turn block (below i)) words)
    (byte_at (place turn block (below (below i))) words) (byte_at n words)) last

block_in-mixed : (turn block : ℕ) (words : List ℕ) → turn < 4 → block < 4 → AreNarrow words →
    block_in turn block (mix_words turn words) ≡ mix_columns (block_in turn block words)
unfolding block_in
block_in-mixed turn block words few small narrow =
    same_over_range (λ i. byte_at (place turn block i) (mix_words turn words))
    (λ i. mixed (byte_at (place turn block i) words) (byte_at (place turn block (below i)) words)
    (byte_at (place turn block (below (below i))) words) (byte_at (place turn block (below (below (below i)))) words)) 0 16
    (λ i low. mixed_at turn block words few small narrow i (omega arith))

narrow-after : (keys : List (List ℕ)) (schedule : List ℕ) (rounds : ℕ) → HoldKeys keys schedule rounds →
    (words : List ℕ) → AreNarrow words → (count : ℕ) → count ≤ rounds → AreNarrow (words_after keys words count)
unfolding words_after
narrow-after keys schedule rounds hold words narrow zero few =
    narrow-sums words (key_planes keys 0) narrow (hold 0 few).narrow
narrow-after keys schedule rounds hold words narrow (suc count) few =
    let before = narrow-after keys schedule rounds hold words narrow count (omega arith) in
    let x = words_after keys words count in
    let turn : ℕ = (count + 1) % 4 in
    narrow-sums (mix_words turn (substituted on_words x)) (key_planes keys (count + 1))
    (narrow-mixed turn (substituted on_words x) (narrow-substituted x before)) (hold (count + 1) (omega arith)).narrow

-- SubBytes() and ShiftRows()
shifted_bytes : (turn block : ℕ) (words : List ℕ) → turn < 4 → block < 4 →
    block_in turn block (substituted on_words words) ≡ shift_rows (sub_bytes (block_in ((turn + 3) % 4) block words))
shifted_bytes turn block words few small =
    block_in-shifted turn block (substituted on_words words) few small ∙
    ap shift_rows (block_in-substituted ((turn + 3) % 4) block words small)

pub held-after : (keys : List (List ℕ)) (schedule : List ℕ) (rounds : ℕ) → HoldKeys keys schedule rounds →
    (words : List ℕ) → AreNarrow words → (block : ℕ) → block < 4 → (count : ℕ) → count ≤ rounds →
    block_in (count % 4) block (words_after keys words count) ≡ state_after schedule (block_in 0 block words) count
unfolding words_after state_after
held-after keys schedule rounds hold words narrow block small zero few =
    block_in-sums 0 block words (key_planes keys 0) ∙
    ap (add_round_key (block_in 0 block words)) ((hold 0 few).held block small)
held-after keys schedule rounds hold words narrow block small (suc count) few =
    let before = held-after keys schedule rounds hold words narrow block small count (omega arith) in
    let x = words_after keys words count in
    let s = substituted on_words x in
    let next : suc count ≡ count + 1 = omega arith in
    let turn : ℕ = (count + 1) % 4 in
    let less : turn < 4 = omega arith in
    let back : (turn + 3) % 4 ≡ count % 4 = omega arith in
    let n = narrow-substituted x (narrow-after keys schedule rounds hold words narrow count (omega arith)) in
    let bytes = shifted_bytes turn block x less small ∙ ap (λ (t : ℕ). shift_rows (sub_bytes (block_in t block x))) back ∙
    ap (λ (v : List ℕ). shift_rows (sub_bytes v)) before in
    let mixes = block_in-mixed turn block s less small n ∙ ap mix_columns bytes in
    let keyed = (hold (count + 1) (omega arith)).held block small in
    ap (λ (t : ℕ). block_in (t % 4) block (sums (mix_words turn s) (key_planes keys (count + 1)))) next ∙
    block_in-sums turn block (mix_words turn s) (key_planes keys (count + 1)) ∙
    ap (λ (v : List ℕ). add_round_key v (block_in turn block (key_planes keys (count + 1)))) mixes ∙
    ap (λ (v : List ℕ). add_round_key (mix_columns (shift_rows (sub_bytes (state_after schedule (block_in 0 block words) count)))) v) keyed

-- Cipher() of each of the four blocks
pub held-closed : (keys : List (List ℕ)) (schedule : List ℕ) (rounds : ℕ) → HoldKeys keys schedule rounds → 0 < rounds →
    (words : List ℕ) → AreNarrow words → (block : ℕ) → block < 4 →
    block_in (rounds % 4) block (closed_words keys rounds words) ≡ cipher schedule rounds (block_in 0 block words)
unfolding closed_words
held-closed keys schedule rounds hold some words narrow block small =
    let before = held-after keys schedule rounds hold words narrow block small (rounds - 1) (omega arith) in
    let x = words_after keys words (rounds - 1) in
    let s = substituted on_words x in
    let turn : ℕ = rounds % 4 in
    let less : turn < 4 = omega arith in
    let back : (turn + 3) % 4 ≡ (rounds - 1) % 4 = omega arith in
    let bytes = shifted_bytes turn block x less small ∙ ap (λ (t : ℕ). shift_rows (sub_bytes (block_in t block x))) back ∙
    ap (λ (v : List ℕ). shift_rows (sub_bytes v)) before in
    let keyed = (hold rounds (omega arith)).held block small in
    block_in-sums turn block s (key_planes keys rounds) ∙
    ap (λ (v : List ℕ). add_round_key v (block_in turn block (key_planes keys rounds))) bytes ∙
    ap (λ (v : List ℕ). add_round_key (shift_rows (sub_bytes (state_after schedule (block_in 0 block words) (rounds - 1)))) v) keyed
