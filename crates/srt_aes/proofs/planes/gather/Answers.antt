use Rattle.std.proofs.Common.{◌≡◌, ℕ, List, map, ◌+◌, ◌*◌, ◌%◌, ◌<◌, ◌/◌, ◌^◌, refl, sym, ap, ◌∙◌, arith, slice_index}
use Rattle.std.specs.Int.{w64, to_le_bytes}
use Rattle.std.specs.List.{range_with_len}
use Rattle.srt_aes.specs.inside.Planes.{block_in, byte_at}
use Rattle.srt_aes.specs.inside.Transposing.{transposed_words}
use Rattle.srt_aes.proofs.Swapping.{byte-transposed}
use Rattle.srt_aes.proofs.planes.gather.Goals as goal

-- the bytes of a word
bytes_of : (planes : List ℕ) (word from block : ℕ) → word < 8 → word ≡ from + block →
    to_le_bytes w64 (slice_index (transposed_words planes) word) ≡
    map (λ k. byte_at (8 * k + from + block) planes) (range_with_len 0 8)
bytes_of planes word from block few is =
    let n : ℕ = slice_index (transposed_words planes) word in
    let at = λ (k : ℕ) (inside : k < 8).
    let same : 8 * k + word ≡ 8 * k + from + block = omega (arith, is) in
    byte-transposed planes word k few inside ∙ ap (λ (m : ℕ). byte_at m planes) same in
    let first : n % 256 ≡ n / 2 ^ (8 * 0) % 256 = omega arith in
    let e0 = first ∙ at 0 (omega arith) in
    let e1 = at 1 (omega arith) in
    let e2 = at 2 (omega arith) in
    let e3 = at 3 (omega arith) in
    let e4 = at 4 (omega arith) in
    let e5 = at 5 (omega arith) in
    let e6 = at 6 (omega arith) in
    let e7 = at 7 (omega arith) in
    cc

-- of the word with the first and third columns of a block, and of that with the others
first_columns : (planes words bytes : List ℕ) (block : ℕ) → words ≡ transposed_words planes → block < 4 →
    bytes ≡ to_le_bytes w64 (slice_index words block) →
    bytes ≡ map (λ k. byte_at (8 * k + 0 + block) planes) (range_with_len 0 8)
first_columns planes words bytes block is few read =
    read ∙ ap (λ (v : List ℕ). to_le_bytes w64 (slice_index v block)) is ∙ bytes_of planes block 0 block (omega arith) (omega arith)

other_columns : (planes words bytes : List ℕ) (block : ℕ) → words ≡ transposed_words planes → block < 4 →
    bytes ≡ to_le_bytes w64 (slice_index words (block + 4)) →
    bytes ≡ map (λ k. byte_at (8 * k + 4 + block) planes) (range_with_len 0 8)
other_columns planes words bytes block is few read =
    read ∙ ap (λ (v : List ℕ). to_le_bytes w64 (slice_index v (block + 4))) is ∙
    bytes_of planes (block + 4) 4 block (omega arith) (omega arith)

pub returns-then-turn-eq0 : goal.returns-then-turn-eq0
unfolding block_in
returns-then-turn-eq0 c planes is =
    let words = c.args.words.now in
    let block : ℕ = c.args.block in
    let few : block < 4 = omega arith in
    let a = first_columns planes words c.to_le_bytes-a.result block is few c.to_le_bytes-a.ensures in
    let b = other_columns planes words c.to_le_bytes-b.result block is few c.to_le_bytes-b.ensures in
    rw (a, b, c.if-turn-eq0.true) refl

pub returns-else-turn-eq0 : goal.returns-else-turn-eq0
unfolding block_in
returns-else-turn-eq0 c planes is =
    let words = c.args.words.now in
    let block : ℕ = c.args.block in
    let few : block < 4 = omega arith in
    let two : c.args.turn ≡ 2 = omega (arith, c.if-turn-eq0.false) in
    let a = first_columns planes words c.to_le_bytes-a.result block is few c.to_le_bytes-a.ensures in
    let b = other_columns planes words c.to_le_bytes-b.result block is few c.to_le_bytes-b.ensures in
    rw (a, b, two) refl
