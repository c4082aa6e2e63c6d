use Rattle.std.proofs.Common.{◌≡◌, ℕ, zero, suc, List, [], ◌∷◌, ◌++◌, ◌+◌, ◌-◌, ◌*◌, ◌/◌, ◌%◌, ◌<◌, ◌≤◌, ◌⊎◌, refl, sym, ap, ◌∙◌, subst, inl, inr}
use Rattle.std.proofs.Common.{arith, rules, slice_index, bit_xor, length, take, map}
use Rattle.srt_aes.specs.Aes.{aes, schedule_of, rounds_of}
use Rattle.srt_aes.specs.Keys.{key_of}
use Rattle.srt_aes.specs.inside.Planes.{block_in, closed_words, numbered, numbered_stream, HoldKeys, sums, counter_planes}
use Rattle.srt_aes.proofs.Counting.{lane, eight_more, four_equal}
use Rattle.srt_aes.specs.inside.Transposing.{transposed_words}
use Rattle.srt_aes.proofs.Swapping.{transposed-items}
use Rattle.srt_aes.proofs.counter.write_batch.Goals as goal

pub returns : goal.returns
returns c block holds so_far =
    let keys = c.args.keys.now in
    let key = key_of keys in
    let batch = c.args.batch in
    let base = c.args.base.now in
    let last : ℕ = c.rounds-last.result in
    let low = c.counted-low.result in
    let high = c.counted-high.result in
    let a = λ (i : ℕ). aes key (numbered block i) in
    let n : ℕ = 8 * batch in
    let rounds : last ≡ rounds_of key = c.rounds-last.ensures.value ∙ ap (λ (v : ℕ). v / 4 + 6) (sym keys.sized) in
    let hold : HoldKeys keys.planes (schedule_of key) last =
    subst (λ (v : ℕ). HoldKeys keys.planes (schedule_of key) v) (sym c.rounds-last.ensures.value)
    (keys.held c.requires.whole) in
    let cl = closed_words keys.planes last low in
    let ch = closed_words keys.planes last high in
    let closed = c.transposed-words.ensures cl ch (c.close-closed.ensures low high c.paired.ensures) in
    let first = c.first.ensures (transposed_words cl) (transposed_words ch) closed ∙ transposed-items cl in
    let second = c.second.ensures (transposed_words cl) (transposed_words ch) closed ∙ transposed-items ch in
    let i0 : 8 * batch ≡ 4 * (2 * batch) = omega arith in
    let i1 : 8 * batch + 4 ≡ 4 * (2 * batch + 1) = omega arith in
    let made_low = c.counted-low.ensures ∙ ap (λ (v : ℕ). sums base (counter_planes v)) i0 in
    let made_high = c.counted-high.ensures ∙ ap (λ (v : ℕ). sums base (counter_planes v)) i1 in
    let l = lane keys.planes key last base block (2 * batch) low hold rounds holds (omega arith) made_low in
    let h = lane keys.planes key last base block (2 * batch + 1) high hold rounds holds (omega arith) made_high in
    let s0 = c.args.stream.now in
    let s1 = c.write_blocks.new.stream in
    let s2 = c.write_blocks-2.new.stream in
    let w1 = c.write_blocks.ensures cl first ∙ four_equal (take (128 * batch) s0) _ _ _ _ (a n) (a (n + 1)) (a (n + 2)) (a (n + 3))
    (l 0 n (omega arith) (omega arith)) (l 1 (n + 1) (omega arith) (omega arith)) (l 2 (n + 2) (omega arith) (omega arith))
    (l 3 (n + 3) (omega arith) (omega arith)) in
    let w2 = c.write_blocks-2.ensures ch second ∙ four_equal (take (128 * batch + 64) s1) _ _ _ _ (a (n + 4)) (a (n + 5)) (a (n + 6))
    (a (n + 7)) (h 0 (n + 4) (omega arith) (omega arith)) (h 1 (n + 5) (omega arith) (omega arith))
    (h 2 (n + 6) (omega arith) (omega arith)) (h 3 (n + 7) (omega arith) (omega arith)) in
    let end : 128 * (batch + 1) ≡ 128 * batch + 64 + 64 = omega arith in
    let more : n + 8 ≡ 8 * (batch + 1) = omega arith in
    ap (λ (v : ℕ). take v s2) end ∙ w2 ∙
    ap (λ (v : List ℕ). v ++ a (n + 4) ++ a (n + 5) ++ a (n + 6) ++ a (n + 7)) w1 ∙
    ap (λ (v : List ℕ). v ++ a n ++ a (n + 1) ++ a (n + 2) ++ a (n + 3) ++ a (n + 4) ++ a (n + 5) ++ a (n + 6) ++ a (n + 7))
    so_far ∙
    sym (eight_more key block n) ∙ ap (numbered_stream key block) more
