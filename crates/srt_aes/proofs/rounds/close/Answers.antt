use Rattle.std.proofs.Common.{◌≡◌, ℕ, List, ◌-◌, ◌+◌, ◌%◌, ◌≤◌, refl, arith, rules, suc}
use Rattle.srt_aes.specs.inside.Circuit.{on_words, substituted}
use Rattle.srt_aes.specs.inside.Planes.{joined, words_after, closed_words, mix_words, sums, key_planes}
use Rattle.srt_aes.proofs.rounds.close.Goals as goal

one_more : (keys : List (List ℕ)) (planes : List ℕ) (round : ℕ) → 1 ≤ round →
    words_after keys planes (round + 1 - 1) ≡
    sums (mix_words (round % 4) (substituted on_words (words_after keys planes (round - 1)))) (key_planes keys round)
unfolding words_after
one_more keys planes round some =
    let next : round + 1 - 1 ≡ suc (round - 1) = omega arith in
    let same : round - 1 + 1 ≡ round = omega arith in
    rw (next, same) refl

pub loop-round-init : goal.loop-round-init
unfolding words_after
loop-round-init c a b held = c.add_key-now.ensures a b held

pub loop-round-preserved : goal.loop-round-preserved
loop-round-preserved c a b held =
    let h = c.loop-round.invariant a b held in
    let keys = c.args.keys.now in
    let round = c.loop-round.round in
    let sa = substituted on_words (words_after keys a (round - 1)) in
    let sb = substituted on_words (words_after keys b (round - 1)) in
    let some : 1 ≤ round = omega arith in
    rw (one_more keys a round some, one_more keys b round some)
    (c.add_key-now-in-loop-round.ensures (mix_words (round % 4) sa) (mix_words (round % 4) sb)
    (c.mix_columns.ensures sa sb (c.substitute.ensures _ _ h)))

pub returns : goal.returns
unfolding closed_words
returns c a b held =
    let h = c.loop-round.invariant a b held in
    let keys = c.args.keys.now in
    let same : c.loop-round.round ≡ c.args.last = omega arith in
    let h2 = rw same at h in
    c.add_key.ensures _ _ (c.substitute-2.ensures _ _ h2)
