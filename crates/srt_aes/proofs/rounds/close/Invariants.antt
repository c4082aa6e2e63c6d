use Rattle.std.proofs.Common.{◌≡◌, ℕ, List, ◌-◌}
use Rattle.srt_aes.specs.inside.Planes.{joined, words_after}
use Rattle.srt_aes.proofs.rounds.close.Given as goal

abbrev pub invariant-loop-round : goal.invariant-loop-round
invariant-loop-round l =
    (a b : List ℕ) → l.fn.state ≡ joined 8 a b →
    l.now ≡ joined 8 (words_after l.keys a (l.round - 1)) (words_after l.keys b (l.round - 1))
