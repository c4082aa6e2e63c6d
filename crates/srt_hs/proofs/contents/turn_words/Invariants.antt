use Rattle.std.proofs.Common.{◌≡◌, ℕ, ◌≤◌, ◌+◌, ◌%◌, ◌++◌, length, take, drop}
use Rattle.srt_hs.specs.Grammar.{turned_words}
use Rattle.srt_hs.proofs.contents.turn_words.Given as goal

abbrev pub invariant-loop-rest : goal.invariant-loop-rest
invariant-loop-rest l =
    (take l.end l.out ++ turned_words l.rest ≡ turned_words l.contents) × (length l.rest % 4 ≡ 0) ×
    (l.end + length l.rest ≡ length l.contents) × ((k : ℕ) → l.end ≤ k → drop k l.out ≡ drop k l.initial.out)

abbrev pub decreases-loop-rest : goal.decreases-loop-rest
decreases-loop-rest l = length l.rest
