use Rattle.std.proofs.Common.{◌≡◌, ◌+◌, ◌*◌, ◌%◌, ◌≤◌, ◌++◌, length}
use Rattle.srt_types.specs.Words.{words_in}
use Rattle.srt_hs.proofs.contents.words_of.Given as goal

abbrev pub invariant-loop-rest : goal.invariant-loop-rest
invariant-loop-rest l = (l.words.items ++ words_in l.rest ≡ words_in l.contents) × (length l.rest % 4 ≡ 0) × (4 * length l.words.items + length l.rest ≤ 12)

abbrev pub decreases-loop-rest : goal.decreases-loop-rest
decreases-loop-rest l = length l.rest
