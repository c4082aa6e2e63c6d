use Rattle.std.proofs.Common.{◌≡◌, length}
use Rattle.srt_procfs.specs.Parts.{parts_of, word_at}
use Rattle.srt_procfs.proofs.parts.word_at.Given as goal

abbrev pub invariant-loop-fewer : goal.invariant-loop-fewer
invariant-loop-fewer l = word_at l.before (parts_of 32 l.left) ≡ word_at l.index (parts_of 32 l.line)

abbrev pub decreases-loop-fewer : goal.decreases-loop-fewer
decreases-loop-fewer l = length l.left
