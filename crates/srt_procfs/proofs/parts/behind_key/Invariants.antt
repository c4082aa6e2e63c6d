use Rattle.std.proofs.Common.{◌≡◌, length}
use Rattle.srt_procfs.specs.Parts.{parts_of, behind_key}
use Rattle.srt_procfs.proofs.parts.behind_key.Given as goal

abbrev pub invariant-loop-value : goal.invariant-loop-value
invariant-loop-value l = behind_key l.key (parts_of 10 l.left) ≡ behind_key l.key (parts_of 10 l.text)

abbrev pub decreases-loop-value : goal.decreases-loop-value
decreases-loop-value l = length l.left
