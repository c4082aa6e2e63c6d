use Rattle.std.proofs.Common.{◌≡◌, length}
use Rattle.srt_procfs.specs.Parts.{parts_of}
use Rattle.srt_procfs.specs.Process.{last_part}
use Rattle.srt_procfs.proofs.process.last_part.Given as goal

abbrev pub invariant-loop-rest : goal.invariant-loop-rest
invariant-loop-rest l = last_part (parts_of l.separator l.left) ≡ last_part (parts_of l.separator l.text)

abbrev pub decreases-loop-rest : goal.decreases-loop-rest
decreases-loop-rest l = length l.left
