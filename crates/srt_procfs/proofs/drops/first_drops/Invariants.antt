use Rattle.std.proofs.Common.{◌≡◌, length}
use Rattle.srt_procfs.specs.Parts.{parts_of}
use Rattle.srt_procfs.specs.Drops.{first_drops}
use Rattle.srt_procfs.proofs.drops.first_drops.Given as goal

abbrev pub invariant-loop-rest : goal.invariant-loop-rest
invariant-loop-rest l = first_drops l.local (parts_of 10 l.left) ≡ first_drops l.local (parts_of 10 l.text)

abbrev pub decreases-loop-rest : goal.decreases-loop-rest
decreases-loop-rest l = length l.left
