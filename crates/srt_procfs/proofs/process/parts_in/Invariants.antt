use Rattle.std.proofs.Common.{◌≡◌, ◌≤◌, ◌+◌, length}
use Rattle.srt_procfs.specs.Parts.{parts_of}
use Rattle.srt_procfs.proofs.process.parts_in.Given as goal

abbrev pub invariant-loop-rest : goal.invariant-loop-rest
invariant-loop-rest l =
    (l.before + length (parts_of l.separator l.left) ≡ length (parts_of l.separator l.text)) × (l.before + length l.left ≤ length l.text)

abbrev pub decreases-loop-rest : goal.decreases-loop-rest
decreases-loop-rest l = length l.left
