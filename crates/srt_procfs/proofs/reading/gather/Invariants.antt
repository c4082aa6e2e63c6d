use Rattle.std.proofs.Common.{◌≤◌, ◌≡◌, ◌-◌, length, false}
use Rattle.srt_procfs.proofs.reading.gather.Given as goal

abbrev pub invariant-loop-block : goal.invariant-loop-block
invariant-loop-block g l =
    (length l.text.items ≤ 4_194_304) × ((g.F.KernelFiles.reading l.file).path ≡ (g.F.KernelFiles.reading l.initial.file).path)
    × ((g.F.KernelFiles.reading l.file).text ≡ l.text.items) × ((g.F.KernelFiles.reading l.file).has_failed ≡ false)

abbrev pub decreases-loop-block : goal.decreases-loop-block
decreases-loop-block g l = 4_194_304 - length l.text.items
