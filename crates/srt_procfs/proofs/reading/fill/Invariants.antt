use Rattle.std.proofs.Common.{◌≤◌, ◌≡◌, ◌-◌, ◌++◌, length, take}
use Rattle.srt_procfs.proofs.reading.fill.Given as goal

abbrev pub invariant-loop-len : goal.invariant-loop-len
invariant-loop-len g l =
    (l.len ≤ length l.place) × (length l.place ≡ length l.initial.place)
    × ((g.F.KernelFiles.reading l.file).path ≡ (g.F.KernelFiles.reading l.initial.file).path)
    × ((g.F.KernelFiles.reading l.file).text ≡ (g.F.KernelFiles.reading l.initial.file).text ++ take l.len l.place)

abbrev pub decreases-loop-len : goal.decreases-loop-len
decreases-loop-len g l = length l.place - l.len
