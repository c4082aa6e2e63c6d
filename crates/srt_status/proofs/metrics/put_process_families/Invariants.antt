use Rattle.std.proofs.Common.{◌≡◌, ◌++◌, take}
use Rattle.std.specs.List.{flat_map}
use Rattle.srt_status.specs.Metrics.{process_family}
use Rattle.srt_status.proofs.metrics.put_process_families.Given as goal

abbrev pub invariant-loop-figure : goal.invariant-loop-figure
invariant-loop-figure l = l.out.items ≡ l.fn.out.items ++ flat_map (process_family l.gateway) (take l.figure-index l.figures)
