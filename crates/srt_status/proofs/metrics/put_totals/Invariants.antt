use Rattle.std.proofs.Common.{◌≡◌, ◌++◌, take}
use Rattle.std.specs.List.{flat_map}
use Rattle.srt_status.specs.Metrics.{total_family}
use Rattle.srt_status.proofs.metrics.put_totals.Given as goal

abbrev pub invariant-loop-total : goal.invariant-loop-total
invariant-loop-total l = l.out.items ≡ l.fn.out.items ++ flat_map (total_family l.gateway) (take l.total-index l.totals)
