use Rattle.std.proofs.Common.{◌≡◌, ◌++◌, take}
use Rattle.std.specs.List.{flat_map}
use Rattle.srt_status.specs.Metrics.{gauge_family}
use Rattle.srt_status.proofs.metrics.put_gauge_families.Given as goal

abbrev pub invariant-loop-gauge : goal.invariant-loop-gauge
invariant-loop-gauge l = l.out.items ≡ l.fn.out.items ++ flat_map (gauge_family l.moment l.routes) (take l.gauge-index l.gauges)
