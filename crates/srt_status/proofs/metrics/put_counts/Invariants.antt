use Rattle.std.proofs.Common.{◌≡◌, ◌++◌, take}
use Rattle.std.specs.List.{flat_map}
use Rattle.srt_status.specs.Metrics.{route_count}
use Rattle.srt_status.proofs.metrics.put_counts.Given as goal

abbrev pub invariant-loop-route : goal.invariant-loop-route
invariant-loop-route l = l.out.items ≡ l.fn.out.items ++ flat_map (route_count l.count) (take l.route-index l.routes)
