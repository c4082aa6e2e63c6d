use Rattle.std.proofs.Common.{◌≡◌, ◌++◌, take}
use Rattle.std.specs.List.{flat_map}
use Rattle.srt_status.specs.Metrics.{route_ends}
use Rattle.srt_status.proofs.metrics.put_all_ends.Given as goal

abbrev pub invariant-loop-route : goal.invariant-loop-route
invariant-loop-route l = l.out.items ≡ l.fn.out.items ++ flat_map route_ends (take l.route-index l.routes)
