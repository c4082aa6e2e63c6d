use Rattle.std.proofs.Common.{◌≡◌, ◌++◌, take, string_bytes}
use Rattle.std.specs.List.{flat_map}
use Rattle.srt_status.specs.Metrics.{slot_gauge}
use Rattle.srt_status.proofs.metrics.put_route_gauges.Given as goal

abbrev pub invariant-loop-slot : goal.invariant-loop-slot
invariant-loop-slot l = l.out.items ≡ l.fn.out.items ++ flat_map (slot_gauge (string_bytes l.route.name) l.moment l.gauge) (take l.slot-index l.route.sessions)
