use Rattle.std.proofs.Common.{◌≡◌, ◌++◌, take}
use Rattle.std.specs.List.{flat_map}
use Rattle.srt_status.specs.Json.{gauge_json}
use Rattle.srt_status.proofs.json.put_gauges.Given as goal

abbrev pub invariant-loop-gauge : goal.invariant-loop-gauge
invariant-loop-gauge l = l.out.items ≡ l.fn.out.items ++ flat_map (gauge_json l.moment l.session) (take l.gauge-index l.gauges)
