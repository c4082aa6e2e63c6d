use Rattle.std.proofs.Common.{◌≡◌}
use Rattle.srt_watch.specs.RouteLines.{take_overs_to}
use Rattle.srt_watch.proofs.route_lines.take_overs.Given as goal

abbrev pub invariant-loop-step : goal.invariant-loop-step
invariant-loop-step l = l.count ≡ take_overs_to l.pair.old l.pair.new l.step
