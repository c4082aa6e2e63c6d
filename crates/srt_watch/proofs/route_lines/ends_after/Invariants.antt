use Rattle.std.proofs.Common.{◌≡◌}
use Rattle.srt_watch.specs.RouteLines.{ends_to}
use Rattle.srt_watch.proofs.route_lines.ends_after.Given as goal

abbrev pub invariant-loop-step : goal.invariant-loop-step
invariant-loop-step l = l.ends ≡ ends_to l.fn.counts l.pair.old l.pair.new l.step
