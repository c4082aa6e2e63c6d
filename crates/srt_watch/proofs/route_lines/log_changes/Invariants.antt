use Rattle.srt_watch.specs.Log.{Logged}
use Rattle.srt_watch.specs.RouteLines.{calls_to}
use Rattle.srt_watch.proofs.route_lines.log_changes.Given as goal

abbrev pub invariant-loop-step : goal.invariant-loop-step
invariant-loop-step g l =
    Logged (g.W.Write.contents l.fn.log.out.out) (g.W.Write.contents l.log.out.out) l.fn.log.pace l.log.pace (calls_to l.route.when l.route.name l.pair l.step)
