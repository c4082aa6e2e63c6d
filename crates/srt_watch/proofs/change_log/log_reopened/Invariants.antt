use Rattle.std.proofs.Common.{take}
use Rattle.srt_watch.specs.ChangeLines.{reopened_calls}
use Rattle.srt_watch.specs.Log.{Logged}
use Rattle.srt_watch.proofs.change_log.log_reopened.Given as goal

abbrev pub invariant-loop-change : goal.invariant-loop-change
invariant-loop-change g l =
    Logged (g.W.Write.contents l.fn.log.out.out) (g.W.Write.contents l.log.out.out) l.fn.log.pace l.log.pace
    (reopened_calls l.when l.before (take l.change-index l.changes))
