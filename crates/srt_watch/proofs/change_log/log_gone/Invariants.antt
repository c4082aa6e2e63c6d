use Rattle.std.proofs.Common.{take}
use Rattle.srt_watch.specs.ChangeLines.{gone_calls}
use Rattle.srt_watch.specs.Log.{Logged}
use Rattle.srt_watch.proofs.change_log.log_gone.Given as goal

abbrev pub invariant-loop-place : goal.invariant-loop-place
invariant-loop-place g l =
    Logged (g.W.Write.contents l.fn.log.out.out) (g.W.Write.contents l.log.out.out) l.fn.log.pace l.log.pace
    (gone_calls l.when l.before (take l.place-index l.gone))
