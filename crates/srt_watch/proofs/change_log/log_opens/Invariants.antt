use Rattle.std.proofs.Common.{length, map}
use Rattle.srt_types.specs.Terms.{terms_of}
use Rattle.srt_watch.specs.ChangeLines.{opens_calls}
use Rattle.srt_watch.proofs.OpenedLines.{LeadsTo}
use Rattle.srt_watch.proofs.change_log.log_opens.Given as goal

abbrev pub invariant-loop-rest : goal.invariant-loop-rest
invariant-loop-rest g l =
    LeadsTo (g.W.Write.contents l.fn.log.out.out) (g.W.Write.contents l.log.out.out) l.fn.log.pace l.log.pace
    (opens_calls l.when l.index l.rest (map terms_of l.routes)) (opens_calls l.when l.first l.changes (map terms_of l.entries))

abbrev pub decreases-loop-rest : goal.decreases-loop-rest
decreases-loop-rest g l = length l.rest
