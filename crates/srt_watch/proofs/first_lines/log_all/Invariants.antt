use Rattle.std.proofs.Common.{map, take}
use Rattle.srt_watch.specs.FirstLines.{warning_call}
use Rattle.srt_watch.specs.Log.{Logged}
use Rattle.srt_watch.proofs.first_lines.log_all.Given as goal

abbrev pub invariant-loop-warning : goal.invariant-loop-warning
invariant-loop-warning g l =
    Logged (g.W.Write.contents l.fn.log.out.out) (g.W.Write.contents l.log.out.out) l.fn.log.pace l.log.pace
    (map (warning_call l.when) (take l.warning-index l.warnings))
