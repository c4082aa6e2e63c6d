use Rattle.std.proofs.Common.{length}
use Rattle.srt_explain.proofs.lines.line_of.Given as goal

abbrev pub decreases-loop-sought : goal.decreases-loop-sought
decreases-loop-sought l = length l.rest
