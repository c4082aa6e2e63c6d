use Rattle.srt_log.proofs.Limits.{counts_each_line}
use Rattle.srt_log.proofs.laws.each_line_is_counted.Goals as goal

pub returns : goal.returns
returns c = counts_each_line
