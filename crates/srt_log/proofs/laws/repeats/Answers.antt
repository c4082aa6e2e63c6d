use Rattle.srt_log.proofs.Waiting.{each_is_told_or_counted, counts_are_told_once}
use Rattle.srt_log.proofs.laws.repeats.Goals as goal

pub returns-clause-each : goal.returns-clause-each
returns-clause-each c = each_is_told_or_counted

pub returns-clause-once : goal.returns-clause-once
returns-clause-once c = counts_are_told_once
