use Rattle.srt_sub.proofs.Tries.{counts_tries, waits_long_enough, is_still, resends_at_each_timeout}
use Rattle.srt_sub.proofs.laws.resends_of_all.Goals as goal

pub returns-clause-counted : goal.returns-clause-counted
returns-clause-counted c = counts_tries

pub returns-clause-waits : goal.returns-clause-waits
returns-clause-waits c = waits_long_enough

pub returns-clause-silence : goal.returns-clause-silence
returns-clause-silence c = is_still

pub returns-clause-each : goal.returns-clause-each
returns-clause-each c = resends_at_each_timeout
