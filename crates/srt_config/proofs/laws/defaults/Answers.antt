use Rattle.srt_config.proofs.Completed.{own_before_default, none_without_defaults, written_out_stays}
use Rattle.srt_config.proofs.laws.defaults.Goals as goal

pub returns-clause-own : goal.returns-clause-own
returns-clause-own c = own_before_default

pub returns-clause-none : goal.returns-clause-none
returns-clause-none c = none_without_defaults

pub returns-clause-written : goal.returns-clause-written
returns-clause-written c = written_out_stays
