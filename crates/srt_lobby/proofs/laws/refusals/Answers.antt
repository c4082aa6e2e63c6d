use Rattle.srt_lobby.proofs.Refusing.{cause_refuses, refusal_has_cause}
use Rattle.srt_lobby.proofs.laws.refusals.Goals as goal

pub returns-clause-refuses : goal.returns-clause-refuses
returns-clause-refuses c = cause_refuses

pub returns-clause-caused : goal.returns-clause-caused
returns-clause-caused c = refusal_has_cause
