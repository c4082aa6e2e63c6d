use Rattle.srt_route.proofs.model.SessionRules.{clocks_are_trusted, resend_at_each_timeout}
use Rattle.srt_route.proofs.laws.draft_sessions.Goals as goal

pub returns-clause-clocks : goal.returns-clause-clocks
returns-clause-clocks c = clocks_are_trusted

pub returns-clause-resends : goal.returns-clause-resends
returns-clause-resends c = resend_at_each_timeout
