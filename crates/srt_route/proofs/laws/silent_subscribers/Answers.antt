use Rattle.srt_route.proofs.model.SessionRules.{silent_are_sent_nothing}
use Rattle.srt_route.proofs.laws.silent_subscribers.Goals as goal

pub returns : goal.returns
returns c = silent_are_sent_nothing
