use Rattle.srt_route.proofs.model.SessionRules.{deadlines_are_near}
use Rattle.srt_route.proofs.laws.deadlines.Goals as goal

pub returns : goal.returns
returns c = deadlines_are_near
