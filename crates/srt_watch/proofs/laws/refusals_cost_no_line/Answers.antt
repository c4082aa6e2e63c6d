use Rattle.srt_watch.proofs.Floods.{cost_nothing}
use Rattle.srt_watch.proofs.laws.refusals_cost_no_line.Goals as goal

pub returns : goal.returns
returns c = cost_nothing
