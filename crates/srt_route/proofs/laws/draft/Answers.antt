use Rattle.srt_route.proofs.model.Drafts.{none_drains}
use Rattle.srt_route.proofs.laws.draft.Goals as goal

pub returns : goal.returns
returns c = none_drains
