use Rattle.srt_route.proofs.model.Renewals.{renewals_are_free}
use Rattle.srt_route.proofs.laws.key_renewals.Goals as goal

pub returns : goal.returns
returns c = renewals_are_free
