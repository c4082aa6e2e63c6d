use Rattle.srt_route.proofs.model.ConfirmedKeys.{payloads_are_confirmed}
use Rattle.srt_route.proofs.laws.payloads_are_confirmed.Goals as goal

pub returns : goal.returns
returns c = payloads_are_confirmed
