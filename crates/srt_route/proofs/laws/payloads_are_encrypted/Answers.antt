use Rattle.srt_route.proofs.model.Covered.{payloads_are_covered}
use Rattle.srt_route.proofs.laws.payloads_are_encrypted.Goals as goal

pub returns : goal.returns
returns c = payloads_are_covered
