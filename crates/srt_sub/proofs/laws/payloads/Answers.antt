use Rattle.srt_sub.proofs.OnePayload.{one_payload_each}
use Rattle.srt_sub.proofs.laws.payloads.Goals as goal

pub returns : goal.returns
returns c = one_payload_each
