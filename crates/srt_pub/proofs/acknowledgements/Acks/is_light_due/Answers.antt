use Rattle.srt_pub.proofs.Fulls.{light_due}
use Rattle.srt_pub.proofs.acknowledgements.Acks.is_light_due.Goals as goal

pub returns : goal.returns
returns c width front point notes h = light_due width front point notes _ _ _ _ h.1
