use Rattle.srt_packet.proofs.Sent.{sent_is_spelled, sent_is_read}
use Rattle.srt_packet.proofs.laws.what_is_sent_is_read.Goals as goal

pub returns : goal.returns
returns c = record { spelled = sent_is_spelled; read = sent_is_read }
