use Rattle.srt_packet.proofs.KeyPackets.{reading_is_spelling, reads_back, are_user_defined}
use Rattle.srt_packet.proofs.laws.key_packets.Goals as goal

pub returns : goal.returns
returns c = record { spelled = reading_is_spelling; back = reads_back; others = are_user_defined }
