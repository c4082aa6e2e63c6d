use Rattle.srt_packet.proofs.Agreement.{reads_the_spelled}
use Rattle.srt_packet.proofs.laws.what_is_read_is_spelled.Goals as goal

pub returns : goal.returns
returns c = reads_the_spelled
