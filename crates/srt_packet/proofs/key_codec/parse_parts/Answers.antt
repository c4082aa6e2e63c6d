use Rattle.std.proofs.Common.{arith}
use Rattle.srt_packet.specs.KeyPacket.{key_packet_read}
use Rattle.srt_packet.proofs.KeyPackets.{key_parts_by}
use Rattle.srt_packet.proofs.key_codec.parse_parts.Goals as goal

pub returns : goal.returns
returns c =
    key_parts_by c.args.head.now c.args.body.now (key_packet_read c.packet_of_parts.result) c.told-head (omega arith) c.packet_of_parts.ensures
