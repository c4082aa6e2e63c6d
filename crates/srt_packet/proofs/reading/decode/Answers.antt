use Rattle.std.proofs.Common.{◌≡◌, arith}
use Rattle.srt_packet.specs.Reading.{packet_in}
use Rattle.srt_packet.specs.View.{packet_read}
use Rattle.srt_packet.proofs.Parts.{whole_by, found_by, only_by, fault_by}
use Rattle.srt_packet.proofs.reading.decode.Goals as goal

pub returns : goal.returns
returns c =
    let v : packet_read c.packet_of_parts.result ≡ packet_in c.args.bytes.now =
    whole_by c.args.bytes.now (packet_read c.packet_of_parts.result) (omega arith) (omega arith) c.packet_of_parts.ensures in
    record { value = v; found = found_by _ _ v; only = only_by _ _ v; fault = fault_by _ _ v }
