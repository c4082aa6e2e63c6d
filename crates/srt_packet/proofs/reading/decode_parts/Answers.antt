use Rattle.std.proofs.Common.{◌≡◌, ◌++◌, arith}
use Rattle.srt_packet.specs.Reading.{packet_in}
use Rattle.srt_packet.specs.View.{packet_read}
use Rattle.srt_packet.proofs.Parts.{parts_by, found_by, only_by, fault_by}
use Rattle.srt_packet.proofs.reading.decode_parts.Goals as goal

pub returns : goal.returns
returns c =
    let v : packet_read c.packet_of_parts.result ≡ packet_in (c.args.head.now ++ c.args.body.now) =
    parts_by c.args.head.now c.args.body.now (packet_read c.packet_of_parts.result) c.told-head (omega arith) c.packet_of_parts.ensures in
    record { value = v; found = found_by _ _ v; only = only_by _ _ v; fault = fault_by _ _ v }
