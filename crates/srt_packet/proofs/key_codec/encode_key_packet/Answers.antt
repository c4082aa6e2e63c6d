use Rattle.std.proofs.Common.{◌≡◌, ◌∙◌, List, ℕ, ◌++◌, take, ap, arith}
use Rattle.srt_packet.specs.KeyPacket.{CanBeSentWithKeys, key_packet_in, key_packet_of, key_packet_text}
use Rattle.srt_packet.proofs.KeyPackets.{reads_back}
use Rattle.srt_packet.proofs.key_codec.encode_key_packet.Goals as goal

pub returns-clause-read : goal.returns-clause-read
returns-clause-read c =
    let p = key_packet_of c.args.packet.now in
    let fits : CanBeSentWithKeys p = record { stamp = omega arith; dest = omega arith; info = c.requires } in
    let is_text : take c.write_at.result c.write_at.new.out ≡ key_packet_text p =
    c.write_at.ensures.written ∙ ap (λ (v : List ℕ). v ++ p.info) c.write_header-end.ensures.written in
    ap key_packet_in is_text ∙ reads_back p fits
