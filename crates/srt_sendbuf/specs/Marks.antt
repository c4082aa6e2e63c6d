-- Whether a packet is marked as lost, so that it is sent again.
use Rattle.std.specs.Prelude.{Bool, false, Option, None, Some}
use Rattle.srt_sendbuf.specs.declared.ring.PacketRecord.{PacketRecord}

abbrev pub is_lost : Option PacketRecord → Bool
is_lost None = false
is_lost (Some p) = p.lost
