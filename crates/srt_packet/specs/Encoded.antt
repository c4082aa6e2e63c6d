-- The bytes of an `EncodedPacket`.
use Rattle.std.specs.Prelude.{◌≡◌, ℕ, List, take}
use Rattle.srt_packet.specs.declared.writing.Packet.{Packet}
use Rattle.srt_packet.specs.declared.encoded.EncodedPacket.{EncodedPacket}
use Rattle.srt_packet.specs.Text.{text}
use Rattle.srt_packet.specs.Sent.{CanBeSent}

-- the content: the first `len` bytes of the array
abbrev pub bytes_of : EncodedPacket → List ℕ
bytes_of p = take p.len p.array.bytes

-- these bytes are the encoding of a packet that can be sent
abbrev pub IsPacketText : List ℕ → Type 0
IsPacketText bytes = (p : Packet) × CanBeSent p × (bytes ≡ text p)
