-- The possible contents of an `EncodedPacket`.
use Rattle.std.specs.Prelude.{◌≡◌, ℕ, ◌==◌, ◌||◌, List, length, Bool, true, is_ok}
use Rattle.srt_packet.specs.Reading.{packet_in}

-- whether there are no bytes, or the bytes read as a packet
unfoldable pub is_packet_or_nothing : List ℕ → Bool
is_packet_or_nothing bytes = length bytes == 0 || is_ok (packet_in bytes)

abbrev pub IsPacketOrNothing : List ℕ → Type 0
IsPacketOrNothing bytes = is_packet_or_nothing bytes ≡ true
