-- Of a refused conclusion: the code of the answer, and the requested name.
use Rattle.std.specs.Prelude.{ℕ, ◌^◌, List, [], Option, None, Some, Result, Ok, Err, length, take, nat_le, nat_lt, ◌&&◌, if◌then◌else◌}
use Rattle.srt_types.specs.Words.{word_at}
use Rattle.srt_packet.specs.declared.reading.PacketFault.{PacketFault}
use Rattle.srt_packet.specs.Grammar as packets
use Rattle.srt_packet.specs.Grammar.{Packet, Body}
use Rattle.srt_packet.specs.Reading.{packet_in}
use Rattle.srt_hs.specs.declared.handshake.HsFault.{HsFault}
use Rattle.srt_hs.specs.Grammar.{Handshake}
use Rattle.srt_hs.specs.Reading.{handshake_in}
use Rattle.srt_streamid.specs.declared.reading.Ask.{Ask}
use Rattle.srt_streamid.specs.declared.reading.AskFault.{AskFault}
use Rattle.srt_streamid.specs.Reading.{ask_in, name_of}

-- a handshake type from 1000 on that isn't negative as a number with a sign (section 3.2.1): then it is the code of a refusal (section 4.3, table 7)
abbrev pub code_of : (type : ℕ) → Option ℕ
code_of type = if nat_le 1000 type && nat_lt type (2 ^ 31) then Some type else None

-- the code of the refusal that a handshake packet is, if it is one: its type is the sixth word after the header
abbrev pub refusal_in : (packet : List ℕ) → Option ℕ
refusal_in packet = if nat_le 40 (length packet) then code_of (word_at packet 36) else None

-- a text, cut to 64 bytes
abbrev pub cut : (text : List ℕ) → List ℕ
cut text = if nat_le (length text) 64 then text else take 64 text

-- the name that a Stream ID asks for, cut to 64 bytes
abbrev pub name_by_ask : (bytes : List ℕ) → Result Ask AskFault → List ℕ
name_by_ask bytes (Ok ask) = cut (name_of bytes ask)
name_by_ask bytes (Err fault) = []

abbrev pub name_by_stream_id : Option (List ℕ) → List ℕ
name_by_stream_id (Some bytes) = name_by_ask bytes (ask_in bytes)
name_by_stream_id None = []

abbrev pub name_by_handshake : Result Handshake HsFault → List ℕ
name_by_handshake (Ok hs) = name_by_stream_id hs.blocks.stream_id
name_by_handshake (Err fault) = []

abbrev pub name_by_body : Body → List ℕ
name_by_body (packets.Handshake info) = name_by_handshake (handshake_in info)
name_by_body _ = []

abbrev pub name_by_packet : Result Packet PacketFault → List ℕ
name_by_packet (Ok packet) = name_by_body packet.body
name_by_packet (Err fault) = []

-- the name that the Stream ID of a conclusion asks for, cut to 64 bytes; none where there is no such name
abbrev pub requested_name : (datagram : List ℕ) → List ℕ
requested_name datagram = name_by_packet (packet_in datagram)
