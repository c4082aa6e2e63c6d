-- The bytes that are written for each packet (section 3; our choice where section 3 allows several).
use Rattle.std.specs.Prelude.{ℕ, ◌+◌, ◌<◌, ◌≤◌, List, [], ◌∷◌, ◌++◌, length, if◌then◌else◌}
use Rattle.srt_types.specs.Words.{word, words}
use Rattle.srt_types.specs.Window.{word_of}
use Rattle.srt_types.specs.Counts.{message_of}
use Rattle.srt_packet.specs.declared.writing.Body.{Body}
use Rattle.srt_packet.specs.declared.writing.Body.TheVariants.{Media, Handshake, KeepAlive, FullAck, LightAck, Nak, AckAck, DropRequest, Shutdown}
use Rattle.srt_packet.specs.declared.writing.Packet.{Packet}

-- word 0: in a data packet the sequence number; in a control packet the top bit, the type and the subtype 0 (section
-- 3.2, table 1)
abbrev pub word0_of : Body → ℕ
word0_of (Media number message again payload) = word_of number
word0_of (Handshake info) = 0x8000_0000
word0_of KeepAlive = 0x8001_0000
word0_of (FullAck number point round_trip variance available rates) = 0x8002_0000
word0_of (LightAck point) = 0x8002_0000
word0_of (Nak losses) = 0x8003_0000
word0_of Shutdown = 0x8005_0000
word0_of (AckAck number) = 0x8006_0000
word0_of (DropRequest message first last) = 0x8007_0000

-- word 1: in a data packet the flags of a single, ordered, unencrypted packet, the retransmission flag, and the message
-- number (section 3.1); in a control packet the number of its kind, else 0
abbrev pub word1_of : Body → ℕ
word1_of (Media number message again payload) = (if again then 0xe400_0000 else 0xe000_0000) + message_of message
word1_of (Handshake info) = 0
word1_of KeepAlive = 0
word1_of (FullAck number point round_trip variance available rates) = number
word1_of (LightAck point) = 0
word1_of (Nak losses) = 0
word1_of Shutdown = 0
word1_of (AckAck number) = number
word1_of (DropRequest message first last) = message_of message

-- the bytes after the header; a Full ACK ends with the packets receiving rate, the estimated link capacity and the
-- receiving rate (section 3.2.4)
abbrev pub rest_of : Body → List ℕ
rest_of (Media number message again payload) = payload.bytes.now
rest_of (Handshake info) = info.items
rest_of KeepAlive = []
rest_of (FullAck number point round_trip variance available rates) =
    words (word_of point ∷ round_trip ∷ variance ∷ available ∷ rates.packets ∷ rates.capacity ∷ rates.bytes ∷ [])
rest_of (LightAck point) = word (word_of point)
rest_of (Nak losses) = words losses.items
rest_of Shutdown = []
rest_of (AckAck number) = []
rest_of (DropRequest message first last) = words (word_of first ∷ word_of last ∷ [])

-- the bytes of a packet: four header words, then the rest
abbrev pub text : Packet → List ℕ
text p = word (word0_of p.body) ++ word (word1_of p.body) ++ word p.stamp ++ word p.dest ++ rest_of p.body

-- the precondition of encoding: a payload has 1 to 1456 bytes, and a NAK at least one word; types ensure all else
abbrev pub IsWritable : Body → Type 0
IsWritable (Media number message again payload) = (0 < length payload.bytes.now) × (length payload.bytes.now ≤ 1456)
IsWritable (Nak losses) = 0 < length losses.items
IsWritable _ = Unit {0}
