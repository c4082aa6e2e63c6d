-- Decoding: the packet that bytes encode, or the first fault that applies (section 3).
use Rattle.std.specs.Prelude.{◌≡◌, ℕ, ◌/◌, ◌%◌, ◌^◌, ◌<◌, ◌≤◌, ◌⊎◌, List, length, drop, nat_lt, nat_le, ◌==◌, if◌then◌else◌, Result, Ok, Err, IfOk, IfErr}
use Rattle.srt_types.specs.Words.{word_at}
use Rattle.srt_packet.specs.declared.reading.PacketFault.{PacketFault}
use Rattle.srt_packet.specs.declared.reading.PacketFault.TheVariants.{Short, Long, NoPayload, UnknownType, ShortControl}
use Rattle.srt_packet.specs.Grammar.{Body, Data, Handshake, KeepAlive, Ack, Nak, CongestionWarning, Shutdown, AckAck, DropRequest}
use Rattle.srt_packet.specs.Grammar.{PeerError, UserDefined, Packet, Spells}

-- the body, if at least this many bytes follow the header; else the fault ShortControl
abbrev pub of_at_least : ℕ → List ℕ → Body → Result Body PacketFault
of_at_least least rest body = if nat_le least (length rest) then Ok body else Err ShortControl

-- a control packet's body, from the top bit and type, word 1, and the bytes after the header (section 3.2, table 1)
abbrev pub control_in : (kind word1 : ℕ) → List ℕ → Result Body PacketFault
control_in kind word1 rest =
    if kind == 0x8000 then Ok (Handshake rest)
    else if kind == 0x8001 then Ok KeepAlive
    else if kind == 0x8002 then of_at_least 4 rest (Ack word1 rest)
    else if kind == 0x8003 then of_at_least 4 rest (Nak rest)
    else if kind == 0x8004 then Ok CongestionWarning
    else if kind == 0x8005 then Ok Shutdown
    else if kind == 0x8006 then Ok (AckAck word1)
    else if kind == 0x8007 then of_at_least 8 rest (DropRequest word1 (word_at rest 0) (word_at rest 4))
    else if kind == 0x8008 then Ok PeerError
    else if kind == 0xffff then Ok UserDefined
    else Err UnknownType

-- a data packet's body, from its sequence number, word 1 and payload (section 3.1)
abbrev pub data_in : (number word1 : ℕ) → List ℕ → Result Body PacketFault
data_in number word1 rest = if nat_lt 0 (length rest) then Ok (Data number (word1 / 2 ^ 27 % 4) rest) else Err NoPayload

-- a packet's body, from words 0 and 1 and the bytes after the header; the top bit of word 0 is 0 in data packets
abbrev pub body_in : (word0 word1 : ℕ) → List ℕ → Result Body PacketFault
body_in word0 word1 rest = if nat_lt word0 (2 ^ 31) then data_in word0 word1 rest else control_in (word0 / 2 ^ 16) word1 rest

-- a packet, from its timestamp, destination and body; a fault of the body is the packet's
abbrev pub packet_with : (stamp dest : ℕ) → Result Body PacketFault → Result Packet PacketFault
packet_with stamp dest (Ok body) = Ok (record { stamp = stamp; dest = dest; body = body })
packet_with stamp dest (Err fault) = Err fault

-- a packet, from a header (the first 16 bytes of head) and the bytes after it
abbrev pub packet_after : (head rest : List ℕ) → Result Packet PacketFault
packet_after head rest = packet_with (word_at head 8) (word_at head 12) (body_in (word_at head 0) (word_at head 4) rest)

-- the packet that these bytes encode, or the first fault that applies
abbrev pub packet_in : List ℕ → Result Packet PacketFault
packet_in bytes =
    if nat_lt (length bytes) 16 then Err Short
    else if nat_lt 1472 (length bytes) then Err Long
    else packet_after bytes (drop 16 bytes)

-- the order of the faults: the one of least rank is returned
abbrev pub rank : PacketFault → ℕ
rank Short = 1
rank Long = 2
rank NoPayload = 3
rank UnknownType = 4
rank ShortControl = 5

-- the types of control packets, with the top bit of word 0 (section 3.2, table 1)
abbrev pub IsKind : ℕ → Type 0
IsKind kind = ((0x8000 ≤ kind) × (kind ≤ 0x8008)) ⊎ (kind ≡ 0xffff)

-- fewer bytes follow the header than this type requires
abbrev pub IsShortControl : (kind : ℕ) → List ℕ → Type 0
IsShortControl kind rest = (((kind ≡ 0x8002) ⊎ (kind ≡ 0x8003)) × (length rest < 4)) ⊎ ((kind ≡ 0x8007) × (length rest < 8))

-- this fault applies to these bytes; several can apply
abbrev pub HasFault : List ℕ → PacketFault → Type 0
HasFault bytes Short = length bytes < 16
HasFault bytes Long = 1472 < length bytes
HasFault bytes NoPayload = (length bytes ≡ 16) × (word_at bytes 0 < 2 ^ 31)
HasFault bytes UnknownType = (16 ≤ length bytes) × (2 ^ 31 ≤ word_at bytes 0) × ¬ IsKind (word_at bytes 0 / 2 ^ 16)
HasFault bytes ShortControl = (16 ≤ length bytes) × IsShortControl (word_at bytes 0 / 2 ^ 16) (drop 16 bytes)

-- this is the first fault that applies to these bytes
pub record IsFirstFault (bytes : List ℕ) (fault : PacketFault) : Type 0 where
  pub applies : HasFault bytes fault
  pub first : (other : PacketFault) → HasFault bytes other → rank fault ≤ rank other

-- packet_in returns the packet that the bytes encode and no other; if they encode none, it returns the first fault
pub record ReadsTheSpelled (bytes : List ℕ) : Type 0 where
  pub found : IfOk (packet_in bytes) (λ packet. Spells bytes packet)
  pub only : (packet : Packet) → Spells bytes packet → packet_in bytes ≡ Ok packet
  pub fault : IfErr (packet_in bytes) (λ fault. IsFirstFault bytes fault)
  pub no_fault : (packet : Packet) (fault : PacketFault) → Spells bytes packet → ¬ HasFault bytes fault
