-- The format of packets (section 3): a relation between bytes and packets, with one case for each kind.
use Rattle.std.specs.Prelude.{◌≡◌, ℕ, ◌/◌, ◌%◌, ◌^◌, ◌<◌, ◌≤◌, List, length, drop}
use Rattle.srt_types.specs.Words.{word_at}

-- the content of a packet apart from its timestamp and its destination
pub data Body : Type 0 where
  Data : (number encryption : ℕ) (payload : List ℕ) → Body
  Handshake : (info : List ℕ) → Body
  KeepAlive : Body
  Ack : (number : ℕ) (info : List ℕ) → Body
  Nak : (info : List ℕ) → Body
  CongestionWarning : Body
  Shutdown : Body
  AckAck : (number : ℕ) → Body
  DropRequest : (message first last : ℕ) → Body
  PeerError : Body
  UserDefined : Body

-- a packet: its timestamp, its destination socket ID and its body
pub record Packet : Type 0 where
  pub stamp : ℕ
  pub dest : ℕ
  pub body : Body

-- words 0 and 1 of the header and the bytes after the header encode this body
abbrev pub SpellsBody : (word0 word1 : ℕ) → List ℕ → Body → Type 0
-- top bit 0, then the sequence number. Bits 27 and 28 of word 1 are the field KK; its other bits have any value
-- (section 3.1)
SpellsBody word0 word1 rest (Data number encryption payload) =
    (word0 < 2 ^ 31) × (number ≡ word0) × (encryption ≡ word1 / 2 ^ 27 % 4) × (0 < length rest) × (payload ≡ rest)
-- top bit 1, 15 bits of type, and 16 bits of subtype with any value (section 3.2, table 1)
SpellsBody word0 word1 rest (Handshake info) = (word0 / 2 ^ 16 ≡ 0x8000) × (info ≡ rest)
-- bytes after the header of a keep-alive, a shutdown or an ACKACK have any value, and so have those after the first two
-- words of a drop request (our choice)
SpellsBody word0 word1 rest KeepAlive = word0 / 2 ^ 16 ≡ 0x8001
SpellsBody word0 word1 rest (Ack number info) = (word0 / 2 ^ 16 ≡ 0x8002) × (number ≡ word1) × (4 ≤ length rest) × (info ≡ rest)
SpellsBody word0 word1 rest (Nak info) = (word0 / 2 ^ 16 ≡ 0x8003) × (4 ≤ length rest) × (info ≡ rest)
SpellsBody word0 word1 rest CongestionWarning = word0 / 2 ^ 16 ≡ 0x8004
SpellsBody word0 word1 rest Shutdown = word0 / 2 ^ 16 ≡ 0x8005
SpellsBody word0 word1 rest (AckAck number) = (word0 / 2 ^ 16 ≡ 0x8006) × (number ≡ word1)
SpellsBody word0 word1 rest (DropRequest message first last) =
    (word0 / 2 ^ 16 ≡ 0x8007) × (message ≡ word1) × (8 ≤ length rest) × (first ≡ word_at rest 0) × (last ≡ word_at rest 4)
SpellsBody word0 word1 rest PeerError = word0 / 2 ^ 16 ≡ 0x8008
SpellsBody word0 word1 rest UserDefined = word0 / 2 ^ 16 ≡ 0xffff

-- these bytes encode this packet
pub record Spells (bytes : List ℕ) (packet : Packet) : Type 0 where
  pub header : 16 ≤ length bytes
  pub limit : length bytes ≤ 1472
  pub stamp : packet.stamp ≡ word_at bytes 8
  pub dest : packet.dest ≡ word_at bytes 12
  pub body : SpellsBody (word_at bytes 0) (word_at bytes 4) (drop 16 bytes) packet.body
