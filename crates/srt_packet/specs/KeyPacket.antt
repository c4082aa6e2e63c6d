-- Control packets that bring key material messages: user-defined ones (type 0x7fff) with the subtypes 3 and 4, which are those
-- of the blocks of a handshake (section 3.2.2).
use Rattle.std.specs.Prelude.{◌≡◌, ◌↔◌, ℕ, ◌^◌, ◌<◌, ◌≤◌, ◌==◌, List, ◌++◌, length, drop, nat_lt, Option, Some, None, Ok, if◌then◌else◌}
use Rattle.srt_types.specs.Words.{word, word_at}
use Rattle.srt_packet.specs.declared.key_packet.KeyPacketKind.{KeyPacketKind}
use Rattle.srt_packet.specs.declared.key_packet.KeyPacketKind.TheVariants.{Request, Response}
use Rattle.srt_packet.specs.declared.key_packet.KeyPacketRef.{KeyPacketRef}
use Rattle.srt_packet.specs.Grammar.{UserDefined}
use Rattle.srt_packet.specs.Reading.{packet_in}

-- a packet's content
pub record KeyPacket : Type 0 where
  pub stamp : ℕ
  pub dest : ℕ
  pub kind : KeyPacketKind
  -- all bytes after the header
  pub info : List ℕ

-- word 0: the top bit, the type and the subtype
abbrev pub key_word0 : KeyPacketKind → ℕ
key_word0 Request = 0xffff_0003
key_word0 Response = 0xffff_0004

-- these bytes encode this packet; word 1 has any value (our choice)
pub record SpellsKeyPacket (bytes : List ℕ) (packet : KeyPacket) : Type 0 where
  pub header : 16 ≤ length bytes
  pub limit : length bytes ≤ 1472
  pub kind : word_at bytes 0 ≡ key_word0 packet.kind
  pub stamp : packet.stamp ≡ word_at bytes 8
  pub dest : packet.dest ≡ word_at bytes 12
  pub info : packet.info ≡ drop 16 bytes

-- the kind of a packet with this word 0
abbrev pub key_kind_of : (word0 : ℕ) → Option KeyPacketKind
key_kind_of word0 = if word0 == 0xffff_0003 then Some Request else if word0 == 0xffff_0004 then Some Response else None

-- a packet of this kind, with the fields of a header (the first 16 bytes of head) and the bytes after it
abbrev pub key_packet_with : (head rest : List ℕ) → Option KeyPacketKind → Option KeyPacket
key_packet_with head rest None = None
key_packet_with head rest (Some kind) = Some (record { stamp = word_at head 8; dest = word_at head 12; kind = kind; info = rest })

abbrev pub key_packet_after : (head rest : List ℕ) → Option KeyPacket
key_packet_after head rest = key_packet_with head rest (key_kind_of (word_at head 0))

-- the packet that the bytes encode, if they encode one that brings a message
abbrev pub key_packet_in : List ℕ → Option KeyPacket
key_packet_in bytes =
    if nat_lt (length bytes) 16 then None
    else if nat_lt 1472 (length bytes) then None else key_packet_after bytes (drop 16 bytes)

-- the bytes of a packet
abbrev pub key_packet_text : KeyPacket → List ℕ
key_packet_text p = word (key_word0 p.kind) ++ word 0 ++ word p.stamp ++ word p.dest ++ p.info

-- the packet that a value of the code represents, without its borrow
abbrev pub key_packet_of : KeyPacketRef → KeyPacket
key_packet_of p = record { stamp = p.stamp; dest = p.dest; kind = p.kind; info = p.info.now }

-- a result of the code as a result of the grammar
abbrev pub key_packet_read : Option KeyPacketRef → Option KeyPacket
key_packet_read None = None
key_packet_read (Some p) = Some (key_packet_of p)

-- words have 32 bits, and the packet fits a datagram
pub record CanBeSentWithKeys (p : KeyPacket) : Type 0 where
  pub stamp : p.stamp < 2 ^ 32
  pub dest : p.dest < 2 ^ 32
  pub info : length p.info ≤ 1456

-- a packet is read exactly if the bytes encode it
abbrev pub KeyPacketReadingIsSpelling : Type 0
KeyPacketReadingIsSpelling = (bytes : List ℕ) (p : KeyPacket) → (key_packet_in bytes ≡ Some p) ↔ SpellsKeyPacket bytes p

-- reading the bytes that are written for a packet returns it
abbrev pub KeyPacketsReadBack : Type 0
KeyPacketsReadBack = (p : KeyPacket) → CanBeSentWithKeys p → key_packet_in (key_packet_text p) ≡ Some p

-- what brings keys is a user-defined packet for all else
abbrev pub KeyPacketsAreUserDefined : Type 0
KeyPacketsAreUserDefined =
    (bytes : List ℕ) (p : KeyPacket) → SpellsKeyPacket bytes p →
    packet_in bytes ≡ Ok (record { stamp = p.stamp; dest = p.dest; body = UserDefined })
