-- The format of handshakes, as a relation by cases, and the faults (section 3.2.1).
use Rattle.std.specs.Prelude.{◌≡◌, ◌≢◌, ℕ, ◌+◌, ◌*◌, ◌/◌, ◌%◌, ◌^◌, ◌<◌, ◌≤◌, ◌⊎◌, Bool, true, false, List, [], ◌∷◌, length, take, drop, slice_index}
use Rattle.std.specs.Prelude.{Option, None, Some, IsSome, if◌then◌else◌, ◌==◌}
use Rattle.std.specs.Int.{w16, from_be_bytes}
use Rattle.srt_types.specs.Words.{word_at, words_in}
use Rattle.srt_hs.specs.declared.handshake.HsKind.{HsKind}
use Rattle.srt_hs.specs.declared.handshake.HsKind.TheVariants.{Induction, WaveHand, Conclusion, Agreement, Done, Refusal}
use Rattle.srt_hs.specs.declared.handshake.HsReq.{HsReq}
use Rattle.srt_hs.specs.declared.handshake.HsFault.{HsFault}
use Rattle.srt_hs.specs.declared.handshake.HsFault.TheVariants.{Short, TruncatedExtension, BadLength, Repeated}

-- the 16-bit number that the two bytes at this offset encode, in network byte order
abbrev pub half_at : List ℕ → ℕ → ℕ
half_at bytes at = from_be_bytes w16 (slice_index bytes at ∷ slice_index bytes (at + 1) ∷ [])

-- the handshake type of a number in the field "handshake type" (section 3.2.1)
abbrev pub kind_of : ℕ → HsKind
kind_of n =
    if n == 0 then WaveHand
    else if n == 1 then Induction
    else if n == 0xffff_ffff then Conclusion
    else if n == 0xffff_fffe then Agreement
    else if n == 0xffff_fffd then Done
    else Refusal n

-- the content of the extension blocks; an HSREQ, a Stream ID and a CONGESTION block are optional
pub record Blocks : Type 0 where
  pub hsreq : Option HsReq
  -- the bytes of its text, without the padding zeros
  pub stream_id : Option (List ℕ)
  -- its words, unchanged
  pub congestion : Option (List ℕ)
  pub has_kmreq : Bool
  pub has_filter : Bool
  pub has_group : Bool

-- no extension blocks
abbrev pub no_blocks : Blocks
no_blocks = record { hsreq = None; stream_id = None; congestion = None; has_kmreq = false; has_filter = false; has_group = false }

-- a handshake; only a conclusion has blocks
pub record Handshake : Type 0 where
  pub version : ℕ
  pub encryption : ℕ
  pub extension : ℕ
  pub initial : ℕ
  pub mtu : ℕ
  pub window : ℕ
  pub kind : HsKind
  pub id : ℕ
  pub cookie : ℕ
  pub blocks : Blocks

-- the version, flags and TSBPD delays of an HSREQ (section 3.2.1.1)
abbrev pub hsreq_in : List ℕ → HsReq
hsreq_in contents = record { version = word_at contents 0; flags = word_at contents 4; receiver_ms = half_at contents 8; sender_ms = half_at contents 10 }

-- whether these SRT flags have PERIODICNAK, bit 4: the sender of the HSREQ sends periodic NAKs (section 3.2.1.1.1)
abbrev pub has_periodic_nak : (flags : ℕ) → Bool
has_periodic_nak flags = flags / 2 ^ 4 % 2 == 1

-- the bytes with each group of four in reverse order, since a Stream ID has little-endian words (section 3.2.1.3)
abbrev pub turned_words : List ℕ → List ℕ
turned_words (a ∷ b ∷ c ∷ d ∷ rest) = d ∷ c ∷ b ∷ a ∷ turned_words rest
turned_words _ = []

-- prepends a byte to a list without trailing zeros; a zero before the empty list is dropped
abbrev pub before_zeros : ℕ → List ℕ → List ℕ
before_zeros byte [] = if byte == 0 then [] else byte ∷ []
before_zeros byte (next ∷ rest) = byte ∷ next ∷ rest

-- the bytes without trailing zeros
abbrev pub without_zeros : List ℕ → List ℕ
without_zeros [] = []
without_zeros (byte ∷ rest) = before_zeros byte (without_zeros rest)

-- the text of a Stream ID, as bytes (section 3.2.1.3)
abbrev pub stream_id_in : List ℕ → List ℕ
stream_id_in contents = without_zeros (turned_words contents)

-- the type of the first block of these bytes (section 3.2.1)
abbrev pub type_of : List ℕ → ℕ
type_of bytes = half_at bytes 0

-- the length of that block's contents, in bytes
abbrev pub length_of : List ℕ → ℕ
length_of bytes = 4 * half_at bytes 2

-- the contents of that block
abbrev pub contents_of : List ℕ → List ℕ
contents_of bytes = take (length_of bytes) (drop 4 bytes)

-- the bytes after that block
abbrev pub after_block : List ℕ → List ℕ
after_block bytes = drop (length_of bytes) (drop 4 bytes)

-- these bytes begin with a complete block
pub record HasBlock (bytes : List ℕ) : Type 0 where
  pub header : 4 ≤ length bytes
  pub contents : 4 + length_of bytes ≤ length bytes

-- a block type that is ignored: HSRSP and KMRSP, which only answers have, and types that the draft doesn't define
pub record IsSkipped (type : ℕ) : Type 0 where
  pub not_hsreq : type ≢ 1
  pub not_kmreq : type ≢ 3
  pub not_stream_id : type ≢ 5
  pub not_congestion : type ≢ 6
  pub not_filter : type ≢ 7
  pub not_group : type ≢ 8

-- a block of this type and contents, added to the blocks before it, results in these blocks
pub data Adds (before : Blocks) (contents : List ℕ) : ℕ → Blocks → Type 0 where
  -- three words, once
  hsreq : length contents ≡ 12 → before.hsreq ≡ None → Adds before contents 1 (record before { hsreq = Some (hsreq_in contents) })
  kmreq : Adds before contents 3 (record before { has_kmreq = true })
  -- at most 128 words, once
  stream_id : length contents ≤ 512 → before.stream_id ≡ None → Adds before contents 5 (record before { stream_id = Some (stream_id_in contents) })
  -- one to four words, once
  congestion : 0 < length contents
      → length contents ≤ 16 → before.congestion ≡ None → Adds before contents 6 (record before { congestion = Some (words_in contents) })
  filter : Adds before contents 7 (record before { has_filter = true })
  group : Adds before contents 8 (record before { has_group = true })
  skipped : (type : ℕ) → IsSkipped type → Adds before contents type before

-- these bytes are a sequence of complete blocks, which added to the blocks before them result in these blocks
pub data SpellsBlocks : List ℕ → Blocks → Blocks → Type 0 where
  nothing : (before : Blocks) → SpellsBlocks [] before before
  block : (bytes : List ℕ) (before next after : Blocks) → HasBlock bytes → Adds before (contents_of bytes) (type_of bytes) next
      → SpellsBlocks (after_block bytes) next after
      → SpellsBlocks bytes before after

-- the bytes after the first 48 encode these extension blocks: only those of a conclusion are read
abbrev pub SpellsExtension : HsKind → List ℕ → Blocks → Type 0
SpellsExtension Conclusion bytes blocks = SpellsBlocks bytes no_blocks blocks
SpellsExtension _ bytes blocks = blocks ≡ no_blocks

-- these bytes encode this handshake; the 16 bytes of the peer's address have any value
pub record Spells (bytes : List ℕ) (hs : Handshake) : Type 0 where
  pub whole : 48 ≤ length bytes
  pub version : hs.version ≡ word_at bytes 0
  pub encryption : hs.encryption ≡ half_at bytes 4
  pub extension : hs.extension ≡ half_at bytes 6
  pub initial : hs.initial ≡ word_at bytes 8
  pub mtu : hs.mtu ≡ word_at bytes 12
  pub window : hs.window ≡ word_at bytes 16
  pub kind : hs.kind ≡ kind_of (word_at bytes 20)
  pub id : hs.id ≡ word_at bytes 24
  pub cookie : hs.cookie ≡ word_at bytes 28
  pub blocks : SpellsExtension (kind_of (word_at bytes 20)) (drop 48 bytes) hs.blocks

-- the contents have a length that is invalid for a block of this type (our choice)
pub data HasBadLength (contents : List ℕ) : ℕ → Type 0 where
  hsreq_length : length contents ≢ 12 → HasBadLength contents 1
  stream_id_length : 512 < length contents → HasBadLength contents 5
  congestion_length : (length contents ≡ 0) ⊎ (16 < length contents) → HasBadLength contents 6

-- this type may occur only once, and occurred before (our choice)
pub data IsRepeated (before : Blocks) : ℕ → Type 0 where
  second_hsreq : IsSome before.hsreq → IsRepeated before 1
  second_stream_id : IsSome before.stream_id → IsRepeated before 5
  second_congestion : IsSome before.congestion → IsRepeated before 6

-- the first block of these bytes has this fault
abbrev pub HasBlockFault : List ℕ → Blocks → HsFault → Type 0
HasBlockFault bytes before Short = ⊥
HasBlockFault bytes before TruncatedExtension = (0 < length bytes) × ((length bytes < 4) ⊎ (length bytes < 4 + length_of bytes))
HasBlockFault bytes before BadLength = HasBlock bytes × HasBadLength (contents_of bytes) (type_of bytes)
HasBlockFault bytes before Repeated = HasBlock bytes × (HasBadLength (contents_of bytes) (type_of bytes) → ⊥) × IsRepeated before (type_of bytes)

-- the first block with a fault has this one
pub data HasBlocksFault : List ℕ → Blocks → HsFault → Type 0 where
  here : (bytes : List ℕ) (before : Blocks) (fault : HsFault) → HasBlockFault bytes before fault → HasBlocksFault bytes before fault
  later : (bytes : List ℕ) (before next : Blocks) (fault : HsFault) → HasBlock bytes → Adds before (contents_of bytes) (type_of bytes) next
      → HasBlocksFault (after_block bytes) next fault
      → HasBlocksFault bytes before fault

-- the first fault of these bytes, from the left; only a conclusion can have one other than Short
abbrev pub HasFault : List ℕ → HsFault → Type 0
HasFault bytes Short = length bytes < 48
HasFault bytes fault = (48 ≤ length bytes) × (kind_of (word_at bytes 20) ≡ Conclusion) × HasBlocksFault (drop 48 bytes) no_blocks fault
