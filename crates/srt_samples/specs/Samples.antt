-- The bytes of each sample (sections 3, 3.2 and 3.2.1, appendix A).
use Rattle.std.specs.Prelude.{ℕ, ◌+◌, ◌*◌, ◌%◌, ◌/◌, ◌^◌, List, [], ◌∷◌, ◌++◌, length, slice_index_or, min, zero, suc}
use Rattle.std.specs.List.{flat_map}
use Rattle.std.specs.Int.{w32, to_be_bytes}
use Rattle.srt_samples.specs.declared.samples.Sample.{Sample}
use Rattle.srt_samples.specs.declared.samples.Body.{Body}
use Rattle.srt_samples.specs.declared.samples.Body.TheVariants.{Nothing, Point, Words, Acknowledged as Acknowledges, Losses, Dropped, Handshake as Shakes}
use Rattle.srt_samples.specs.declared.samples.Acknowledged.{Acknowledged}
use Rattle.srt_samples.specs.declared.samples.Loss.{Loss}
use Rattle.srt_samples.specs.declared.samples.Loss.TheVariants.{Single, Range}
use Rattle.srt_samples.specs.declared.handshakes.Caller.{Caller}
use Rattle.srt_samples.specs.declared.handshakes.Phase.{Phase}
use Rattle.srt_samples.specs.declared.handshakes.Phase.TheVariants.{Induction, Conclusion, Refused}
use Rattle.srt_samples.specs.declared.handshakes.Handshake.{Handshake}
use Rattle.srt_samples.specs.declared.handshakes.Offer.{Offer}
use Rattle.srt_samples.specs.declared.handshakes.Block.{Block}
use Rattle.srt_samples.specs.declared.handshakes.Block.TheVariants.{Request, Response, StreamId, Congestion}

-- a word, its most significant byte first
abbrev pub word : ℕ → List ℕ
word n = to_be_bytes w32 n

-- a sequence of words
abbrev pub words : List ℕ → List ℕ
words ns = flat_map word ns

-- the header: two words that depend on the kind, the timestamp and the destination's socket ID
abbrev pub header_bytes : ℕ → ℕ → ℕ → ℕ → List ℕ
header_bytes first second stamp destination = words (first ∷ second ∷ stamp ∷ destination ∷ [])

-- a datagram: a header, a body, and the bytes after it
abbrev pub packet : ℕ → ℕ → ℕ → ℕ → List ℕ → List ℕ → List ℕ
packet first second stamp destination body rest = header_bytes first second stamp destination ++ body ++ rest

-- an entry of a loss list: a range is its first number with the top bit set, and its last number (appendix A)
abbrev pub loss_bytes : Loss → List ℕ
loss_bytes (Single number) = words (number ∷ [])
loss_bytes (Range first last) = words (((first + 2 ^ 31) % 2 ^ 32) ∷ last ∷ [])

-- the words of a Full ACK; the last three are 0 (section 3.2.4)
abbrev pub ack_words : Acknowledged → List ℕ
ack_words reported = reported.point ∷ reported.rtt ∷ reported.variance ∷ reported.available ∷ 0 ∷ 0 ∷ 0 ∷ []

-- the word of a handshake type (section 3.2.1, table 4)
abbrev pub phase_word : Phase → ℕ
phase_word Induction = 1
phase_word Conclusion = 0xffff_ffff
phase_word (Refused code) = code

-- the bytes of a handshake before its extension blocks (section 3.2.1)
abbrev pub handshake_bytes : Handshake → List ℕ
handshake_bytes h = words (h.version ∷ h.fields ∷ h.initial ∷ h.mtu ∷ h.window ∷ phase_word h.phase ∷ h.id ∷ h.cookie ∷ h.address ∷ 0 ∷ 0 ∷ 0 ∷ [])

-- the words of a caller's induction before the extension blocks, from 127.0.0.1 (section 4.3.1.1)
abbrev pub induction_words : Caller → List ℕ
induction_words c = 4 ∷ 2 ∷ c.initial ∷ c.mtu ∷ c.window ∷ 1 ∷ c.id ∷ 0 ∷ 0x0100_007f ∷ 0 ∷ 0 ∷ 0 ∷ []

-- the words of a caller's conclusion before the extension blocks, from 127.0.0.1 (section 4.3.1.2)
abbrev pub conclusion_words : Caller → List ℕ
conclusion_words c = 5 ∷ 5 ∷ c.initial ∷ c.mtu ∷ c.window ∷ 0xffff_ffff ∷ c.id ∷ c.cookie ∷ 0x0100_007f ∷ 0 ∷ 0 ∷ 0 ∷ []

-- the words of a listener's answer to a conclusion, before the extension blocks: its window, and the session's socket ID (section 4.3.1.2)
abbrev pub answer_words : (initial window session : ℕ) → List ℕ
answer_words initial window session = 5 ∷ 1 ∷ initial ∷ 1500 ∷ window ∷ 0xffff_ffff ∷ session ∷ 0 ∷ 0 ∷ 0 ∷ 0 ∷ 0 ∷ []

-- the words of a listener's refusal of a conclusion, with its code (section 4.3)
abbrev pub refusal_words : (initial code : ℕ) → List ℕ
refusal_words initial code = 5 ∷ 0 ∷ initial ∷ 1500 ∷ 8192 ∷ code ∷ 1 ∷ 0 ∷ 0 ∷ 0 ∷ 0 ∷ 0 ∷ []

-- HSREQ or HSRSP, with its type and its length in words (section 3.2.1.1)
abbrev pub offer_words : ℕ → Offer → List ℕ
offer_words kind o = (kind * 0x1_0000 + 3) ∷ o.version ∷ o.flags ∷ (o.receiver_ms * 0x1_0000 + o.sender_ms) ∷ []

-- the byte at an offset, or 0 past the end
abbrev pub byte_at : List ℕ → ℕ → ℕ
byte_at text at = slice_index_or text at 0

-- the four bytes at an offset in reverse order (section 3.2.1.3)
abbrev pub group : List ℕ → ℕ → List ℕ
group text at = byte_at text (at + 3) ∷ byte_at text (at + 2) ∷ byte_at text (at + 1) ∷ byte_at text at ∷ []

-- the first n groups of four bytes
abbrev pub groups : List ℕ → ℕ → List ℕ
groups text zero = []
groups text (suc n) = groups text n ++ group text (4 * n)

-- the number of groups of a text, of which at most 512 bytes are written
abbrev pub group_count : List ℕ → ℕ
group_count text = (min (length text) 512 + 3) / 4

-- a block of this type with a text
abbrev pub text_bytes : ℕ → List ℕ → List ℕ
text_bytes kind text = word (kind * 0x1_0000 + group_count text) ++ groups text (group_count text)

-- an extension block
abbrev pub block_bytes : Block → List ℕ
block_bytes (Request offer) = words (offer_words 1 offer)
block_bytes (Response offer) = words (offer_words 2 offer)
block_bytes (StreamId text) = text_bytes 5 text.now
block_bytes (Congestion text) = text_bytes 6 text.now

-- the bytes after the header, up to surplus ones
abbrev pub body_bytes : Body → List ℕ
body_bytes Nothing = words []
body_bytes (Point point) = words (point ∷ [])
body_bytes (Words list) = words list.now
body_bytes (Acknowledges reported) = words (ack_words reported)
body_bytes (Losses losses) = flat_map loss_bytes losses.now
body_bytes (Dropped first last) = words (first ∷ last ∷ [])
body_bytes (Shakes handshake blocks) = handshake_bytes handshake ++ flat_map block_bytes blocks.now

-- the bytes of the datagram
abbrev pub bytes_of : Sample → List ℕ
bytes_of s = packet s.first s.second s.stamp s.destination (body_bytes s.body) s.rest.now
