-- The bytes of each answer, after the packet's header (section 3.2.1).
use Rattle.std.specs.Prelude.{◌≡◌, ℕ, ◌+◌, ◌/◌, ◌≤◌, List, [], ◌++◌, length, slice_index, replicate, flat_map, Option, None, Some, option_map}
use Rattle.std.specs.Int.{w16, to_be_bytes}
use Rattle.srt_types.specs.Words.{word}
use Rattle.srt_types.specs.declared.shared.Mode.{Mode}
use Rattle.srt_types.specs.declared.shared.Mode.TheVariants.{Live, Buffer}
use Rattle.srt_hs.specs.declared.writing.AnswerKind.{AnswerKind}
use Rattle.srt_hs.specs.declared.writing.AnswerKind.TheVariants.{Induction, Refusal, Conclusion}
use Rattle.srt_hs.specs.declared.writing.HsAnswer.{HsAnswer}
use Rattle.srt_hs.specs.KeyMessage.{KeyMessage, SpellsKeys}
use Rattle.srt_hs.specs.Refusals.{number_of}
use Rattle.srt_hs.specs.View.{text_words}

-- the two bytes of a 16-bit number, in network byte order
abbrev pub half : ℕ → List ℕ
half n = to_be_bytes w16 n

-- the 48 bytes before the extension blocks, with this encryption field: version 5, and zeros for the peer's address (our
-- choice)
abbrev pub encryption_text : (encryption extension initial mtu window type id cookie : ℕ) → List ℕ
encryption_text encryption extension initial mtu window type id cookie =
    word 5 ++ half encryption ++ half extension ++ word initial ++ word mtu ++ word window ++ word type ++ word id ++ word cookie ++ replicate 16 0

-- the same without encryption
abbrev pub fields_text : (extension initial mtu window type id cookie : ℕ) → List ℕ
fields_text extension initial mtu window type id cookie = encryption_text 0 extension initial mtu window type id cookie

-- the flags of an HSRSP, from the delivery mode (section 3.2.1.1.1)
abbrev pub flags_of : Mode → ℕ
flags_of Live = 0x3f
flags_of Buffer = 0x74

-- an HSRSP block: the version of SRT, the flags and the delays (section 3.2.1.1)
abbrev pub hsrsp_text : (mode : Mode) (recv_ms send_ms : ℕ) → List ℕ
hsrsp_text mode recv_ms send_ms = half 2 ++ half 3 ++ word 0x0001_0500 ++ word (flags_of mode) ++ half recv_ms ++ half send_ms

-- a CONGESTION block of these words; empty if there are none
abbrev pub congestion_text : Option (List ℕ) → List ℕ
congestion_text None = []
congestion_text (Some words) = half 6 ++ half (length words) ++ flat_map word words

-- the extension field: the flag HSREQ, and the flag CONFIG if there is a CONGESTION block
abbrev pub extension_of : Option (List ℕ) → ℕ
extension_of None = 1
extension_of (Some words) = 5

-- the extension blocks of an answer: only an answer to a conclusion has any
abbrev pub blocks_text : AnswerKind → List ℕ
blocks_text (Induction cookie) = []
blocks_text (Refusal code) = []
blocks_text (Conclusion mtu window id mode recv_ms send_ms congestion) = hsrsp_text mode recv_ms send_ms ++ congestion_text (option_map text_words congestion)

-- the 48 bytes before the extension blocks, for an answer of this kind
abbrev pub kind_text : (initial : ℕ) → AnswerKind → List ℕ
kind_text initial (Induction cookie) = fields_text 0x4a17 initial 1500 8192 1 1 cookie
kind_text initial (Refusal code) = fields_text 0 initial 1500 8192 (number_of code) 1 0
kind_text initial (Conclusion mtu window id mode recv_ms send_ms congestion) =
    fields_text (extension_of (option_map text_words congestion)) initial mtu window 0xffff_ffff id 0

-- the encryption field of an answer that repeats these contents of a KMREQ block: KLen / 8, where KLen / 4 is byte 15
-- (section 3.2.2; libsrt takes any value)
abbrev pub encryption_of : (message : List ℕ) → ℕ
encryption_of message = slice_index message 15 / 2

-- a KMRSP block with these contents
abbrev pub kmrsp_text : (message : List ℕ) → List ℕ
kmrsp_text message = half 4 ++ half (length message / 4) ++ message

-- the bytes of an answer
unfoldable pub answer_text : HsAnswer → List ℕ
answer_text a = kind_text a.initial a.what ++ blocks_text a.what

-- the bytes of an answer of this kind to a conclusion with keys: a KMRSP block repeats the contents of its KMREQ block, and
-- the extension field has the flag KMREQ, 2. Other answers have no keys
abbrev pub keyed_text : (message : List ℕ) → (initial : ℕ) → AnswerKind → List ℕ
keyed_text message initial (Induction cookie) = answer_text (record { initial = initial; what = Induction cookie })
keyed_text message initial (Refusal code) = answer_text (record { initial = initial; what = Refusal code })
keyed_text message initial (Conclusion mtu window id mode recv_ms send_ms congestion) =
    let words = option_map text_words congestion in
    encryption_text (encryption_of message) (extension_of words + 2) initial mtu window 0xffff_ffff id 0
    ++ hsrsp_text mode recv_ms send_ms ++ kmrsp_text message ++ congestion_text words

-- the bytes of an answer, with the contents of the KMREQ block if the session has keys
unfoldable pub answer_with : Option (List ℕ) → HsAnswer → List ℕ
answer_with None a = answer_text a
answer_with (Some message) a = keyed_text message a.initial a.what

-- a key material message fits an answer, whose encryption field is its key length in bytes, divided by 8
pub record MessagesAreAnswered : Type 0 where
  pub length : (bytes : List ℕ) (message : KeyMessage) → SpellsKeys bytes message → (56 ≤ length bytes) × (length bytes ≤ 104)
  pub encryption : (bytes : List ℕ) (message : KeyMessage) → SpellsKeys bytes message → encryption_of bytes ≡ message.key_length / 8
