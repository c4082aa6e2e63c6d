-- An answer that is written reads back.
use Rattle.std.specs.Prelude.{◌≡◌, ℕ, ◌^◌, ◌<◌, ◌≤◌, List, ◌++◌, length, slice_index, Option, option_map, IfSome, Ok}
use Rattle.srt_types.specs.declared.shared.Mode.{Mode}
use Rattle.srt_hs.specs.declared.handshake.HsKind.{HsKind}
use Rattle.srt_hs.specs.declared.handshake.HsKind.TheVariants as kinds
use Rattle.srt_hs.specs.declared.writing.AnswerKind.{AnswerKind}
use Rattle.srt_hs.specs.declared.writing.AnswerKind.TheVariants.{Induction, Refusal, Conclusion}
use Rattle.srt_hs.specs.declared.writing.HsAnswer.{HsAnswer}
use Rattle.srt_hs.specs.Grammar.{Handshake, Blocks, HasBlock, no_blocks, hsreq_in, type_of, contents_of, after_block}
use Rattle.srt_hs.specs.Reading.{handshake_in}
use Rattle.srt_hs.specs.View.{text_words}
use Rattle.srt_hs.specs.Refusals.{number_of}
use Rattle.srt_hs.specs.Text.{extension_of, flags_of, hsrsp_text, answer_text}

-- each number fits a word of 32 bits
abbrev pub AreWords : List ℕ → Type 0
AreWords words = (at : ℕ) → slice_index words at < 2 ^ 32

-- words that a CONGESTION block can have: at most four
pub record AreCongestionWords (words : List ℕ) : Type 0 where
  pub few : length words ≤ 4
  pub fit : AreWords words

-- each value of an answer's kind fits its field
abbrev pub KindFits : AnswerKind → Type 0
KindFits (Induction cookie) = cookie < 2 ^ 32
KindFits (Refusal code) = Unit {0}
KindFits (Conclusion mtu window id mode recv_ms send_ms congestion) =
    (mtu < 2 ^ 32) × (window < 2 ^ 32) × (id < 2 ^ 32) × IfSome congestion (λ text. AreCongestionWords (text_words text))

-- each value of an answer fits its field
pub record CanBeWritten (a : HsAnswer) : Type 0 where
  pub initial : a.initial < 2 ^ 32
  pub what : KindFits a.what

-- the handshake that an answer reads as, from the fields that differ between answers
abbrev pub fields : (extension initial mtu window : ℕ) (kind : HsKind) (id cookie : ℕ) → Blocks → Handshake
fields extension initial mtu window kind id cookie blocks =
    record {
      version = 5;
      encryption = 0;
      extension = extension;
      initial = initial;
      mtu = mtu;
      window = window;
      kind = kind;
      id = id;
      cookie = cookie;
      blocks = blocks;
    }

-- the blocks of a conclusion's answer, as its reader sees them: the HSRSP is skipped
abbrev pub answered_blocks : Option (List ℕ) → Blocks
answered_blocks congestion = record no_blocks { congestion = congestion }

-- the handshake that an answer of this kind reads as
abbrev pub answered_kind : (initial : ℕ) → AnswerKind → Handshake
answered_kind initial (Induction cookie) = fields 0x4a17 initial 1500 8192 kinds.Induction 1 cookie no_blocks
answered_kind initial (Refusal code) = fields 0 initial 1500 8192 (kinds.Refusal (number_of code)) 1 0 no_blocks
answered_kind initial (Conclusion mtu window id mode recv_ms send_ms congestion) =
    let words = option_map text_words congestion in
    fields (extension_of words) initial mtu window kinds.Conclusion id 0 (answered_blocks words)

-- the handshake that an answer reads as
abbrev pub answered : HsAnswer → Handshake
answered a = answered_kind a.initial a.what

-- reading the bytes of an answer returns the handshake that it means
abbrev pub WhatIsWrittenReadsBack : Type 0
WhatIsWrittenReadsBack = (a : HsAnswer) → CanBeWritten a → handshake_in (answer_text a) ≡ Ok (answered a)

-- the bytes begin with an HSRSP block that has these values if read as an HSREQ block, and rest follows
pub record IsHsrsp (mode : Mode) (recv_ms send_ms : ℕ) (rest bytes : List ℕ) : Type 0 where
  pub whole : HasBlock bytes
  pub type : type_of bytes ≡ 2
  pub contents : hsreq_in (contents_of bytes) ≡ record { version = 0x0001_0500; flags = flags_of mode; receiver_ms = recv_ms; sender_ms = send_ms }
  pub after : after_block bytes ≡ rest

-- the bytes of an HSRSP block read back as their values
abbrev pub HsrspReadsBack : Type 0
HsrspReadsBack =
    (mode : Mode) (recv_ms send_ms : ℕ) (rest : List ℕ)
    → recv_ms < 2 ^ 16 → send_ms < 2 ^ 16 → IsHsrsp mode recv_ms send_ms rest (hsrsp_text mode recv_ms send_ms ++ rest)
