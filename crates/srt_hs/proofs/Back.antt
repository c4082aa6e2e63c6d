-- An answer that is written reads back.
use Rattle.std.proofs.Common.{◌≡◌, ℕ, suc, flat_map, ◌^◌, ◌<◌, List, [], ◌∷◌, ◌++◌, None, Some, Ok, refl, sym, ap, ◌∙◌, arith}
use Rattle.std.proofs.lemmas.Nat.{from_be_bytes-to_be_bytes_2, from_be_bytes-to_be_bytes_4}
use Rattle.srt_types.specs.Words.{word, word_at, words_in}
use Rattle.srt_types.specs.declared.shared.Mode.{Mode}
use Rattle.srt_types.specs.declared.shared.Mode.TheVariants.{Live, Buffer}
use Rattle.srt_hs.specs.declared.handshake.HsReq.{HsReq}
use Rattle.srt_hs.specs.declared.handshake.HsKind.TheVariants as kinds
use Rattle.srt_hs.specs.declared.refusal_codes.RefusalCode.{RefusalCode}
use Rattle.srt_hs.specs.declared.refusal_codes.RefusalCode.TheVariants as codes
use Rattle.srt_hs.specs.declared.writing.AnswerKind.{AnswerKind}
use Rattle.srt_hs.specs.declared.writing.AnswerKind.TheVariants.{Induction, Refusal, Conclusion}
use Rattle.srt_hs.specs.Grammar.{Blocks, no_blocks, kind_of}
use Rattle.srt_hs.specs.Reading.{blocks_in, with_first, with_block, extension_in, handshake_in}
use Rattle.srt_hs.specs.Refusals.{number_of}
use Rattle.srt_hs.specs.Text.{flags_of, fields_text, hsrsp_text, congestion_text, kind_text, blocks_text, answer_text}
use Rattle.srt_hs.specs.View.{text_words}
use Rattle.srt_hs.specs.RoundTrip.{AreWords, AreCongestionWords, KindFits, answered_blocks, answered_kind, fields, WhatIsWrittenReadsBack, HsrspReadsBack}
use Rattle.srt_hs.proofs.Steps.{built, read_ok}

back : (n : ℕ) → n < 2 ^ 32 → n ≡ word_at (word n) 0
back n h = sym (from_be_bytes-to_be_bytes_4 n h)

-- the first 48 bytes, whatever follows them
fields_back : (extension initial mtu window type id cookie : ℕ) (rest : List ℕ) (blocks : Blocks) → extension < 2 ^ 16 → initial < 2 ^ 32
    → mtu < 2 ^ 32 → window < 2 ^ 32 → type < 2 ^ 32 → id < 2 ^ 32 → cookie < 2 ^ 32 → Ok blocks ≡ extension_in (kind_of type) rest
    → handshake_in (fields_text extension initial mtu window type id cookie ++ rest)
    ≡ Ok (fields extension initial mtu window (kind_of type) id cookie blocks)
fields_back extension initial mtu window type id cookie rest blocks e i m w t d c h =
    let bytes = fields_text extension initial mtu window type id cookie ++ rest in
    let named : kind_of type ≡ kind_of (word_at bytes 20) = ap kind_of (back type t) in
    sym (read_ok bytes blocks (omega arith) (h ∙ ap (λ k. extension_in k rest) named))
    ∙ sym (ap (λ hs. Ok hs)
    (built bytes 5 0 extension initial mtu window (kind_of type) id cookie blocks refl refl (sym (from_be_bytes-to_be_bytes_2 extension e))
    (back initial i) (back mtu m) (back window w) named (back id d) (back cookie c)))

words_back : (words : List ℕ) → AreWords words → words_in (flat_map word words) ≡ words
words_back [] fit = refl
words_back (a ∷ words) fit =
    ap (λ b. b ∷ words_in (flat_map word words)) (sym (back a (fit 0))) ∙ ap (λ ws. a ∷ ws) (words_back words (λ at. fit (suc at)))

blocks_back : (mode : Mode) (recv_ms send_ms : ℕ) → blocks_in (hsrsp_text mode recv_ms send_ms) ≡ Ok (answered_blocks None)
unfolding blocks_in with_first with_block
blocks_back mode recv_ms send_ms = refl

few_back : (mode : Mode) (recv_ms send_ms : ℕ) (first : ℕ) (others : List ℕ) → AreCongestionWords (first ∷ others)
    → blocks_in (hsrsp_text mode recv_ms send_ms ++ congestion_text (Some (first ∷ others))) ≡ Ok (answered_blocks (Some (first ∷ others)))
unfolding blocks_in with_first with_block
few_back mode recv_ms send_ms a [] h = ap (λ ws. Ok (answered_blocks (Some ws))) (words_back (a ∷ []) h.fit)
few_back mode recv_ms send_ms a (b ∷ []) h = ap (λ ws. Ok (answered_blocks (Some ws))) (words_back (a ∷ b ∷ []) h.fit)
few_back mode recv_ms send_ms a (b ∷ c ∷ []) h = ap (λ ws. Ok (answered_blocks (Some ws))) (words_back (a ∷ b ∷ c ∷ []) h.fit)
few_back mode recv_ms send_ms a (b ∷ c ∷ d ∷ []) h = ap (λ ws. Ok (answered_blocks (Some ws))) (words_back (a ∷ b ∷ c ∷ d ∷ []) h.fit)
few_back mode recv_ms send_ms a (b ∷ c ∷ d ∷ e ∷ more) h = absurd (omega (arith, h.few))

code_fits : (code : RefusalCode) → number_of code < 2 ^ 32
code_fits codes.Peer = omega arith
code_fits codes.Resource = omega arith
code_fits codes.Rogue = omega arith
code_fits codes.Version = omega arith
code_fits codes.BadSecret = omega arith
code_fits codes.Unsecure = omega arith
code_fits codes.MessageApi = omega arith
code_fits codes.Filter = omega arith
code_fits codes.Group = omega arith

code_back : (code : RefusalCode) → kind_of (number_of code) ≡ kinds.Refusal (number_of code)
code_back codes.Peer = refl
code_back codes.Resource = refl
code_back codes.Rogue = refl
code_back codes.Version = refl
code_back codes.BadSecret = refl
code_back codes.Unsecure = refl
code_back codes.MessageApi = refl
code_back codes.Filter = refl
code_back codes.Group = refl

kind_back : (initial : ℕ) (what : AnswerKind)
    → initial < 2 ^ 32 → KindFits what → handshake_in (kind_text initial what ++ blocks_text what) ≡ Ok (answered_kind initial what)
kind_back initial (Induction cookie) i h =
    fields_back 0x4a17 initial 1500 8192 1 1 cookie [] no_blocks (omega arith) i (omega arith) (omega arith) (omega arith) (omega arith) h refl
kind_back initial (Refusal code) i h =
    fields_back 0 initial 1500 8192 (number_of code) 1 0 [] no_blocks (omega arith) i (omega arith) (omega arith) (code_fits code)
    (omega arith) (omega arith) (ap (λ k. extension_in k []) (sym (code_back code)))
    ∙ ap (λ k. Ok (fields 0 initial 1500 8192 k 1 0 no_blocks)) (code_back code)
kind_back initial (Conclusion mtu window id mode recv_ms send_ms None) i h =
    fields_back 1 initial mtu window 0xffff_ffff id 0 (hsrsp_text mode recv_ms send_ms) (answered_blocks None) (omega arith) i h.0 h.1
    (omega arith) h.2 (omega arith) (sym (blocks_back mode recv_ms send_ms))
kind_back initial (Conclusion mtu window id mode recv_ms send_ms (Some text)) i h =
    fields_back 5 initial mtu window 0xffff_ffff id 0 (hsrsp_text mode recv_ms send_ms ++ congestion_text (Some (text_words text)))
    (answered_blocks (Some (text_words text))) (omega arith) i h.0 h.1 (omega arith) h.2 (omega arith)
    (sym (few_back mode recv_ms send_ms text.first text.others.items h.3))

pub reads_back : WhatIsWrittenReadsBack
unfolding answer_text
reads_back a h = kind_back a.initial a.what h.initial h.what

flags_fit : (mode : Mode) → flags_of mode < 2 ^ 32
flags_fit Live = omega arith
flags_fit Buffer = omega arith

abbrev HsReqSame : HsReq → HsReq → Type 0
HsReqSame a b = a ≡ b

same_hsreq : (version flags flags2 recv recv2 send send2 : ℕ) → flags ≡ flags2 → recv ≡ recv2 → send ≡ send2
    → HsReqSame (record { version = version; flags = flags; receiver_ms = recv; sender_ms = send })
    (record { version = version; flags = flags2; receiver_ms = recv2; sender_ms = send2 })
same_hsreq version flags flags2 recv recv2 send send2 a b c = cc

pub hsrsp_back : HsrspReadsBack
hsrsp_back mode recv_ms send_ms rest r s =
    record {
      whole = record { header = omega arith; contents = omega arith };
      type = refl;
      contents = same_hsreq 0x0001_0500 _ (flags_of mode) _ recv_ms _ send_ms (sym (back (flags_of mode) (flags_fit mode)))
          (from_be_bytes-to_be_bytes_2 recv_ms r) (from_be_bytes-to_be_bytes_2 send_ms s);
      after = refl;
    }
