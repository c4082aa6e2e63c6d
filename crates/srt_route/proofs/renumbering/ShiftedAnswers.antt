-- Answers to handshakes with another initial sequence number.
use Rattle.std.proofs.Common.{◌≡◌, ℕ, ◌/◌, ◌%◌, ◌^◌, ◌<◌, ◌≤◌, Bool, true, false, cond, Option, None, Some, IfSome, List, [], ◌∷◌, ◌++◌}
use Rattle.std.proofs.Common.{length, take, drop, flat_map, Result, Ok, Err, is_ok, nat_lt, ◌==◌, ◌&&◌, refl, sym, ap, subst, ◌∙◌, arith}
use Rattle.std.specs.Bool.{⊤}
use Rattle.std.proofs.lemmas.List.{length-take-le, length-drop}
use Rattle.srt_types.specs.Words.{word, word_at, words_in}
use Rattle.srt_types.specs.declared.shared.Mode.{Mode}
use Rattle.srt_types.specs.declared.shared.Role.{Role}
use Rattle.srt_packet.specs.Grammar as grammar
use Rattle.srt_packet.specs.Grammar.{Packet, Spells}
use Rattle.srt_packet.proofs.Agreement.{packet_only}
use Rattle.srt_types.proofs.WordBytes.{length_of_words}
use Rattle.srt_hs.specs.declared.handshake.HsReq.{HsReq}
use Rattle.srt_hs.specs.declared.handshake.HsKind.{HsKind}
use Rattle.srt_hs.specs.declared.handshake.HsKind.TheVariants as kinds
use Rattle.srt_hs.specs.declared.handshake.HsFault.{HsFault}
use Rattle.srt_hs.specs.declared.refusal_codes.RefusalCode.{RefusalCode}
use Rattle.srt_hs.specs.declared.refusal_codes.RefusalCode.TheVariants as codes
use Rattle.srt_hs.specs.declared.writing.AnswerKind.{AnswerKind}
use Rattle.srt_hs.specs.declared.writing.AnswerKind.TheVariants.{Induction, Refusal, Conclusion}
use Rattle.srt_hs.specs.Grammar as greetings
use Rattle.srt_hs.specs.Grammar.{Handshake, Blocks, HasBlock, Adds, SpellsBlocks, SpellsExtension, no_blocks, kind_of, length_of, contents_of}
use Rattle.srt_hs.specs.Reading.{with_first, with_block, blocks_in, extension_in, handshake_in}
use Rattle.srt_hs.specs.Text.{hsrsp_text, congestion_text, kind_text, blocks_text, answer_text}
use Rattle.srt_hs.specs.View.{text_of, text_words}
use Rattle.srt_hs.specs.RoundTrip.{answered_blocks}
use Rattle.srt_hs.proofs.Steps.{read_ok}
use Rattle.srt_hs.proofs.Spelled.{reading_is_spelling}
use Rattle.srt_sub.specs.Says.{packet_text}
use Rattle.srt_route.specs.Conclusions.{with_blocks, is_conclusion, conclusion_of, conclusion_read, conclusion_in, role_requested}
use Rattle.srt_route.specs.Shifted.{shifted, shifted_at, shifted_handshake, renumbered}
use Rattle.srt_route.specs.ShiftLaws.{HasFewWords, ConclusionsHaveFewWords, IsReadable, AnswersSayOthers}
use Rattle.srt_route.proofs.renumbering.ShiftedOutput.{word_shifts, renumbered_is}

-- an answer reads
few_read : (mode : Mode) (recv_ms send_ms : ℕ) (ws : List ℕ) → 0 < length ws → length ws ≤ 4
    → (blocks : Blocks) × (Ok blocks ≡ blocks_in (hsrsp_text mode recv_ms send_ms ++ congestion_text (Some ws)))
unfolding blocks_in with_first with_block
few_read mode recv_ms send_ms [] some few = absurd (omega (arith, some))
few_read mode recv_ms send_ms (a ∷ []) some few = (answered_blocks (Some (words_in (flat_map word (a ∷ [])))), refl)
few_read mode recv_ms send_ms (a ∷ b ∷ []) some few = (answered_blocks (Some (words_in (flat_map word (a ∷ b ∷ [])))), refl)
few_read mode recv_ms send_ms (a ∷ b ∷ c ∷ []) some few = (answered_blocks (Some (words_in (flat_map word (a ∷ b ∷ c ∷ [])))), refl)
few_read mode recv_ms send_ms (a ∷ b ∷ c ∷ d ∷ []) some few = (answered_blocks (Some (words_in (flat_map word (a ∷ b ∷ c ∷ d ∷ [])))), refl)
few_read mode recv_ms send_ms (a ∷ b ∷ c ∷ d ∷ e ∷ ws) some few = absurd (omega (arith, few))

none_read : (mode : Mode) (recv_ms send_ms : ℕ) → Ok (answered_blocks None) ≡ blocks_in (hsrsp_text mode recv_ms send_ms)
unfolding blocks_in with_first with_block
none_read mode recv_ms send_ms = refl

code_read : (initial : ℕ) (code : RefusalCode) → Ok no_blocks ≡ extension_in (kind_of (word_at (kind_text initial (Refusal code)) 20)) []
code_read initial codes.Peer = refl
code_read initial codes.Resource = refl
code_read initial codes.Rogue = refl
code_read initial codes.Version = refl
code_read initial codes.BadSecret = refl
code_read initial codes.Unsecure = refl
code_read initial codes.MessageApi = refl
code_read initial codes.Filter = refl
code_read initial codes.Group = refl

answer_reads : (initial : ℕ) (what : AnswerKind) → IsReadable what → (hs : Handshake) × (Ok hs ≡ handshake_in (kind_text initial what ++ blocks_text what))
answer_reads initial (Induction cookie) h = (_, read_ok (kind_text initial (Induction cookie)) no_blocks (omega arith) refl)
answer_reads initial (Refusal code) h = (_, read_ok (kind_text initial (Refusal code)) no_blocks (omega arith) (code_read initial code))
answer_reads initial (Conclusion mtu window id mode recv_ms send_ms None) h = (
  _,
  read_ok (kind_text initial (Conclusion mtu window id mode recv_ms send_ms None) ++ hsrsp_text mode recv_ms send_ms)
      (answered_blocks None) (omega arith) (none_read mode recv_ms send_ms),
)
answer_reads initial (Conclusion mtu window id mode recv_ms send_ms (Some text)) h =
    let found = few_read mode recv_ms send_ms (text_words text) (omega arith) (omega (arith, h)) in (
      _,
      read_ok
          (kind_text initial (Conclusion mtu window id mode recv_ms send_ms (Some text))
          ++ (hsrsp_text mode recv_ms send_ms ++ congestion_text (Some (text_words text))))
          found.0 (omega arith) found.1,
    )

-- its initial number is in its third word
initial_shifts : (by initial : ℕ) (what : AnswerKind)
    → shifted_at by 8 (kind_text initial what ++ blocks_text what) ≡ kind_text (shifted by initial) what ++ blocks_text what
initial_shifts by initial (Induction cookie) =
    let bytes = kind_text initial (Induction cookie) in
    ap (λ four. take 8 bytes ++ (four ++ drop 12 bytes)) (word_shifts by initial)
initial_shifts by initial (Refusal code) =
    let bytes = kind_text initial (Refusal code) in
    ap (λ four. take 8 bytes ++ (four ++ drop 12 bytes)) (word_shifts by initial)
initial_shifts by initial (Conclusion mtu window id mode recv_ms send_ms congestion) =
    let what = Conclusion mtu window id mode recv_ms send_ms congestion in
    let bytes = kind_text initial what ++ blocks_text what in
    ap (λ four. take 8 bytes ++ (four ++ drop 12 bytes)) (word_shifts by initial)

what_shifts : (by initial : ℕ) (what : AnswerKind) → IsReadable what
    → shifted_handshake by (kind_text initial what ++ blocks_text what) ≡ kind_text (shifted by initial) what ++ blocks_text what
unfolding shifted_handshake
what_shifts by initial what h =
    let bytes = kind_text initial what ++ blocks_text what in
    ap (λ r. cond (is_ok r) (shifted_at by 8 bytes) bytes) (sym (answer_reads initial what h).1) ∙ initial_shifts by initial what

pub what_fits : (initial : ℕ) (what : AnswerKind) → IsReadable what → length (kind_text initial what ++ blocks_text what) ≤ 1456
what_fits initial (Induction cookie) h = omega arith
what_fits initial (Refusal code) h = omega arith
what_fits initial (Conclusion mtu window id mode recv_ms send_ms None) h = omega arith
what_fits initial (Conclusion mtu window id mode recv_ms send_ms (Some text)) h = omega (arith, h, length_of_words (text_words text))

handshake_says : (by stamp dest : ℕ) (info : List ℕ) → length info ≤ 1456
    → renumbered by (packet_text 0x8000_0000 0 stamp dest info) ≡ packet_text 0x8000_0000 0 stamp dest (shifted_handshake by info)
handshake_says by stamp dest info h =
    let bytes = packet_text 0x8000_0000 0 stamp dest info in
    let p : Packet = record { stamp = word_at bytes 8; dest = word_at bytes 12; body = grammar.Handshake info } in
    let s : Spells bytes p = record { header = omega arith; limit = omega (arith, h); stamp = refl; dest = refl; body = (refl, refl) } in
    renumbered_is by bytes p (packet_only bytes p s)

pub answers_say : AnswersSayOthers
unfolding answer_text
answers_say by caller a h =
    handshake_says by 0 caller (kind_text a.initial a.what ++ blocks_text a.what) (what_fits a.initial a.what h)
    ∙ ap (λ info. packet_text 0x8000_0000 0 0 caller info) (what_shifts by a.initial a.what h)

-- the congestion text of a handshake that reads
abbrev AreFew : Option (List ℕ) → Type 0
AreFew None = ⊤
AreFew (Some ws) = (0 < length ws) × (length ws ≤ 4)

length_words_in : (bytes : List ℕ) → length (words_in bytes) ≡ length bytes / 4
length_words_in [] = refl
length_words_in (a ∷ []) = refl
length_words_in (a ∷ b ∷ []) = refl
length_words_in (a ∷ b ∷ c ∷ []) = refl
length_words_in (a ∷ b ∷ c ∷ d ∷ bytes) = omega (arith, length_words_in bytes)

adds_few : (before : Blocks) (contents : List ℕ) (type : ℕ) (next : Blocks)
    → length contents % 4 ≡ 0 → Adds before contents type next → AreFew before.congestion → AreFew next.congestion
adds_few before contents type next whole (greetings.hsreq a b) h = h
adds_few before contents type next whole greetings.kmreq h = h
adds_few before contents type next whole (greetings.stream_id a b) h = h
adds_few before contents type next whole (greetings.congestion some few once) h =
    (omega (arith, some, whole, length_words_in contents), omega (arith, few, whole, length_words_in contents))
adds_few before contents type next whole greetings.filter h = h
adds_few before contents type next whole greetings.group h = h
adds_few before contents type next whole (greetings.skipped kind skipped) h = h

contents_whole : (bytes : List ℕ) → HasBlock bytes → length (contents_of bytes) % 4 ≡ 0
contents_whole bytes whole =
    omega (
      arith,
      whole.contents,
      length-drop 4 bytes,
      length-take-le (length_of bytes) (drop 4 bytes) (omega (arith, whole.contents, length-drop 4 bytes)),
    )

blocks_few : (bytes : List ℕ) (before after : Blocks) → SpellsBlocks bytes before after → AreFew before.congestion → AreFew after.congestion
blocks_few bytes before after (greetings.nothing same) h = h
blocks_few bytes before after (greetings.block all first next last whole adds rest) h =
    blocks_few _ _ _ rest (adds_few _ _ _ _ (contents_whole _ whole) adds h)

no_few : (blocks : Blocks) → blocks ≡ no_blocks → AreFew blocks.congestion
no_few blocks e = subst (λ (b : Blocks). AreFew b.congestion) (sym e) tt

extension_few : (kind : HsKind) (bytes : List ℕ) (blocks : Blocks) → SpellsExtension kind bytes blocks → AreFew blocks.congestion
extension_few kinds.Conclusion bytes blocks s = blocks_few bytes no_blocks blocks s tt
extension_few kinds.Induction bytes blocks s = no_few blocks s
extension_few kinds.WaveHand bytes blocks s = no_few blocks s
extension_few kinds.Agreement bytes blocks s = no_few blocks s
extension_few kinds.Done bytes blocks s = no_few blocks s
extension_few (kinds.Refusal code) bytes blocks s = no_few blocks s

words_few : (congestion : Option (List ℕ)) → AreFew congestion → HasFewWords (text_of congestion)
words_few None h = tt
words_few (Some []) h = tt
words_few (Some (w ∷ ws)) h = omega (arith, h)

blocks_have_few : (hs : Handshake) (req : Option HsReq) (role : Option Role)
    → AreFew hs.blocks.congestion → IfSome (with_blocks hs req role) (λ c. HasFewWords c.congestion)
blocks_have_few hs (Some req) (Some role) h = words_few hs.blocks.congestion h
blocks_have_few hs (Some req) None h = tt
blocks_have_few hs None role h = tt

conclusion_has_few : (hs : Handshake) → AreFew hs.blocks.congestion → IfSome (conclusion_of hs) (λ c. HasFewWords c.congestion)
unfolding conclusion_of
conclusion_has_few hs h = of_test (is_conclusion hs.kind && hs.version == 5 && nat_lt hs.initial (2 ^ 31))
  where
    of_test : (b : Bool) → IfSome (cond b (with_blocks hs hs.blocks.hsreq (role_requested hs.blocks.stream_id)) None) (λ c. HasFewWords c.congestion)
    of_test true = blocks_have_few hs hs.blocks.hsreq (role_requested hs.blocks.stream_id) h
    of_test false = tt

read_has_few : (info : List ℕ) (r : Result Handshake HsFault) → handshake_in info ≡ r → IfSome (conclusion_read r) (λ c. HasFewWords c.congestion)
read_has_few info (Ok hs) e = let s = (reading_is_spelling info hs).0 e in conclusion_has_few hs (extension_few _ _ _ s.blocks)
read_has_few info (Err fault) e = tt

pub conclusions_have_few : ConclusionsHaveFewWords
unfolding conclusion_in
conclusions_have_few info = read_has_few info (handshake_in info) refl
