-- Handshakes and conclusions with another initial sequence number.
use Rattle.std.proofs.Common.{◌≡◌, ℕ, ◌^◌, ◌≤◌, Bool, true, false, cond, Option, None, Some, option_map, List, length, Result, Ok, Err}
use Rattle.std.proofs.Common.{nat_lt, is_ok, ◌==◌, ◌&&◌, refl, sym, ap, ◌∙◌, arith}
use Rattle.srt_types.specs.Words.{word_at}
use Rattle.srt_types.specs.declared.shared.Role.{Role}
use Rattle.srt_hs.specs.declared.handshake.HsReq.{HsReq}
use Rattle.srt_hs.specs.declared.handshake.HsFault.{HsFault}
use Rattle.srt_hs.specs.Grammar.{Handshake, kind_of, Spells}
use Rattle.srt_hs.specs.Reading.{handshake_in}
use Rattle.srt_hs.specs.KeyRequest.{key_request_in}
use Rattle.srt_hs.proofs.Spelled.{reading_is_spelling}
use Rattle.srt_route.specs.RouteKeys.{brought_by, brought_in, cookie_in}
use Rattle.srt_route.specs.Conclusions.{with_blocks, is_conclusion, conclusion_of, conclusion_read, conclusion_in, role_requested}
use Rattle.srt_route.specs.Shifted.{shifted, with_word, shifted_at, shifted_handshake}
use Rattle.srt_route.specs.ShiftLaws.{with_initial, shifted_greeting, shifted_conclusion, HandshakesShift, ConclusionsShift}
use Rattle.srt_route.proofs.renumbering.PlacedWords.{length_with, word_before, word_there, word_after, half_before, rest_after}
use Rattle.srt_route.proofs.renumbering.ShiftedWords.{top_stays}

shifted_spelled : (by : ℕ) (info : List ℕ) (hs : Handshake) → Spells info hs → Spells (shifted_at by 8 info) (with_initial by hs)
shifted_spelled by info hs s =
    let n = shifted by (word_at info 8) in
    let long = length_with 8 n info (omega (arith, s.whole)) in
    let inside : 8 ≤ length info = omega (arith, s.whole) in
    let after : (i : ℕ) → 12 ≤ i → word_at (with_word 8 n info) i ≡ word_at info i = λ i l. word_after 8 n i info inside l in
    record {
      whole = omega (arith, long, s.whole);
      version = s.version ∙ sym (word_before 8 n 0 info inside (omega arith));
      encryption = s.encryption ∙ sym (half_before 8 n 4 info inside (omega arith));
      extension = s.extension ∙ sym (half_before 8 n 6 info inside (omega arith));
      initial = ap (shifted by) s.initial ∙ sym (word_there 8 n info inside);
      mtu = s.mtu ∙ sym (after 12 (omega arith));
      window = s.window ∙ sym (after 16 (omega arith));
      kind = s.kind ∙ ap kind_of (sym (after 20 (omega arith)));
      id = s.id ∙ sym (after 24 (omega arith));
      cookie = s.cookie ∙ sym (after 28 (omega arith));
      blocks = rw (after 20 (omega arith), rest_after 8 n 48 info (omega (arith, s.whole)) (omega arith)) s.blocks;
    }

greeting_shifts : (by : ℕ) (info : List ℕ) (r : Result Handshake HsFault)
    → handshake_in info ≡ r → handshake_in (cond (is_ok r) (shifted_at by 8 info) info) ≡ shifted_greeting by r
greeting_shifts by info (Ok hs) e =
    (reading_is_spelling (shifted_at by 8 info) (with_initial by hs)).1 (shifted_spelled by info hs ((reading_is_spelling info hs).0 e))
greeting_shifts by info (Err fault) e = e

pub handshakes_shift : HandshakesShift
unfolding shifted_handshake
handshakes_shift by info = greeting_shifts by info (handshake_in info) refl

length_greeting : (by : ℕ) (info : List ℕ) (r : Result Handshake HsFault)
    → handshake_in info ≡ r → length (cond (is_ok r) (shifted_at by 8 info) info) ≡ length info
length_greeting by info (Ok hs) e = let s = (reading_is_spelling info hs).0 e in length_with 8 (shifted by (word_at info 8)) info (omega (arith, s.whole))
length_greeting by info (Err fault) e = refl

pub length_shifted_handshake : (by : ℕ) (info : List ℕ) → length (shifted_handshake by info) ≡ length info
unfolding shifted_handshake
length_shifted_handshake by info = length_greeting by info (handshake_in info) refl

blocks_shift : (by : ℕ) (hs : Handshake) (req : Option HsReq) (role : Option Role)
    → with_blocks (with_initial by hs) req role ≡ option_map (shifted_conclusion by) (with_blocks hs req role)
blocks_shift by hs (Some req) (Some role) = refl
blocks_shift by hs (Some req) None = refl
blocks_shift by hs None role = refl

conclusion_shifts : (by : ℕ) (hs : Handshake) → conclusion_of (with_initial by hs) ≡ option_map (shifted_conclusion by) (conclusion_of hs)
unfolding conclusion_of
conclusion_shifts by hs =
    ap
    (λ small. cond (is_conclusion hs.kind && hs.version == 5 && small)
    (with_blocks (with_initial by hs) hs.blocks.hsreq (role_requested hs.blocks.stream_id)) None)
    (top_stays by hs.initial)
    ∙ of_test (is_conclusion hs.kind && hs.version == 5 && nat_lt hs.initial (2 ^ 31))
  where
    of_test : (b : Bool)
        → cond b (with_blocks (with_initial by hs) hs.blocks.hsreq (role_requested hs.blocks.stream_id)) None
        ≡ option_map (shifted_conclusion by) (cond b (with_blocks hs hs.blocks.hsreq (role_requested hs.blocks.stream_id)) None)
    of_test true = blocks_shift by hs hs.blocks.hsreq (role_requested hs.blocks.stream_id)
    of_test false = refl

conclusion_read_shifts : (by : ℕ) (r : Result Handshake HsFault)
    → conclusion_read (shifted_greeting by r) ≡ option_map (shifted_conclusion by) (conclusion_read r)
conclusion_read_shifts by (Ok hs) = conclusion_shifts by hs
conclusion_read_shifts by (Err fault) = refl

pub conclusions_shift : ConclusionsShift
unfolding conclusion_in
conclusions_shift by info = ap conclusion_read (handshakes_shift by info) ∙ conclusion_read_shifts by (handshake_in info)

-- its KMREQ blocks and its cookie stay
request_stays : (by : ℕ) (info : List ℕ) (r : Result Handshake HsFault)
    → handshake_in info ≡ r → key_request_in (cond (is_ok r) (shifted_at by 8 info) info) ≡ key_request_in info
request_stays by info (Ok hs) e =
    let s = (reading_is_spelling info hs).0 e in
    let n = shifted by (word_at info 8) in
    let inside : 8 ≤ length info = omega (arith, s.whole) in
    rw (
      length_with 8 n info (omega (arith, s.whole)),
      word_after 8 n 20 info inside (omega arith),
      rest_after 8 n 48 info (omega (arith, s.whole)) (omega arith),
    )
    refl
request_stays by info (Err fault) e = refl

pub keys_stay : (by : ℕ) (info : List ℕ) → brought_in (shifted_handshake by info) ≡ brought_in info
unfolding shifted_handshake
keys_stay by info = ap brought_by (request_stays by info (handshake_in info) refl)

stays_in : (by : ℕ) (info : List ℕ) (r : Result Handshake HsFault)
    → handshake_in info ≡ r → cookie_in (cond (is_ok r) (shifted_at by 8 info) info) ≡ cookie_in info
stays_in by info (Ok hs) e =
    let s = (reading_is_spelling info hs).0 e in
    let n = shifted by (word_at info 8) in
    let inside : 8 ≤ length info = omega (arith, s.whole) in
    rw (length_with 8 n info (omega (arith, s.whole)), word_after 8 n 28 info inside (omega arith)) refl
stays_in by info (Err fault) e = refl

pub cookie_stays : (by : ℕ) (info : List ℕ) → cookie_in (shifted_handshake by info) ≡ cookie_in info
unfolding shifted_handshake
cookie_stays by info = stays_in by info (handshake_in info) refl
