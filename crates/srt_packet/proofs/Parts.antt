-- Consequences for a result that equals that of packet_in.
use Rattle.std.proofs.Common.{◌≡◌, ℕ, ◌+◌, ◌-◌, ◌<◌, ◌≤◌, List, Result, Ok, Err, IfOk, IfErr, IsOkAnd, length, length-append, length-drop}
use Rattle.std.proofs.Common.{take, drop, ◌++◌, refl, ◌∙◌, arith}
use Rattle.std.proofs.lemmas.Bool.Decides.{nat_tests}
use Rattle.std.proofs.lemmas.List.{get_or_append_left, take_all}
use Rattle.std.proofs.Math.Seq.{drop-append_seam}
use Rattle.srt_types.specs.Words.{word_at}
use Rattle.srt_packet.specs.declared.reading.PacketRef.{PacketRef}
use Rattle.srt_packet.specs.declared.reading.PacketFault.{PacketFault}
use Rattle.srt_packet.specs.declared.reading.PacketFault.TheVariants.{Long}
use Rattle.srt_packet.specs.Grammar.{Packet, Spells}
use Rattle.srt_packet.specs.Reading.{packet_after, packet_in, IsFirstFault}
use Rattle.srt_packet.specs.View.{packet_of, packet_read}
use Rattle.srt_packet.proofs.Agreement.{packet_found, packet_only, packet_fault}

pub found_by : (bytes : List ℕ) (r : Result PacketRef PacketFault) → packet_read r ≡ packet_in bytes → IfOk r (λ p. Spells bytes (packet_of p))
found_by bytes (Ok p) e = let f = packet_found bytes in rw (← e) at f
found_by bytes (Err fault) e = tt

pub only_by : (bytes : List ℕ) (r : Result PacketRef PacketFault)
    → packet_read r ≡ packet_in bytes → (packet : Packet) → Spells bytes packet → IsOkAnd r (λ p. packet_of p ≡ packet)
only_by bytes (Ok p) e packet s = let k = e ∙ packet_only bytes packet s in cc
only_by bytes (Err fault) e packet s = let k = e ∙ packet_only bytes packet s in cc

pub fault_by : (bytes : List ℕ) (r : Result PacketRef PacketFault) → packet_read r ≡ packet_in bytes → IfErr r (λ fault. IsFirstFault bytes fault)
fault_by bytes (Ok p) e = tt
fault_by bytes (Err fault) e = let f = packet_fault bytes in rw (← e) at f

whole_is : (bytes : List ℕ) → 16 ≤ length bytes → length bytes ≤ 1472 → packet_after bytes (drop 16 bytes) ≡ packet_in bytes
whole_is bytes header limit = grind (arith, nat_tests)

-- the bytes of a slice from the 17th byte on
pub whole_by : (bytes : List ℕ) (r : Result Packet PacketFault)
    → 16 ≤ length bytes → length bytes ≤ 1472 → r ≡ packet_after bytes (take (length bytes - 16) (drop 16 bytes)) → r ≡ packet_in bytes
whole_by bytes r header limit e =
    let all = take_all (length bytes - 16) (drop 16 bytes) (omega (arith, length-drop 16 bytes)) in
    (rw all at e) ∙ whole_is bytes header limit

pub word_of_head : (head body : List ℕ) (at : ℕ) → at + 4 ≤ length head → word_at (head ++ body) at ≡ word_at head at
word_of_head head body at h =
    rw (
      get_or_append_left head body 0 at (omega (arith, h)),
      get_or_append_left head body 0 (at + 1) (omega (arith, h)),
      get_or_append_left head body 0 (at + 2) (omega (arith, h)),
      get_or_append_left head body 0 (at + 3) (omega (arith, h)),
    )
    refl

pub after_head : (head body : List ℕ) → length head ≡ 16 → drop 16 (head ++ body) ≡ body
after_head head body h = rw h at (drop-append_seam head body)

parts_are : (head body : List ℕ) → length head ≡ 16 → packet_after head body ≡ packet_after (head ++ body) (drop 16 (head ++ body))
parts_are head body h =
    rw (
      after_head head body h,
      word_of_head head body 0 (omega (arith, h)),
      word_of_head head body 4 (omega (arith, h)),
      word_of_head head body 8 (omega (arith, h)),
      word_of_head head body 12 (omega (arith, h)),
    )
    refl

pub parts_by : (head body : List ℕ) (r : Result Packet PacketFault)
    → length head ≡ 16 → length body ≤ 1456 → r ≡ packet_after head body → r ≡ packet_in (head ++ body)
parts_by head body r h limit e =
    e ∙ parts_are head body h ∙ whole_is (head ++ body) (omega (arith, length-append head body)) (omega (arith, length-append head body))

pub parts_long : (head body : List ℕ) → length head ≡ 16 → 1456 < length body → Err Long ≡ packet_in (head ++ body)
parts_long head body h long =
    let l = length-append head body in
    grind (arith, nat_tests, l)
