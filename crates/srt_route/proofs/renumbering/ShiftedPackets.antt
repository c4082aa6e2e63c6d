-- A renumbered datagram is the packet with its numbers shifted.
use Rattle.std.proofs.Common.{◌≡◌, ℕ, ◌+◌, ◌/◌, ◌^◌, ◌<◌, ◌≤◌, List, length, drop, Result, Ok, Err, IfOk, refl, sym, ap, subst, ◌∙◌, arith}
use Rattle.std.proofs.lemmas.List.{length-drop}
use Rattle.srt_types.specs.Words.{word_at}
use Rattle.srt_packet.specs.declared.reading.PacketFault.{PacketFault}
use Rattle.srt_packet.specs.Grammar.{Packet, Body, Data, Handshake, KeepAlive, Ack, Nak, CongestionWarning, Shutdown, AckAck, DropRequest}
use Rattle.srt_packet.specs.Grammar.{PeerError, UserDefined, Spells, SpellsBody}
use Rattle.srt_packet.specs.Reading.{packet_in}
use Rattle.srt_packet.proofs.Agreement.{packet_found, packet_only}
use Rattle.srt_route.specs.Shifted.{shifted, with_word, shifted_at, shifted_first, shifted_words, shifted_handshake, shifted_body}
use Rattle.srt_route.specs.Shifted.{shifted_packet, shifted_reading, with_rest, renumbered_as, renumbered_read, renumbered}
use Rattle.srt_route.specs.ShiftLaws.{PacketsShift}
use Rattle.srt_route.proofs.renumbering.PlacedWords.{length_with, word_before, word_there, word_after}
use Rattle.srt_route.proofs.renumbering.PlacedWords.{rest_after, word_behind, length_rest, word_of_header, behind_header}
use Rattle.srt_route.proofs.renumbering.ShiftedWords.{length_first, length_shifted}
use Rattle.srt_route.proofs.renumbering.ShiftedHandshakes.{length_shifted_handshake}

-- a control packet with the same header, followed by the bytes of this body
behind : (bytes rest : List ℕ) (p q : Packet) → Spells bytes p → q.stamp ≡ p.stamp → q.dest ≡ p.dest → length rest ≡ length (drop 16 bytes)
    → SpellsBody (word_at bytes 0) (word_at bytes 4) rest q.body
    → Spells (with_rest bytes rest) q
behind bytes rest p q s stamp dest same body =
    let long = length_rest bytes rest s.header in
    record {
      header = omega (arith, long);
      limit = omega (arith, long, same, length-drop 16 bytes, s.header, s.limit);
      stamp = stamp ∙ s.stamp ∙ sym (word_of_header bytes rest 8 s.header (omega arith));
      dest = dest ∙ s.dest ∙ sym (word_of_header bytes rest 12 s.header (omega arith));
      body = rw (
        word_of_header bytes rest 0 s.header (omega arith),
        word_of_header bytes rest 4 s.header (omega arith),
        behind_header bytes rest s.header,
      )
          body;
    }

data_spelled : (by : ℕ) (bytes : List ℕ) (p : Packet) (number encryption : ℕ) (payload : List ℕ)
    → p.body ≡ Data number encryption payload → Spells bytes p → Spells (shifted_at by 0 bytes) (shifted_packet by p)
data_spelled by bytes p number encryption payload e s =
    let n = shifted by (word_at bytes 0) in
    let b : SpellsBody (word_at bytes 0) (word_at bytes 4) (drop 16 bytes) (Data number encryption payload) =
    subst (λ (x : Body). SpellsBody (word_at bytes 0) (word_at bytes 4) (drop 16 bytes) x) e s.body in
    let first : word_at (with_word 0 n bytes) 0 ≡ n = word_there 0 n bytes (omega arith) in
    let long = length_with 0 n bytes (omega (arith, s.header)) in
    let small : n < 2 ^ 31 = omega (arith, b.0) in
    record {
      header = omega (arith, long, s.header);
      limit = omega (arith, long, s.limit);
      stamp = s.stamp ∙ sym (word_after 0 n 8 bytes (omega arith) (omega arith));
      dest = s.dest ∙ sym (word_after 0 n 12 bytes (omega arith) (omega arith));
      body =
          subst
          (λ (x : Body). SpellsBody (word_at (with_word 0 n bytes) 0) (word_at (with_word 0 n bytes) 4) (drop 16 (with_word 0 n bytes))
          (shifted_body by x))
          (sym e)
          (rw (first, word_after 0 n 4 bytes (omega arith) (omega arith), rest_after 0 n 16 bytes (omega (arith, s.header)) (omega arith))
          (small, ap (shifted by) b.1, b.2, b.3, b.4));
    }

renumbered_spelled : (by : ℕ) (bytes : List ℕ) (stamp dest : ℕ) (body : Body)
    → Spells bytes (record { stamp = stamp; dest = dest; body = body })
    → Spells (renumbered_as by body bytes) (record { stamp = stamp; dest = dest; body = shifted_body by body })
renumbered_spelled by bytes stamp dest (Data number encryption payload) s =
    data_spelled by bytes (record { stamp = stamp; dest = dest; body = Data number encryption payload }) number encryption payload refl s
renumbered_spelled by bytes stamp dest (Handshake info) s =
    behind bytes (shifted_handshake by info) _ _ s refl refl (length_shifted_handshake by info ∙ ap length s.body.1) (s.body.0, refl)
renumbered_spelled by bytes stamp dest KeepAlive s = s
renumbered_spelled by bytes stamp dest (Ack number info) s =
    let long = length_first by info in
    behind bytes (shifted_first by info) _ _ s refl refl (long ∙ ap length s.body.3)
    (s.body.0, s.body.1, omega (arith, long, s.body.2, ap length s.body.3), refl)
renumbered_spelled by bytes stamp dest (Nak info) s =
    let long = length_shifted by info in
    behind bytes (shifted_words by info) _ _ s refl refl (long ∙ ap length s.body.2) (s.body.0, omega (arith, long, s.body.1, ap length s.body.2), refl)
renumbered_spelled by bytes stamp dest CongestionWarning s = s
renumbered_spelled by bytes stamp dest Shutdown s = s
renumbered_spelled by bytes stamp dest (AckAck number) s = s
renumbered_spelled by bytes stamp dest (DropRequest message first last) s = request_spelled by bytes stamp dest message first last s
  where
    request_spelled : (by : ℕ) (bytes : List ℕ) (stamp dest message first last : ℕ)
        → Spells bytes (record { stamp = stamp; dest = dest; body = DropRequest message first last })
        → Spells (shifted_at by 20 (shifted_at by 16 bytes))
        (record { stamp = stamp; dest = dest; body = DropRequest message (shifted by first) (shifted by last) })
    request_spelled by bytes stamp dest message first last s =
        let long : 24 ≤ length bytes = omega (arith, s.header, s.body.2, length-drop 16 bytes) in
        let m = shifted by (word_at bytes 16) in
        let one = with_word 16 m bytes in
        let n = shifted by (word_at one 20) in
        let two = with_word 20 n one in
        let one_long : length one ≡ length bytes = length_with 16 m bytes (omega (arith, long)) in
        let two_long : length two ≡ length one = length_with 20 n one (omega (arith, long, one_long)) in
        let kept : (i : ℕ) → i + 4 ≤ 16 → word_at two i ≡ word_at bytes i = λ i l.
        word_before 20 n i one (omega (arith, long, one_long)) (omega (arith, l)) ∙ word_before 16 m i bytes (omega (arith, long)) l in
        let low : word_at (drop 16 two) 0 ≡ shifted by first =
        word_behind 16 0 two ∙ word_before 20 n 16 one (omega (arith, long, one_long)) (omega arith) ∙ word_there 16 m bytes (omega (arith, long))
        ∙ ap (shifted by) (sym (s.body.3 ∙ word_behind 16 0 bytes)) in
        let high : word_at (drop 16 two) 4 ≡ shifted by last =
        word_behind 16 4 two ∙ word_there 20 n one (omega (arith, long, one_long))
        ∙ ap (shifted by) (word_after 16 m 20 bytes (omega (arith, long)) (omega arith) ∙ sym (s.body.4 ∙ word_behind 16 4 bytes)) in
        record {
          header = omega (arith, one_long, two_long, s.header);
          limit = omega (arith, one_long, two_long, s.limit);
          stamp = s.stamp ∙ sym (kept 8 (omega arith));
          dest = s.dest ∙ sym (kept 12 (omega arith));
          body = (
            ap (λ w. w / 2 ^ 16) (kept 0 (omega arith)) ∙ s.body.0,
            s.body.1 ∙ sym (kept 4 (omega arith)),
            omega (arith, one_long, two_long, long, length-drop 16 two),
            sym low,
            sym high,
          );
        }
renumbered_spelled by bytes stamp dest PeerError s = s
renumbered_spelled by bytes stamp dest UserDefined s = s

pub spelled_of : (bytes : List ℕ) (p : Packet) → packet_in bytes ≡ Ok p → Spells bytes p
spelled_of bytes p e = subst (λ (r : Result Packet PacketFault). IfOk r (λ packet. Spells bytes packet)) e (packet_found bytes)

reading_shifts : (by : ℕ) (bytes : List ℕ) (r : Result Packet PacketFault) → packet_in bytes ≡ r → packet_in (renumbered_read by r bytes) ≡ shifted_reading by r
reading_shifts by bytes (Ok p) e =
    packet_only (renumbered_as by p.body bytes) (shifted_packet by p)
    (renumbered_spelled by bytes p.stamp p.dest p.body (spelled_of bytes p e))
reading_shifts by bytes (Err fault) e = e

pub packets_shift : PacketsShift
unfolding renumbered
packets_shift by bytes = reading_shifts by bytes (packet_in bytes) refl

length_as : (by : ℕ) (bytes : List ℕ) (stamp dest : ℕ) (body : Body)
    → Spells bytes (record { stamp = stamp; dest = dest; body = body }) → length (renumbered_as by body bytes) ≡ length bytes
length_as by bytes stamp dest (Data number encryption payload) s = length_with 0 (shifted by (word_at bytes 0)) bytes (omega (arith, s.header))
length_as by bytes stamp dest (Handshake info) s =
    omega (
      arith,
      length_rest bytes (shifted_handshake by info) s.header,
      length_shifted_handshake by info,
      ap length s.body.1,
      length-drop 16 bytes,
      s.header,
    )
length_as by bytes stamp dest KeepAlive s = refl
length_as by bytes stamp dest (Ack number info) s =
    omega (
      arith,
      length_rest bytes (shifted_first by info) s.header,
      length_first by info,
      ap length s.body.3,
      length-drop 16 bytes,
      s.header,
    )
length_as by bytes stamp dest (Nak info) s =
    omega (
      arith,
      length_rest bytes (shifted_words by info) s.header,
      length_shifted by info,
      ap length s.body.2,
      length-drop 16 bytes,
      s.header,
    )
length_as by bytes stamp dest CongestionWarning s = refl
length_as by bytes stamp dest Shutdown s = refl
length_as by bytes stamp dest (AckAck number) s = refl
length_as by bytes stamp dest (DropRequest message first last) s =
    let long : 24 ≤ length bytes = omega (arith, s.header, s.body.2, length-drop 16 bytes) in
    let one = length_with 16 (shifted by (word_at bytes 16)) bytes (omega (arith, long)) in
    length_with 20 (shifted by (word_at (shifted_at by 16 bytes) 20)) (shifted_at by 16 bytes) (omega (arith, one, long)) ∙ one
length_as by bytes stamp dest PeerError s = refl
length_as by bytes stamp dest UserDefined s = refl

length_read : (by : ℕ) (bytes : List ℕ) (r : Result Packet PacketFault) → packet_in bytes ≡ r → length (renumbered_read by r bytes) ≡ length bytes
length_read by bytes (Ok p) e = length_as by bytes p.stamp p.dest p.body (spelled_of bytes p e)
length_read by bytes (Err fault) e = refl

pub length_renumbered : (by : ℕ) (bytes : List ℕ) → length (renumbered by bytes) ≡ length bytes
unfolding renumbered
length_renumbered by bytes = length_read by bytes (packet_in bytes) refl
