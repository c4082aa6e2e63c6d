-- A packet in clear is what its bytes read as.
use Rattle.std.proofs.Common.{◌≡◌, ℕ, ◌+◌, ◌/◌, ◌%◌, ◌^◌, ◌<◌, ◌≤◌, Option, None, Some, List, length, drop, Ok, refl, sym, ap, ◌∙◌, arith}
use Rattle.std.proofs.lemmas.List.{length-drop}
use Rattle.srt_types.specs.Words.{word_at}
use Rattle.srt_aes.specs.Counter.{counter_mode}
use Rattle.srt_aes.proofs.Counting.{length-counter_mode}
use Rattle.srt_packet.specs.Grammar.{Packet, Body, Data, Handshake, KeepAlive, Ack, Nak, CongestionWarning, Shutdown, AckAck, DropRequest}
use Rattle.srt_packet.specs.Grammar.{PeerError, UserDefined, Spells, SpellsBody}
use Rattle.srt_packet.specs.Reading.{packet_in}
use Rattle.srt_packet.proofs.Agreement.{packet_only}
use Rattle.srt_session_keys.specs.Publisher.{Publisher, decrypted_body, decrypted_data, named_key}
use Rattle.srt_route.specs.RouteKeys.{SlotKeys, Clear, OfPublisher, OfSubscriber}
use Rattle.srt_route.specs.Shifted.{with_rest, with_word}
use Rattle.srt_route.specs.Decryption.{clear_bytes, data_with, in_clear, with_body, with_field}
use Rattle.srt_route.proofs.renumbering.PlacedWords.{behind_header, length_rest, length_with, word_after, word_before, word_of_header, word_there}
use Rattle.srt_route.proofs.renumbering.ShiftedPackets.{spelled_of}

-- the second word with another field
field_there : (field w : ℕ) → field < 4 → with_field field w / 2 ^ 27 % 4 ≡ field
field_there field w h = omega (arith, h)

data_spelled : (bytes : List ℕ) (stamp dest number encryption field : ℕ) (payload other : List ℕ) → field < 4 → length other ≡ length payload
    → Spells bytes (record { stamp = stamp; dest = dest; body = Data number encryption payload })
    → Spells (data_with field other bytes) (record { stamp = stamp; dest = dest; body = Data number field other })
unfolding data_with
data_spelled bytes stamp dest number encryption field payload other small same s =
    let w = with_field field (word_at bytes 4) in
    let one = with_word 4 w bytes in
    let inside : 4 ≤ length bytes = omega (arith, s.header) in
    let one_long : length one ≡ length bytes = length_with 4 w bytes (omega (arith, s.header)) in
    let header : 16 ≤ length one = omega (arith, one_long, s.header) in
    let long = length_rest one other header in
    let b : SpellsBody (word_at bytes 0) (word_at bytes 4) (drop 16 bytes) (Data number encryption payload) = s.body in
    let after : (i : ℕ) → 8 ≤ i → i + 4 ≤ 16 → word_at (with_rest one other) i ≡ word_at bytes i =
    λ i low high. word_of_header one other i header high ∙ word_after 4 w i bytes inside low in
    let first : word_at (with_rest one other) 0 ≡ word_at bytes 0 =
    word_of_header one other 0 header (omega arith) ∙ word_before 4 w 0 bytes inside (omega arith) in
    let second : word_at (with_rest one other) 4 ≡ w = word_of_header one other 4 header (omega arith) ∙ word_there 4 w bytes inside in
    record {
      header = omega (arith, long);
      limit = omega (arith, long, same, s.limit, s.header, length-drop 16 bytes, ap length b.4);
      stamp = s.stamp ∙ sym (after 8 (omega arith) (omega arith));
      dest = s.dest ∙ sym (after 12 (omega arith) (omega arith));
      body = rw (first, second, behind_header one other header)
          (b.0, b.1, sym (field_there field (word_at bytes 4) small), omega (arith, same, b.3, ap length b.4), refl);
    }

data_clear : (o : Option (List ℕ)) (salt bytes : List ℕ) (stamp dest number encryption : ℕ) (payload : List ℕ)
    → Spells bytes (record { stamp = stamp; dest = dest; body = Data number encryption payload })
    → Spells (with_body (decrypted_data o salt number payload) bytes)
    (record { stamp = stamp; dest = dest; body = decrypted_data o salt number payload })
data_clear None salt bytes stamp dest number encryption payload s =
    data_spelled bytes stamp dest number encryption 3 payload payload (omega arith) refl s
data_clear (Some key) salt bytes stamp dest number encryption payload s =
    data_spelled bytes stamp dest number encryption 0 payload (counter_mode key salt number payload) (omega arith)
    (length-counter_mode key salt number payload) s

clear_spelled : (k : Publisher) (bytes : List ℕ) (stamp dest : ℕ) (body : Body) → Spells bytes (record { stamp = stamp; dest = dest; body = body })
    → Spells (with_body (decrypted_body k.keys k.salt body) bytes)
    (record { stamp = stamp; dest = dest; body = decrypted_body k.keys k.salt body })
clear_spelled k bytes stamp dest (Data number encryption payload) s =
    data_clear (named_key encryption k.keys) k.salt bytes stamp dest number encryption payload s
clear_spelled k bytes stamp dest (Handshake info) s = s
clear_spelled k bytes stamp dest KeepAlive s = s
clear_spelled k bytes stamp dest (Ack number info) s = s
clear_spelled k bytes stamp dest (Nak info) s = s
clear_spelled k bytes stamp dest CongestionWarning s = s
clear_spelled k bytes stamp dest Shutdown s = s
clear_spelled k bytes stamp dest (AckAck number) s = s
clear_spelled k bytes stamp dest (DropRequest message first last) s = s
clear_spelled k bytes stamp dest PeerError s = s
clear_spelled k bytes stamp dest UserDefined s = s

pub clear_read : (k : SlotKeys) (p : Packet) (bytes : List ℕ) → packet_in bytes ≡ Ok p → packet_in (clear_bytes k p bytes) ≡ Ok (in_clear k p)
clear_read Clear p bytes h = h
clear_read (OfPublisher request keys) p bytes h =
    packet_only (clear_bytes (OfPublisher request keys) p bytes) (in_clear (OfPublisher request keys) p)
    (clear_spelled keys bytes p.stamp p.dest p.body (spelled_of bytes p h))
clear_read (OfSubscriber request keys) p bytes h = h
