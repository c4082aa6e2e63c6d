-- A publisher's packets in clear (sections 3.1 and 6.3), as packets and as bytes.
use Rattle.std.specs.Prelude.{ℕ, ◌+◌, ◌*◌, ◌/◌, ◌%◌, ◌^◌, List}
use Rattle.srt_types.specs.Words.{word_at}
use Rattle.srt_packet.specs.Grammar.{Packet, Body, Data}
use Rattle.srt_session_keys.specs.Publisher.{decrypted, decrypted_body}
use Rattle.srt_route.specs.RouteKeys.{SlotKeys, Clear, OfPublisher, OfSubscriber}
use Rattle.srt_route.specs.Shifted.{with_rest, with_word}

-- the second word of a data packet with another field KK
abbrev pub with_field : (field word : ℕ) → ℕ
with_field field word = word / 2 ^ 29 * 2 ^ 29 + field * 2 ^ 27 + word % 2 ^ 27

-- the bytes of a data packet with this field and this payload
unfoldable pub data_with : (field : ℕ) (payload bytes : List ℕ) → List ℕ
data_with field payload bytes = with_rest (with_word 4 (with_field field (word_at bytes 4)) bytes) payload

-- the bytes of a packet with this body in place of its own
abbrev pub with_body : Body → List ℕ → List ℕ
with_body (Data number field payload) bytes = data_with field payload bytes
with_body _ bytes = bytes

-- a packet as the session with these keys processes it: a publisher's is decrypted
abbrev pub in_clear : SlotKeys → Packet → Packet
in_clear Clear packet = packet
in_clear (OfPublisher request keys) packet = decrypted keys.keys keys.salt packet
in_clear (OfSubscriber request keys) packet = packet

-- the bytes of that packet, from those of the packet that came
abbrev pub clear_bytes : SlotKeys → Packet → List ℕ → List ℕ
clear_bytes Clear packet bytes = bytes
clear_bytes (OfPublisher request keys) packet bytes = with_body (decrypted_body keys.keys keys.salt packet.body) bytes
clear_bytes (OfSubscriber request keys) packet bytes = bytes
