-- What is written conforms to the grammar, and reads back.
use Rattle.std.proofs.Common.{◌^◌, ◌<◌, true, false, refl, sym, arith}
use Rattle.std.proofs.lemmas.Nat.{from_be_bytes-to_be_bytes_4}
use Rattle.srt_packet.specs.declared.writing.Body.{Body}
use Rattle.srt_packet.specs.declared.writing.Body.TheVariants as out
use Rattle.srt_packet.specs.Text.{word0_of, word1_of, rest_of, IsWritable, text}
use Rattle.srt_packet.specs.Grammar.{SpellsBody}
use Rattle.srt_packet.specs.Sent.{sent, sent_body, WhatIsSentIsSpelled, WhatIsSentIsRead}
use Rattle.srt_packet.proofs.Agreement.{packet_only}
use Rattle.srt_types.proofs.WordBytes.{length_of_words}

word0_fits : (b : Body) → word0_of b < 2 ^ 32
word0_fits (out.Media number message again payload) = omega (arith, number.small)
word0_fits (out.Handshake info) = omega arith
word0_fits out.KeepAlive = omega arith
word0_fits (out.FullAck number point round_trip variance available rates) = omega arith
word0_fits (out.LightAck point) = omega arith
word0_fits (out.Nak losses) = omega arith
word0_fits out.Shutdown = omega arith
word0_fits (out.AckAck number) = omega arith
word0_fits (out.DropRequest message first last) = omega arith

body_spelled : (b : Body) → IsWritable b → SpellsBody (word0_of b) (word1_of b) (rest_of b) (sent_body b)
body_spelled (out.Media number message true payload) w = (number.small, refl, omega (arith, message.small), w.0, refl)
body_spelled (out.Media number message false payload) w = (number.small, refl, omega (arith, message.small), w.0, refl)
body_spelled (out.Handshake info) w = (refl, refl)
body_spelled out.KeepAlive w = refl
body_spelled (out.FullAck number point round_trip variance available rates) w = (refl, refl, omega arith, refl)
body_spelled (out.LightAck point) w = (refl, refl, omega arith, refl)
body_spelled (out.Nak losses) w = (refl, omega (arith, w, length_of_words losses.items), refl)
body_spelled out.Shutdown w = refl
body_spelled (out.AckAck number) w = (refl, refl)
body_spelled (out.DropRequest message first last) w = (
  refl,
  refl,
  omega arith,
  sym (from_be_bytes-to_be_bytes_4 first.word (omega (arith, first.small))),
  sym (from_be_bytes-to_be_bytes_4 last.word (omega (arith, last.small))),
)

pub sent_is_spelled : WhatIsSentIsSpelled
sent_is_spelled p h =
    let first = from_be_bytes-to_be_bytes_4 (word0_of p.body) (word0_fits p.body) in
    let second = from_be_bytes-to_be_bytes_4 (word1_of p.body) h.word1 in
    record {
      header = omega arith;
      limit = omega (arith, h.rest);
      stamp = sym (from_be_bytes-to_be_bytes_4 p.stamp h.stamp);
      dest = sym (from_be_bytes-to_be_bytes_4 p.dest h.dest);
      body = rw (first, second) (body_spelled p.body h.body);
    }

pub sent_is_read : WhatIsSentIsRead
sent_is_read p h = packet_only (text p) (sent p) (sent_is_spelled p h)
