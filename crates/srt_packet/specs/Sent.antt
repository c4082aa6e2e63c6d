-- What is written conforms to the grammar, and reading it returns the same packet.
use Rattle.std.specs.Prelude.{◌≡◌, ◌^◌, ◌<◌, ◌≤◌, length, Ok}
use Rattle.srt_types.specs.Window.{word_of}
use Rattle.srt_types.specs.Counts.{message_of}
use Rattle.srt_packet.specs.declared.writing.Body.{Body}
use Rattle.srt_packet.specs.declared.writing.Body.TheVariants as out
use Rattle.srt_packet.specs.declared.writing.Packet as written
use Rattle.srt_packet.specs.Text.{rest_of, word1_of, IsWritable, text}
use Rattle.srt_packet.specs.Grammar as grammar
use Rattle.srt_packet.specs.Reading.{packet_in}

-- the body that the receiver reads, for a body that is written
abbrev pub sent_body : Body → grammar.Body
sent_body (out.Media number message again payload) = grammar.Data (word_of number) 0 payload.bytes.now
sent_body (out.Handshake info) = grammar.Handshake info.items
sent_body out.KeepAlive = grammar.KeepAlive
sent_body (out.FullAck number point round_trip variance available rates) =
    grammar.Ack number (rest_of (out.FullAck number point round_trip variance available rates))
sent_body (out.LightAck point) = grammar.Ack 0 (rest_of (out.LightAck point))
sent_body (out.Nak losses) = grammar.Nak (rest_of (out.Nak losses))
sent_body out.Shutdown = grammar.Shutdown
sent_body (out.AckAck number) = grammar.AckAck number
sent_body (out.DropRequest message first last) = grammar.DropRequest (message_of message) (word_of first) (word_of last)

-- the packet that the receiver reads, for a packet that is written
abbrev pub sent : written.Packet → grammar.Packet
sent p = record { stamp = p.stamp; dest = p.dest; body = sent_body p.body }

-- words have 32 bits, and the packet fits a datagram; true of each writable value of the code
pub record CanBeSent (p : written.Packet) : Type 0 where
  pub stamp : p.stamp < 2 ^ 32
  pub dest : p.dest < 2 ^ 32
  pub word1 : word1_of p.body < 2 ^ 32
  pub rest : length (rest_of p.body) ≤ 1456
  pub body : IsWritable p.body

-- the bytes that are written for a packet encode the packet that the receiver reads
abbrev pub WhatIsSentIsSpelled : Type 0
WhatIsSentIsSpelled = (p : written.Packet) → CanBeSent p → grammar.Spells (text p) (sent p)

-- reading the bytes that are written for a packet returns it
abbrev pub WhatIsSentIsRead : Type 0
WhatIsSentIsRead = (p : written.Packet) → CanBeSent p → packet_in (text p) ≡ Ok (sent p)
