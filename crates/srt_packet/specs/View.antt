-- The packets of the grammar that values of the code represent.
use Rattle.std.specs.Prelude.{Result, Ok, Err}
use Rattle.srt_packet.specs.declared.reading.Kind.{Kind}
use Rattle.srt_packet.specs.declared.reading.Kind.TheVariants as kinds
use Rattle.srt_packet.specs.declared.reading.PacketRef.{PacketRef}
use Rattle.srt_packet.specs.declared.reading.PacketFault.{PacketFault}
use Rattle.srt_packet.specs.Grammar.{Body, Data, Handshake, KeepAlive, Ack, Nak, CongestionWarning, Shutdown, AckAck, DropRequest}
use Rattle.srt_packet.specs.Grammar.{PeerError, UserDefined, Packet}

-- the body that a value of the code represents, with the borrowed bytes as a list
abbrev pub body_of : Kind → Body
body_of (kinds.Data number encryption payload) = Data number encryption payload.bytes.now
body_of (kinds.Handshake info) = Handshake info.now
body_of kinds.KeepAlive = KeepAlive
body_of (kinds.Ack number info) = Ack number info.now
body_of (kinds.Nak info) = Nak info.now
body_of kinds.CongestionWarning = CongestionWarning
body_of kinds.Shutdown = Shutdown
body_of (kinds.AckAck number) = AckAck number
body_of (kinds.DropRequest message first last) = DropRequest message first last
body_of kinds.PeerError = PeerError
body_of kinds.UserDefined = UserDefined

-- the packet that a value of the code represents
abbrev pub packet_of : PacketRef → Packet
packet_of p = record { stamp = p.stamp; dest = p.dest; body = body_of p.kind }

-- a result of the code as a result of the grammar, for a body
abbrev pub body_read : Result Kind PacketFault → Result Body PacketFault
body_read (Ok kind) = Ok (body_of kind)
body_read (Err fault) = Err fault

-- a result of the code as a result of the grammar, for a packet
abbrev pub packet_read : Result PacketRef PacketFault → Result Packet PacketFault
packet_read (Ok packet) = Ok (packet_of packet)
packet_read (Err fault) = Err fault
