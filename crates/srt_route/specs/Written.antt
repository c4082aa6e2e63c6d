-- The datagrams as which replies are sent.
use Rattle.srt_types.specs.Items.{Datagram}
use Rattle.srt_packet.specs.Encoded.{bytes_of}
use Rattle.srt_route.specs.declared.replies.Reply.{Reply}

-- the datagram as which a reply is sent
abbrev pub written : Reply → Datagram
written r = record { peer = r.peer; bytes = bytes_of r.packet }
