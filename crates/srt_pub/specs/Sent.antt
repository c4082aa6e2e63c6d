-- The packets of an event, in the order in which they are sent.
use Rattle.std.specs.Prelude.{List, ◌++◌}
use Rattle.srt_types.specs.Given.{given}
use Rattle.srt_packet.specs.declared.encoded.EncodedPacket.{EncodedPacket}
use Rattle.srt_pub.specs.Calls.{listed}
use Rattle.srt_pub.specs.declared.reports.Reports.{Reports}

-- the packets that were written
abbrev pub packets_of : Reports → (ack nak keep_alive : EncodedPacket) → List EncodedPacket
packets_of r ack nak keep_alive = listed (given r.ack ack) ++ listed (given r.nak nak) ++ listed (given r.keep_alive keep_alive)
