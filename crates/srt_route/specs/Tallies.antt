-- The counts of sessions opened and of conclusions refused.
use Rattle.std.specs.Prelude.{◌≡◌, ℕ, Option, None, Some, Result, Ok, Err, List, find, ◌==◌, if◌then◌else◌}
use Rattle.srt_types.specs.declared.shared.Peer.{Peer}
use Rattle.srt_types.specs.Terms.{Terms}
use Rattle.srt_types.specs.Items.{Item, Received, Tick, Close}
use Rattle.srt_packet.specs.declared.reading.PacketFault.{PacketFault}
use Rattle.srt_packet.specs.Grammar.{Packet}
use Rattle.srt_packet.specs.Reading.{packet_in}
use Rattle.srt_route.specs.declared.refusals.RefusalCause.{RefusalCause}
use Rattle.srt_route.specs.declared.refusals.RefusalCause.TheVariants as causes
use Rattle.srt_route.specs.declared.admission.Admission.{Admission}
use Rattle.srt_route.specs.declared.conclusion_reading.Conclusion.{Conclusion}
use Rattle.srt_route.specs.declared.ledger.Ledger.{Ledger}
use Rattle.srt_route.specs.declared.ledger.Refusals.{Refusals}
use Rattle.srt_route.specs.declared.route.Route.{Route as TheRoute}
use Rattle.srt_route.specs.declared.table.Table.{Table}
use Rattle.srt_route.specs.Admission.{admitted}
use Rattle.srt_route.specs.Sessions.{Session, advanced}
use Rattle.srt_route.specs.Route.{Route, Verdict, Passes, Ignored, Refused, Repeats, Decrypted, Answered, clock_after, concludes, heard_by, is_of, judgement}
use Rattle.srt_route.specs.Tables.{IsTable}
use Rattle.srt_route.specs.Ledgers.{more, refusals_with}

pub record Tally : Type 0 where
  pub opened : ℕ
  pub refusals : Refusals

abbrev pub no_tally : Tally
no_tally = record { opened = 0; refusals = record { peer = 0; resource = 0; rogue = 0; message_api = 0; address = 0; reserved = 0; secret = 0 } }

abbrev pub tally_of : Ledger → Tally
tally_of ledger = record { opened = ledger.opened; refusals = ledger.refusals }

abbrev pub tally_in : TheRoute → Tally
tally_in r = tally_of r.ledger

-- the counts after a conclusion that is admitted or refused
abbrev pub admitted_tally : Result Admission RefusalCause → Tally → Tally
admitted_tally (Ok admission) t = record t { opened = more t.opened }
admitted_tally (Err cause) t = record t { refusals = refusals_with cause t.refusals }

-- a conclusion of a caller with an open session is answered again, and not counted
abbrev pub concluded_tally : Terms → Peer → Conclusion → List Session → Option Session → Tally → Tally
concluded_tally e peer c sessions (Some s) t = t
concluded_tally e peer c sessions None t = admitted_tally (admitted e peer sessions c) t

abbrev pub conclusion_tally : Terms → Peer → List Session → Option Conclusion → Tally → Tally
conclusion_tally e peer sessions None t = t
conclusion_tally e peer sessions (Some c) t = concluded_tally e peer c sessions (find (is_of peer c.caller) sessions) t

abbrev pub packet_tally : Terms → Peer → Packet → List Session → Tally → Tally
packet_tally e peer packet sessions t = if packet.dest == 0 then conclusion_tally e peer sessions (concludes packet.body) t else t

abbrev pub read_tally : Terms → Peer → Result Packet PacketFault → List Session → Tally → Tally
read_tally e peer (Ok packet) sessions t = packet_tally e peer packet sessions t
read_tally e peer (Err fault) sessions t = t

abbrev pub item_tally : Terms → Item → List Session → Tally → Tally
item_tally e (Received datagram moment) sessions t = read_tally e datagram.peer (packet_in datagram.bytes) sessions t
item_tally e (Tick moment) sessions t = t
item_tally e (Close moment) sessions t = t

-- a conclusion whose keys can't be unwrapped is counted as refused
abbrev pub verdict_tally : Verdict → Tally → Tally
verdict_tally Passes t = t
verdict_tally Ignored t = t
verdict_tally (Refused peer c) t = record t { refusals = refusals_with causes.Secret t.refusals }
verdict_tally (Repeats request) t = t
verdict_tally (Decrypted bytes) t = t
verdict_tally (Answered answer) t = t

-- the counts after an item, where `route` is the route before it; after a route was closed nothing is counted
abbrev pub tally_after : Terms → (index : ℕ) → Item → Route → Tally → Tally
tally_after e index item route t =
    if route.is_closed then t
    else verdict_tally (judgement e index item route).verdict
    (item_tally e (heard_by e index item route) (advanced e (clock_after item route) route.sessions) t)

-- the counts after a part of an event, for all sessions that a table represents
abbrev pub Tallies : (clock : ℕ) → (Terms → List Session → Tally → Tally) → Table → (old new : Ledger) → Type 0
Tallies clock later table old new =
    (e : Terms) (index : ℕ) (sessions : List Session) → IsTable e index clock table sessions → tally_of new ≡ later e sessions (tally_of old)
