-- The effect of an event's calls on a route's table, for all sessions that it represents.
use Rattle.std.specs.Prelude.{◌≡◌, ℕ, ◌<◌, ◌≤◌, ◌^◌, true, None, Result, List, map, find}
use Rattle.srt_types.specs.declared.shared.Peer.{Peer}
use Rattle.srt_types.specs.Terms.{Terms}
use Rattle.srt_types.specs.Items.{Datagram, Item}
use Rattle.srt_packet.specs.Grammar.{Packet}
use Rattle.srt_packet.specs.Reading.{packet_in}
use Rattle.srt_route.specs.declared.refusals.RefusalCause.{RefusalCause}
use Rattle.srt_route.specs.declared.admission.Admission.{Admission}
use Rattle.srt_route.specs.declared.arrival.Arrival.{Arrival}
use Rattle.srt_route.specs.declared.conclusion_reading.Conclusion.{Conclusion}
use Rattle.srt_route.specs.declared.reply_queue.ReplyQueue.{ReplyQueue}
use Rattle.srt_route.specs.declared.table.Table.{Table}
use Rattle.srt_route.specs.Sessions.{Session, advanced, aged, is_open_in, marked_if, open_publishers, publishes, takes_over}
use Rattle.srt_route.specs.Route.{Reply, arrived, concluded, considered, decision, idle_notified, is_of, opens, packet_taken, read_taken, sent, taken}
use Rattle.srt_route.specs.Tables.{IsTable, IsTaken}
use Rattle.srt_route.specs.Admission.{admitted, agreement_of}
use Rattle.srt_route.specs.inside.Reports.{Queues}

-- the table represents `later` of its sessions afterwards
abbrev pub TableBecomes : (clock : ℕ) → (old new : Table) → (later : Terms → List Session → List Session) → Type 0
TableBecomes clock old new later =
    (e : Terms) (index : ℕ) (sessions : List Session)
    → IsTable e index clock old sessions → IsTable e index clock new (later e sessions)

-- these packets are queued
abbrev pub Transmits : (clock : ℕ) → Table → (before after : ReplyQueue) → (packets : Terms → List Session → List Reply) → Type 0
Transmits clock table before after packets =
    (e : Terms) (index : ℕ) (sessions : List Session)
    → IsTable e index clock table sessions → Queues before after (map sent (packets e sessions))

-- step 2: the sessions' time advances to this clock
abbrev pub AgesTo : (clock : ℕ) → (old new : Table) → Type 0
AgesTo clock old new =
    (e : Terms) (index before : ℕ) (sessions : List Session)
    → IsTable e index before old sessions → before ≤ clock → clock < 2 ^ 62 → IsTable e index clock new (map (aged e clock) sessions)

-- step 2: the SHUTDOWNs of the sessions that end by silence are queued
abbrev pub TellsIdle : (clock : ℕ) → Table → (before after : ReplyQueue) → Type 0
TellsIdle clock table before after =
    (e : Terms) (index earlier : ℕ) (sessions : List Session)
    → IsTable e index earlier table sessions → Queues before after (map sent (idle_notified e clock sessions))

-- the same with a take-over, if it is due
abbrev pub AgesAndLeads : (clock : ℕ) → (old new : Table) → Type 0
AgesAndLeads clock old new =
    (e : Terms) (index before : ℕ) (sessions : List Session)
    → IsTable e index before old sessions → before ≤ clock → clock < 2 ^ 62
    → IsTable e index clock new (marked_if (takes_over e clock (map (aged e clock) sessions)) (map (aged e clock) sessions))

-- step 2 with a take-over, and the record of a publisher's end
abbrev pub AdvancesTo : (clock : ℕ) → (old new : Table) → Type 0
AdvancesTo clock old new =
    (e : Terms) (index before : ℕ) (sessions : List Session)
    → IsTable e index before old sessions → before ≤ clock → clock < 2 ^ 62 → IsTable e index clock new (advanced e clock sessions)

-- step 3: an item is processed
abbrev pub TakesItem : (clock : ℕ) → Item → (old new : Table) → Type 0
TakesItem clock item old new =
    (e : Terms) (index : ℕ) (sessions : List Session)
    → IsTable e index clock old sessions → IsTable e index clock new (taken e index clock item sessions).sessions

-- step 3: the replies to the item are queued
abbrev pub AnswersItem : (clock : ℕ) → Item → Table → (before after : ReplyQueue) → Type 0
AnswersItem clock item old before after =
    (e : Terms) (index : ℕ) (sessions : List Session)
    → IsTable e index clock old sessions → Queues before after (map sent (taken e index clock item sessions).answers)

-- a datagram with these bytes is processed, and `replies` answer it
abbrev pub TakesDatagram : (clock : ℕ) → Peer → (bytes : List ℕ) → (old new : Table) → List Datagram → Type 0
TakesDatagram clock peer bytes old new replies =
    (e : Terms) (index : ℕ) (sessions : List Session)
    → IsTable e index clock old sessions
    → IsTaken e index clock new replies (read_taken e index clock peer (packet_in bytes) sessions)

-- a packet is processed
abbrev pub TakesPacket : Arrival → Packet → (old new : Table) → Type 0
TakesPacket arrival packet old new =
    (e : Terms) (index : ℕ) (sessions : List Session)
    → IsTable e index arrival.clock old sessions
    → IsTable e index arrival.clock new (packet_taken e index arrival.clock arrival.peer packet sessions).sessions

-- `replies` answer a packet
abbrev pub AnswersPacket : Arrival → Packet → Table → List Datagram → Type 0
AnswersPacket arrival packet old replies =
    (e : Terms) (index : ℕ) (sessions : List Session)
    → IsTable e index arrival.clock old sessions
    → replies ≡ map sent (packet_taken e index arrival.clock arrival.peer packet sessions).answers

-- a packet with a destination is processed by the open session with that ID, if there is one
abbrev pub TakenBySession : Arrival → Packet → (old new : Table) → List Datagram → Type 0
TakenBySession arrival packet old new replies =
    (e : Terms) (index : ℕ) (sessions : List Session)
    → IsTable e index arrival.clock old sessions
    → IsTaken e index arrival.clock new replies (arrived e index arrival.clock arrival.peer packet sessions)

-- a conclusion is answered: by the same answer again, by a session that opens, or by a refusal
abbrev pub TakesConclusion : Arrival → Conclusion → (old new : Table) → List Datagram → Type 0
TakesConclusion arrival c old new replies =
    (e : Terms) (index : ℕ) (sessions : List Session)
    → IsTable e index arrival.clock old sessions
    → IsTaken e index arrival.clock new replies
    (concluded e index arrival.clock arrival.peer arrival.stamp c sessions (find (is_of arrival.peer c.caller) sessions))

-- the same of a caller without an open session
abbrev pub TakesFirst : Arrival → Conclusion → (old new : Table) → List Datagram → Type 0
TakesFirst arrival c old new replies =
    (e : Terms) (index : ℕ) (sessions : List Session)
    → IsTable e index arrival.clock old sessions
    → find (is_of arrival.peer c.caller) sessions ≡ None
    → IsTaken e index arrival.clock new replies
    (considered e index arrival.clock arrival.peer arrival.stamp c sessions (decision e arrival.peer c sessions))

-- the slot and the agreement with which such a conclusion is admitted, or the cause to refuse it
abbrev pub Admits : Table → Peer → Conclusion → Result Admission RefusalCause → Type 0
Admits table peer c answer =
    (e : Terms) (index clock : ℕ) (sessions : List Session) → IsTable e index clock table sessions → answer ≡ admitted e peer sessions c

-- such a conclusion is admitted, and its session opens
abbrev pub OpensSession : Arrival → Conclusion → Admission → (old new : Table) → List Datagram → Type 0
OpensSession arrival c admission old new replies =
    (e : Terms) (index : ℕ) (sessions : List Session)
    → IsTable e index arrival.clock old sessions
    → admission.agreement ≡ agreement_of e c
    → find (is_of arrival.peer c.caller) sessions ≡ None
    → find (is_open_in admission.at) sessions ≡ None
    → (publishes c.role ≡ true → open_publishers sessions ≤ 1)
    → IsTaken e index arrival.clock new replies (opens e index arrival.clock arrival.peer arrival.stamp c sessions admission.at)
