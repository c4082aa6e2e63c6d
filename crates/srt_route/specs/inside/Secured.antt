-- The effect of keys on the third step of an event, for all sessions and keys that a route's table and keys represent.
use Rattle.std.specs.Prelude.{◌≡◌, ℕ, ◌<◌, true, Option, None, Some, Ok, List, map, find, nat_lt, if◌then◌else◌, ⊤}
use Rattle.srt_types.specs.declared.shared.Peer.{Peer}
use Rattle.srt_types.specs.Terms.{Terms}
use Rattle.srt_types.specs.Items.{Datagram, Item}
use Rattle.srt_packet.specs.Grammar.{Packet}
use Rattle.srt_packet.specs.declared.key_packet.KeyPacketRef.{KeyPacketRef}
use Rattle.srt_packet.specs.Reading.{packet_in}
use Rattle.srt_route.specs.declared.arrival.Arrival.{Arrival}
use Rattle.srt_route.specs.declared.conclusion_reading.Conclusion.{Conclusion}
use Rattle.srt_route.specs.declared.key_refresh.KeyResponse.{KeyResponse}
use Rattle.srt_route.specs.declared.ledger.Ledger.{Ledger}
use Rattle.srt_route.specs.declared.reply_queue.ReplyQueue.{ReplyQueue}
use Rattle.srt_route.specs.declared.route_keys.RouteKeys.{RouteKeys as TheRouteKeys}
use Rattle.srt_route.specs.declared.replies.Reply.{Reply as TheReply}
use Rattle.srt_route.specs.declared.slot_keys.KeyVerdict.{KeyVerdict}
use Rattle.srt_route.specs.declared.slot_keys.KeyVerdict.TheVariants.{TooMany, WrongSecret, Opened}
use Rattle.srt_route.specs.declared.seat.Session.{Session as TheSession}
use Rattle.srt_route.specs.declared.secured.Verdict.{Verdict as TheVerdict}
use Rattle.srt_route.specs.declared.secured.Verdict.TheVariants as code
use Rattle.srt_route.specs.declared.table.Table.{Table}
use Rattle.srt_route.specs.RouteKeys.{Brought, RouteKeys, SlotKeys, Clear, brought_in, cookie_in, has_secured_role, passphrase_of, request_of}
use Rattle.srt_route.specs.Sessions.{Session, answer_of, is_open_in}
use Rattle.srt_route.specs.Route.{Answers, Judged, Reply, Taken, Verdict, Passes, Ignored, Refused, Repeats, Decrypted, Answered, answers_as, asked, concluded}
use Rattle.srt_route.specs.Route.{conclusion_judged}
use Rattle.srt_route.specs.Route.{Responds, decision}
use Rattle.srt_session_keys.specs.Publisher.{response_to}
use Rattle.srt_route.specs.KeyRefresh.{Confirmation}
use Rattle.srt_route.specs.Route.{confirmed_for, keys_confirmed}
use Rattle.srt_route.specs.Route.{heard_as, info_judged, is_of, item_judged, judged, kept_at, keys_kept, nothing_taken, packet_judged}
use Rattle.srt_route.specs.Route.{read_judged, read_taken}
use Rattle.srt_route.specs.Route.{reply_with, sent, taken, taken_as}
use Rattle.srt_route.specs.StoredKeys.{AreKeys}
use Rattle.srt_route.specs.Written.{written}
use Rattle.srt_route.specs.Tables.{IsTable, IsTaken}
use Rattle.srt_route.specs.Ends.{Ending, EndsAre, item_ending, kept_of, read_ending}
use Rattle.srt_route.specs.Tallies.{Tally, conclusion_tally, item_tally, read_tally, tally_of, verdict_tally}
use Rattle.srt_route.specs.inside.Reports.{Queues}

-- the verdict that a value of the code represents, on a conclusion of this caller, where slots have these keys
abbrev pub verdict_in : Peer → Conclusion → (held : ℕ → SlotKeys) → TheVerdict → Verdict
verdict_in peer c held code.Passes = Passes
verdict_in peer c held code.Ignored = Ignored
verdict_in peer c held code.Refused = Refused peer c
verdict_in peer c held (code.Repeats slot) = Repeats (request_of (held slot))

-- a verdict of the code, and the stored keys after it, are those of the definition
pub record IsJudged (e : Terms) (peer : Peer) (c : Conclusion) (verdict : TheVerdict) (new : TheRouteKeys) (j : Judged) : Type 0 where
  pub verdict_is : j.verdict ≡ verdict_in peer c j.keys.held verdict
  pub keys_are : AreKeys e new j.keys

-- a conclusion of a caller without an open session, for a secured role
abbrev pub JudgesFirst : Arrival → (cookie : ℕ) → Conclusion → Brought → Table → (old new : TheRouteKeys) → TheVerdict → Type 0
JudgesFirst arrival cookie c b table old new verdict =
    (e : Terms) (index : ℕ) (sessions : List Session) (keys : RouteKeys) (passphrase : List ℕ)
    → IsTable e index arrival.clock table sessions → AreKeys e old keys → passphrase_of e c.role ≡ Some passphrase
    → IsJudged e arrival.peer c verdict new
    (asked passphrase b index arrival.clock arrival.peer cookie c sessions keys (decision e arrival.peer c sessions))

-- a conclusion
abbrev pub JudgesConclusion : Arrival → (info : List ℕ) → Conclusion → Table → (old new : TheRouteKeys) → TheVerdict → Type 0
JudgesConclusion arrival info c table old new verdict =
    (e : Terms) (index : ℕ) (sessions : List Session) (keys : RouteKeys)
    → IsTable e index arrival.clock table sessions → AreKeys e old keys
    → IsJudged e arrival.peer c verdict new (info_judged e index arrival.clock arrival.peer info sessions keys (Some c))

-- the session whose answer is repeated: the caller's open one, or the one that opens
abbrev pub IsRepeated : Terms → Peer → Conclusion → List Session → (slot : ℕ) → Option Session → Type 0
IsRepeated e peer c sessions slot None = decision e peer c sessions ≡ Ok slot
IsRepeated e peer c sessions slot (Some s) = find (is_open_in slot) sessions ≡ Some s

abbrev pub RepeatsIn : Terms → Peer → Conclusion → List Session → TheVerdict → Option Session → Type 0
RepeatsIn e peer c sessions code.Passes o = ⊤
RepeatsIn e peer c sessions code.Ignored o = ⊤
RepeatsIn e peer c sessions code.Refused o = ⊤
RepeatsIn e peer c sessions (code.Repeats slot) o = IsRepeated e peer c sessions slot o

abbrev pub RepeatsOf : Arrival → Conclusion → Table → TheVerdict → Type 0
RepeatsOf arrival c table verdict =
    (e : Terms) (index : ℕ) (sessions : List Session)
    → IsTable e index arrival.clock table sessions
    → RepeatsIn e arrival.peer c sessions verdict (find (is_of arrival.peer c.caller) sessions)

-- the same of a caller without an open session
abbrev pub RepeatsFirst : Arrival → Conclusion → Table → TheVerdict → Type 0
RepeatsFirst arrival c table verdict =
    (e : Terms) (index : ℕ) (sessions : List Session)
    → IsTable e index arrival.clock table sessions → RepeatsIn e arrival.peer c sessions verdict None

-- the verdict on a conclusion of which a session would open in this slot
abbrev pub verdict_with : KeyVerdict → (slot : ℕ) → TheVerdict
verdict_with TooMany slot = code.Ignored
verdict_with WrongSecret slot = code.Refused
verdict_with Opened slot = code.Repeats slot

-- a conclusion for a secured role
abbrev pub JudgesSecured : Arrival → (info : List ℕ) → Conclusion → Table → (old new : TheRouteKeys) → TheVerdict → Type 0
JudgesSecured arrival info c table old new verdict =
    (e : Terms) (index : ℕ) (sessions : List Session) (keys : RouteKeys) (passphrase : List ℕ)
    → IsTable e index arrival.clock table sessions → AreKeys e old keys → passphrase_of e c.role ≡ Some passphrase
    → IsJudged e arrival.peer c verdict new
    (conclusion_judged (Some passphrase) (brought_in info) e index arrival.clock arrival.peer (cookie_in info) c sessions keys
    (find (is_of arrival.peer c.caller) sessions))

-- a repeated answer is of a slot
abbrev pub IsInside : (places : ℕ) → TheVerdict → Type 0
IsInside places code.Passes = ⊤
IsInside places code.Ignored = ⊤
IsInside places code.Refused = ⊤
IsInside places (code.Repeats slot) = slot < places

-- the answer stays as the sessions have it
abbrev pub IsPlain : TheVerdict → Type 0
IsPlain code.Passes = ⊤
IsPlain code.Ignored = ⊤
IsPlain code.Refused = ⊤
IsPlain (code.Repeats slot) = ⊥

-- what the sessions make of an item after a verdict: if it is a tick to them, nothing
abbrev pub heard_taken : Verdict → List Session → Taken → Taken
heard_taken Passes sessions t = t
heard_taken Ignored sessions t = nothing_taken sessions
heard_taken (Refused peer c) sessions t = nothing_taken sessions
heard_taken (Repeats request) sessions t = t
heard_taken (Decrypted bytes) sessions t = t
heard_taken (Answered answer) sessions t = t

-- counts after a verdict, from those before and after what the sessions make of the item
abbrev pub heard_tally : Verdict → (before after : Tally) → Tally
heard_tally Passes before after = after
heard_tally Ignored before after = before
heard_tally (Refused peer c) before after = before
heard_tally (Repeats request) before after = after
heard_tally (Decrypted bytes) before after = after
heard_tally (Answered answer) before after = after

-- how sessions end by an item after a verdict
abbrev pub none_ends : Ending
none_ends = record { cause = λ s. None; last = λ s. s }

abbrev pub heard_ending : Verdict → Ending → Ending
heard_ending Passes ending = ending
heard_ending Ignored ending = none_ends
heard_ending (Refused peer c) ending = none_ends
heard_ending (Repeats request) ending = ending
heard_ending (Decrypted bytes) ending = ending
heard_ending (Answered answer) ending = ending

-- a conclusion as judged, without the contents of a KMREQ block in its answer
abbrev pub ConcludesAs : TheVerdict → Arrival → Conclusion → (old new : Table) → List Datagram → Type 0
ConcludesAs verdict arrival c old new replies =
    (e : Terms) (index : ℕ) (sessions : List Session)
    → IsTable e index arrival.clock old sessions
    → let v = verdict_in arrival.peer c (λ slot. Clear) verdict in
    IsTaken e index arrival.clock new replies
    (taken_as v
    (heard_taken v sessions
    (concluded e index arrival.clock arrival.peer arrival.stamp c sessions (find (is_of arrival.peer c.caller) sessions))))

abbrev pub CountsAs : TheVerdict → Arrival → Conclusion → Table → (old new : Ledger) → Type 0
CountsAs verdict arrival c table old new =
    (e : Terms) (index : ℕ) (sessions : List Session)
    → IsTable e index arrival.clock table sessions
    → let v = verdict_in arrival.peer c (λ slot. Clear) verdict in
    tally_of new ≡ verdict_tally v (heard_tally v (tally_of old) (conclusion_tally e arrival.peer sessions (Some c) (tally_of old)))

-- the answer of a slot's session again, with the contents of its KMREQ block if it has keys
abbrev pub repeated : (request : Option (List ℕ)) → Reply → Reply
repeated None r = r
repeated (Some request) r = reply_with request r

abbrev pub RepeatsRequest : Table → TheRouteKeys → (slot : ℕ) → Peer → (old new : TheReply) → Type 0
RepeatsRequest table stored slot peer old new =
    (e : Terms) (index clock : ℕ) (sessions : List Session) (keys : RouteKeys) (s : Session)
    → IsTable e index clock table sessions → AreKeys e stored keys → has_secured_role e ≡ true → slot < e.sessions
    → find (is_open_in slot) sessions ≡ Some s
    → written old ≡ sent (record { peer = peer; packet = Answers s.conclusion.caller (answer_of e index s) })
    → written new ≡ sent (repeated (request_of (keys.held slot)) (record { peer = peer; packet = Answers s.conclusion.caller (answer_of e index s) }))

-- an item was processed with keys: `t`, `ending` and `later` are what the sessions make of it if it passes
pub record IsSecured (e : Terms) (index clock : ℕ) (sessions : List Session) (j : Judged) (t : Taken) (ending : Ending) (later : Tally → Tally)
    (table : Table) (keys : TheRouteKeys) (replies : List Datagram) (old new : Ledger) : Type 0 where
  pub table_is : IsTable e index clock table (heard_taken j.verdict sessions t).sessions
  pub replies_are : replies ≡ map sent (answers_as j.verdict (heard_taken j.verdict sessions t).answers)
  pub keys_are : AreKeys e keys j.keys
  pub ends : EndsAre e index (heard_ending j.verdict ending) clock sessions (kept_of old) (kept_of new)
  pub tally : tally_of new ≡ verdict_tally j.verdict (heard_tally j.verdict (tally_of old) (later (tally_of old)))

-- the bytes of a datagram as the sessions process them after a verdict
abbrev pub heard_bytes : Verdict → List ℕ → List ℕ
heard_bytes Passes bytes = bytes
heard_bytes Ignored bytes = bytes
heard_bytes (Refused peer c) bytes = bytes
heard_bytes (Repeats request) bytes = bytes
heard_bytes (Decrypted other) bytes = other
heard_bytes (Answered answer) bytes = bytes

-- a datagram with these bytes was processed so
abbrev pub IsHeard : Terms → (index clock : ℕ) → Peer → (bytes : List ℕ) → List Session → Judged → Table → TheRouteKeys → List Datagram
    → (old new : Ledger) → Type 0
IsHeard e index clock peer bytes sessions j table keys replies old new =
    let read = packet_in (heard_bytes j.verdict bytes) in
    IsSecured e index clock sessions j (read_taken e index clock peer read sessions) (read_ending e index clock peer read sessions)
    (read_tally e peer read sessions) table keys replies old new

-- a packet was processed so, whatever its bytes are: a KMREQ, if it has contents
abbrev pub SecuresRequest : Arrival → (request : Option (List ℕ)) → Packet → (old new : Table) → (before after : TheRouteKeys) → List Datagram
    → (earlier later : Ledger) → Type 0
SecuresRequest arrival request packet old new before after replies earlier later =
    (e : Terms) (index : ℕ) (sessions : List Session) (keys : RouteKeys) (bytes : List ℕ)
    → IsTable e index arrival.clock old sessions → AreKeys e before keys → has_secured_role e ≡ true → packet_in bytes ≡ Ok packet
    → IsHeard e index arrival.clock arrival.peer bytes sessions (packet_judged e index arrival.clock arrival.peer request packet bytes sessions keys) new
    after replies earlier later

-- the same of one that is no KMREQ, and of a datagram with these bytes
abbrev pub SecuresPacket : Arrival → Packet → (old new : Table) → (before after : TheRouteKeys) → List Datagram → (earlier later : Ledger) → Type 0
SecuresPacket arrival packet old new before after replies earlier later =
    SecuresRequest arrival None packet old new before after replies earlier later

-- a KMRSP of the code, to a KMREQ with these contents
abbrev pub response_of : KeyResponse → (contents : List ℕ) → Reply
response_of r contents = record { peer = r.peer; packet = Responds r.caller r.time (response_to r.answer contents) }

-- what a KMREQ is answered, if it is for a session that answers it
abbrev pub IsAnswered : Terms → RouteKeys → (asked plain : Judged) → TheRouteKeys → (contents : List ℕ) → Option KeyResponse → Type 0
IsAnswered e keys asked plain new contents None = (asked ≡ plain) × AreKeys e new keys
IsAnswered e keys asked plain new contents (Some r) = (asked.verdict ≡ Answered (response_of r contents)) × AreKeys e new asked.keys

abbrev pub AnswersRequest : Arrival → (contents : List ℕ) → Packet → Table → (before after : TheRouteKeys) → Option KeyResponse → Type 0
AnswersRequest arrival contents packet table before after response =
    (e : Terms) (index : ℕ) (sessions : List Session) (keys : RouteKeys) (bytes : List ℕ)
    → IsTable e index arrival.clock table sessions → AreKeys e before keys → has_secured_role e ≡ true
    → let judged_with = λ (request : Option (List ℕ)). packet_judged e index arrival.clock arrival.peer request packet bytes sessions keys in
    IsAnswered e keys (judged_with (Some contents)) (judged_with None) after contents response

abbrev pub SecuresDatagram : (clock : ℕ) → Peer → (bytes : List ℕ) → (old new : Table) → (before after : TheRouteKeys) → List Datagram
    → (earlier later : Ledger) → Type 0
SecuresDatagram clock peer bytes old new before after replies earlier later =
    (e : Terms) (index : ℕ) (sessions : List Session) (keys : RouteKeys)
    → IsTable e index clock old sessions → AreKeys e before keys → has_secured_role e ≡ true
    → IsHeard e index clock peer bytes sessions (read_judged e index clock peer (packet_in bytes) bytes sessions keys) new after replies earlier later

-- the keys of a slot with this stored session
abbrev pub kept_stored : Option TheSession → SlotKeys → SlotKeys
kept_stored None keys = Clear
kept_stored (Some t) keys = keys

-- the keys of the open sessions, where those of the first slots were looked at
abbrev pub kept_to : (at : ℕ) → List Session → RouteKeys → RouteKeys
kept_to at sessions keys =
    record keys { held = λ slot. if nat_lt slot at then kept_at (find (is_open_in slot) sessions) (keys.held slot) else keys.held slot }

-- the stored keys are those of the open sessions
abbrev pub KeepsOpen : Table → (before after : TheRouteKeys) → Type 0
KeepsOpen table before after =
    (e : Terms) (index clock : ℕ) (sessions : List Session) (keys : RouteKeys)
    → IsTable e index clock table sessions → AreKeys e before keys → AreKeys e after (keys_kept sessions keys)

-- what a KMRSP of the code confirms
abbrev pub confirmation_of : KeyPacketRef → Confirmation
confirmation_of p = record { dest = p.dest; contents = p.info.now }

-- the stored keys are those after what a datagram of this sender confirms, and those after what an item confirms
abbrev pub ConfirmsFor : Peer → Option Confirmation → Table → (before after : TheRouteKeys) → Type 0
ConfirmsFor peer c table before after =
    (e : Terms) (index clock : ℕ) (sessions : List Session) (keys : RouteKeys)
    → IsTable e index clock table sessions → AreKeys e before keys → has_secured_role e ≡ true
    → AreKeys e after (confirmed_for index peer c sessions keys)

abbrev pub Confirms : Item → Table → (before after : TheRouteKeys) → Type 0
Confirms item table before after =
    (e : Terms) (index clock : ℕ) (sessions : List Session) (keys : RouteKeys)
    → IsTable e index clock table sessions → AreKeys e before keys → has_secured_role e ≡ true
    → AreKeys e after (keys_confirmed index item sessions keys)

-- the third step of an event
pub record IsDispatched (e : Terms) (index clock : ℕ) (sessions : List Session) (item : Item) (j : Judged) (table : Table) (keys : TheRouteKeys)
    (before after : ReplyQueue) (old new : Ledger) : Type 0 where
  pub table_is : IsTable e index clock table (taken e index clock (heard_as j.verdict item) sessions).sessions
  pub said : Queues before after (map sent (answers_as j.verdict (taken e index clock (heard_as j.verdict item) sessions).answers))
  pub keys_are : AreKeys e keys j.keys
  pub ends : EndsAre e index (item_ending e index clock (heard_as j.verdict item) sessions) clock sessions (kept_of old) (kept_of new)
  pub tally : tally_of new ≡ verdict_tally j.verdict (item_tally e (heard_as j.verdict item) sessions (tally_of old))

abbrev pub Dispatches : (clock : ℕ) → Item → (old new : Table) → (before after : TheRouteKeys) → (queue later : ReplyQueue) → (earlier last : Ledger) → Type 0
Dispatches clock item old new before after queue later earlier last =
    (e : Terms) (index : ℕ) (sessions : List Session) (keys : RouteKeys)
    → IsTable e index clock old sessions → AreKeys e before keys
    → IsDispatched e index clock sessions item (judged e index clock item sessions keys) new after queue later earlier last

-- the same on a route with a secured role, whose stored keys are those of the open sessions
abbrev pub DispatchesWithKeys : (clock : ℕ) → Item → (old new : Table) → (before after : TheRouteKeys) → (queue later : ReplyQueue)
    → (earlier last : Ledger) → Type 0
DispatchesWithKeys clock item old new before after queue later earlier last =
    (e : Terms) (index : ℕ) (sessions : List Session) (keys : RouteKeys)
    → IsTable e index clock old sessions → AreKeys e before keys → has_secured_role e ≡ true
    → IsDispatched e index clock sessions item (item_judged e index clock item sessions keys) new after queue later earlier last
