-- A route as a function of all its items. Lists of items and of sessions have the newest first, lists of replies the
-- oldest.
use Rattle.std.specs.Prelude.{ℕ, ◌+◌, ◌-◌, ◌*◌, ◌%◌, ◌^◌, ◌≤◌, Bool, true, false, Option, None, Some, Result, Ok, Err, List, [], ◌∷◌, ◌++◌}
use Rattle.std.specs.Prelude.{length, map, fold, max, find, not, nat_lt, nat_le, ◌==◌, ◌&&◌, ◌||◌, if◌then◌else◌}
use Rattle.std.specs.List.{flat_map}
use Rattle.srt_types.specs.declared.shared.Peer.{Peer}
use Rattle.srt_types.specs.declared.shared.Mode.{Mode}
use Rattle.srt_types.specs.declared.shared.Mode.TheVariants.{Live, Buffer}
use Rattle.srt_types.specs.declared.shared.Callers.{Callers}
use Rattle.srt_types.specs.declared.shared.Callers.TheVariants.{Draft, Libsrt}
use Rattle.srt_types.specs.declared.shared.Role.{Role}
use Rattle.srt_types.specs.declared.shared.Role.TheVariants.{Request}
use Rattle.srt_types.specs.Terms.{Terms}
use Rattle.srt_types.specs.Items.{Datagram, Item, Received, Tick, Close, moment_of}
use Rattle.srt_packet.specs.KeyPacket.{key_packet_text}
use Rattle.srt_packet.specs.declared.key_packet.KeyPacketKind.TheVariants as messages
use Rattle.srt_session_keys.specs.Publisher.{response_to}
use Rattle.srt_session_keys.specs.Subscriber.{Subscriber as Keys}
use Rattle.srt_session_keys.specs.declared.publisher.KeyAnswer.{KeyAnswer}
use Rattle.srt_packet.specs.declared.reading.PacketFault.{PacketFault}
use Rattle.srt_packet.specs.declared.writing.Body.TheVariants as out
use Rattle.srt_packet.specs.Grammar.{Packet, Body, Handshake}
use Rattle.srt_packet.specs.Reading.{packet_in}
use Rattle.srt_packet.specs.Text.{text}
use Rattle.srt_hs.specs.declared.writing.HsAnswer.{HsAnswer}
use Rattle.srt_hs.specs.declared.writing.AnswerKind.TheVariants as answers
use Rattle.srt_hs.specs.declared.refusal_codes.RefusalCode.{RefusalCode}
use Rattle.srt_hs.specs.declared.refusal_codes.RefusalCode.TheVariants as codes
use Rattle.srt_route.specs.declared.refusals.RefusalCause.{RefusalCause}
use Rattle.srt_route.specs.declared.refusals.RefusalCause.TheVariants as causes
use Rattle.srt_hs.specs.Text.{answer_text, answer_with}
use Rattle.srt_route.specs.declared.conclusion_reading.Conclusion.{Conclusion}
use Rattle.srt_route.specs.Conclusions.{conclusion_in}
use Rattle.srt_route.specs.declared.slot_keys.KeyOpening.{KeyOpening}
use Rattle.srt_route.specs.declared.slot_keys.KeyVerdict.{KeyVerdict}
use Rattle.srt_route.specs.declared.slot_keys.KeyVerdict.TheVariants.{TooMany, WrongSecret, Opened}
use Rattle.srt_route.specs.RouteKeys.{Brought, KeysOpened, RouteKeys, SlotKeys, Clear, brought_in, cookie_in, first_keys, has_secured_role, opening}
use Rattle.srt_route.specs.RouteKeys.{OfPublisher, OfSubscriber, own_in, passphrase_of, request_of, secures, with_slot}
use Rattle.srt_route.specs.Decryption.{clear_bytes}
use Rattle.srt_route.specs.EncryptedOutput.{KeyedOutput, announcement_if, is_announced, keyed_text, keys_reported}
use Rattle.srt_route.specs.GivingUp.{given_up_if}
use Rattle.srt_route.specs.KeyRefresh.{answer_by, refreshed, request_in}
use Rattle.srt_route.specs.KeyRefresh.{Confirmation, confirmation_in, confirmed_by}
use Rattle.srt_route.specs.Past.{Past, Publishes, Subscribes}
use Rattle.srt_route.specs.Past.{Report, report_text, past_of, least_with, loses_window, publisher_end, has_all, has_left, is_shutdown}
use Rattle.srt_route.specs.Sessions.{Session, is_open_in, is_same_peer, id_of, session_id, answer_of, publishes, is_subscriber, open_publishers}
use Rattle.srt_route.specs.Sessions.{active, is_active, by_slot, free_slot, free_slots, sessions_from, generation_of, time_in, is_idle, terms_of}
use Rattle.srt_route.specs.Sessions.{advanced, took, answered_at_once, payloads}
use Rattle.srt_route.specs.Sessions.{of_libsrt, with_end, passed, outputs_at, reports_at, reported, is_draining, settled, speaks}

-- a route's state: the clock in microseconds, every session that was ever opened, whether the route was closed, and
-- what it has for its secured roles
pub record Route : Type 0 where
  pub clock : ℕ
  pub sessions : List Session
  pub is_closed : Bool
  pub keys : RouteKeys

abbrev pub opened : Route
opened = record { clock = 0; sessions = []; is_closed = false; keys = first_keys }

-- a route at this clock, before its time advances: the subscribers' sessions whose key isn't confirmed in time are given
-- up. Nothing changes if subscribers' sessions aren't encrypted, or if the route was closed
abbrev pub giving_up : Terms → (clock : ℕ) → Route → Route
giving_up e clock route =
    record route { sessions = given_up_if (secures e Request && not route.is_closed) (own_in e route.keys) clock route.sessions }

-- what is sent to the socket with ID `caller`: the answer to its handshake, the same with the contents of a KMREQ block,
-- a report of a session with this initial number, the SHUTDOWN that ends a session, a KMRSP with these contents, or what a
-- subscriber's session with keys of its own sends; `time` is in microseconds since the session's opening
pub data Output : Type 0 where
  Answers : (caller : ℕ) (answer : HsAnswer) → Output
  AnswersWithKeys : (caller : ℕ) (request : List ℕ) (answer : HsAnswer) → Output
  Says : (caller initial time : ℕ) (report : Report) → Output
  Ends : (caller time : ℕ) → Output
  Responds : (caller time : ℕ) (contents : List ℕ) → Output
  SaysWithKeys : (output : KeyedOutput) → Output

pub record Reply : Type 0 where
  pub peer : Peer
  pub packet : Output

-- the bytes of an output; the timestamp of a handshake is 0 (our choice)
abbrev pub output_text : Output → List ℕ
output_text (Answers caller answer) = text (record { stamp = 0; dest = caller; body = out.Handshake (record { items = answer_text answer }) })
output_text (AnswersWithKeys caller request answer) =
    text (record { stamp = 0; dest = caller; body = out.Handshake (record { items = answer_with (Some request) answer }) })
output_text (Says caller initial time report) = report_text caller initial time report
output_text (Ends caller time) = text (record { stamp = time % 2 ^ 32; dest = caller; body = out.Shutdown })
output_text (Responds caller time contents) =
    key_packet_text (record { stamp = time % 2 ^ 32; dest = caller; kind = messages.Response; info = contents })
output_text (SaysWithKeys output) = keyed_text output

abbrev pub sent : Reply → Datagram
sent r = record { peer = r.peer; bytes = output_text r.packet }

-- the result of an item: the sessions after it, and the answers to it
pub record Taken : Type 0 where
  pub sessions : List Session
  pub answers : List Reply

abbrev pub nothing_taken : List Session → Taken
nothing_taken sessions = record { sessions = sessions; answers = [] }

-- a session's SHUTDOWN (section 3.2.7)
abbrev pub shutdown_to : (clock : ℕ) → Session → Reply
shutdown_to clock s = record { peer = s.peer; packet = Ends s.conclusion.caller (time_in s clock) }

-- on a route for libsrt callers, a session that ends by silence or by a lost window, or is given up, sends a SHUTDOWN (our
-- choice)
abbrev pub notified_if : Callers → (ends : Bool) → (clock : ℕ) → Session → List Reply
notified_if Draft ends clock s = []
notified_if Libsrt true clock s = shutdown_to clock s ∷ []
notified_if Libsrt false clock s = []

-- the SHUTDOWNs of the sessions that end by silence or are given up, in ascending order of slots
abbrev pub idle_notified : Terms → (clock : ℕ) → List Session → List Reply
idle_notified e clock sessions = flat_map (λ s. notified_if e.rules.callers (is_idle s clock) clock s) (by_slot e sessions)

-- the clock after an item; it never decreases (our choice)
abbrev pub clock_after : Item → Route → ℕ
clock_after item route = max route.clock (moment_of item)

abbrev pub answered : Peer → (caller : ℕ) → HsAnswer → List Reply
answered peer caller answer = record { peer = peer; packet = Answers caller answer } ∷ []

-- the answer that refuses a conclusion for this reason (section 4.3)
abbrev pub refusal : Conclusion → RefusalCode → HsAnswer
refusal c reason = record { initial = c.initial; what = answers.Refusal reason }

abbrev pub is_buffer : Mode → Bool
is_buffer Live = false
is_buffer Buffer = true

abbrev pub differ : Bool → Bool → Bool
differ true b = not b
differ false b = b

-- the code with which a conclusion is refused for this cause (section 4.3)
abbrev pub code_of : RefusalCause → RefusalCode
code_of causes.MessageApi = codes.MessageApi
code_of causes.Rogue = codes.Rogue
code_of causes.Peer = codes.Peer
code_of causes.Address = codes.Resource
code_of causes.Resource = codes.Resource
code_of causes.Reserved = codes.Resource
code_of causes.Secret = codes.BadSecret

-- the first cause to refuse a conclusion, free slots and limits aside; at most two publishers are open (our choice)
abbrev pub refused : Mode → (publishers : ℕ) → Conclusion → Option RefusalCause
refused mode publishers c =
    if differ c.wants_stream (is_buffer mode) then Some causes.MessageApi
    else if nat_lt c.mtu 76 || c.window == 0 || (not (publishes c.role) && is_buffer mode && nat_lt c.mtu 1500) then Some causes.Rogue
    else if publishes c.role && nat_le 2 publishers then Some causes.Peer else None

-- whether an address has as many open sessions as it may have, if the route has such a limit
abbrev pub is_crowded : (limit : Option ℕ) → (sessions : ℕ) → Bool
is_crowded None sessions = false
is_crowded (Some limit) sessions = nat_le limit sessions

-- whether all free slots are reserved for publishers that aren't open yet, and the caller isn't one
abbrev pub is_reserved : (reserved free publishers : ℕ) → Role → Bool
is_reserved reserved free publishers role = not (publishes role) && nat_le free (reserved - publishers)

-- the slot for a session, or the first cause to refuse it: one in the conclusion itself, the limit of its address, no
-- free slot, and then that the free slots are reserved for publishers (our choice)
abbrev pub decided : Option RefusalCause → (crowded : Bool) → (free : Option ℕ) → (reserved : Bool) → Result ℕ RefusalCause
decided (Some cause) crowded free reserved = Err cause
decided None true free reserved = Err causes.Address
decided None false None reserved = Err causes.Resource
decided None false (Some slot) true = Err causes.Reserved
decided None false (Some slot) false = Ok slot

abbrev pub decision : Terms → Peer → Conclusion → List Session → Result ℕ RefusalCause
decision e peer c sessions =
    decided (refused e.mode (open_publishers sessions) c) (is_crowded e.rules.sessions_per_address (sessions_from peer.ip sessions))
    (free_slot e sessions) (is_reserved e.rules.reserved (free_slots e sessions) (open_publishers sessions) c.role)

abbrev pub session_opened : (clock : ℕ) → Peer → (stamp : ℕ) → Conclusion → (slot generation : ℕ) → Session
session_opened clock peer stamp c slot generation =
    record {
      slot = slot;
      generation = generation;
      peer = peer;
      stamp = stamp;
      conclusion = c;
      opening = clock;
      heard = clock;
      is_open = true;
      drains = None;
      took_over = false;
      file_ended = false;
      is_given_up = false;
      past = past_of c.role;
    }

abbrev pub with_session : Terms → (index : ℕ) → Session → List Session → Taken
with_session e index s sessions = record { sessions = s ∷ sessions; answers = answered s.peer s.conclusion.caller (answer_of e index s) }

-- the result of a conclusion whose session opens in the slot
abbrev pub opens : Terms → (index clock : ℕ) → Peer → (stamp : ℕ) → Conclusion → List Session → (slot : ℕ) → Taken
opens e index clock peer stamp c sessions slot = with_session e index (session_opened clock peer stamp c slot (generation_of sessions slot)) sessions

-- the result of a conclusion that is refused for a cause, or whose session opens in a slot
abbrev pub considered : Terms → (index clock : ℕ) → Peer → (stamp : ℕ) → Conclusion → List Session → Result ℕ RefusalCause → Taken
considered e index clock peer stamp c sessions (Err cause) = record { sessions = sessions; answers = answered peer c.caller (refusal c (code_of cause)) }
considered e index clock peer stamp c sessions (Ok slot) = opens e index clock peer stamp c sessions slot

-- whether this is an open session of this caller that doesn't drain
abbrev pub is_of : Peer → (caller : ℕ) → Session → Bool
is_of peer caller s = s.is_open && is_same_peer s.peer peer && s.conclusion.caller == caller && not (is_draining s)

abbrev pub heard_if : Bool → (clock : ℕ) → Session → Session
heard_if mine clock s = if mine then record s { heard = clock } else s

-- the result of a conclusion: a caller with an open session is sent the same bytes as before (section 4.3.1.2), any
-- other is admitted or refused
abbrev pub concluded : Terms → (index clock : ℕ) → Peer → (stamp : ℕ) → Conclusion → List Session → Option Session → Taken
concluded e index clock peer stamp c sessions (Some s) =
    record { sessions = map (λ t. heard_if (is_of peer c.caller t) clock t) sessions; answers = answered peer c.caller (answer_of e index s) }
concluded e index clock peer stamp c sessions None = considered e index clock peer stamp c sessions (decision e peer c sessions)

-- whether a packet belongs to a session: its destination is the session's ID, the session is open and doesn't drain,
-- and its peer is the sender (section 3)
abbrev pub is_for : (index : ℕ) → Peer → (dest : ℕ) → Session → Bool
is_for index peer dest s = s.is_open && is_same_peer s.peer peer && session_id index s == dest && not (is_draining s)

abbrev pub took_if : (drains : Option ℕ) → Bool → Terms → (clock : ℕ) → Packet → Session → Session
took_if drains mine e clock packet s = if mine then took drains e clock packet.stamp packet.body s else s

-- the reply with a session's report
abbrev pub said_by : (time : ℕ) → Session → Report → Reply
said_by time s report = record { peer = s.peer; packet = Says s.conclusion.caller s.conclusion.initial time report }

-- the SHUTDOWN of a session whose window is lost with a packet
abbrev pub lost_notified : Terms → (clock : ℕ) → Body → Session → List Reply
lost_notified e clock body s = notified_if e.rules.callers (loses_window (terms_of e s) s.conclusion.initial body s.past) clock s

abbrev pub answered_by : Terms → (clock : ℕ) → Body → Option Session → List Reply
answered_by e clock body None = []
answered_by e clock body (Some s) = lost_notified e clock body s ++ map (said_by (time_in s clock) s) (answered_at_once body s)

-- the time until which a publisher's session drains after a packet, if it drains. On a route for libsrt callers, the
-- active publisher's session drains from its SHUTDOWN on if something is left to deliver (our choice): for its delay
-- and five seconds, in buffer mode for five seconds
abbrev pub drain_if : Callers → (left : Bool) → (until : ℕ) → Option ℕ
drain_if Draft left until = None
drain_if Libsrt true until = Some until
drain_if Libsrt false until = None

abbrev pub drain_of : Terms → (clock : ℕ) → Body → (sessions : List Session) → Option Session → Option ℕ
drain_of e clock body sessions None = None
drain_of e clock body sessions (Some s) =
    drain_if e.rules.callers (is_shutdown body && is_active sessions s && has_left (terms_of e s) s.past)
    (clock + (terms_of e s).publisher.delay + 5_000_000)

-- whether a packet ended a publisher's session, and whether by its own SHUTDOWN; None where callers follow the draft
abbrev pub packet_end : (drains : Option ℕ) → Terms → Body → Option Session → Option Bool
packet_end (Some until) e body o = None
packet_end None e body None = None
packet_end None e body (Some s) = of_libsrt e.rules.callers (publisher_end (terms_of e s) s.conclusion.initial body s.past)

-- a session after a packet: the one that the packet is for processes it, and each records how a publisher's session
-- ended, if one did
abbrev pub took_packet : (drains : Option ℕ) → (end : Option Bool) → Terms → (index clock : ℕ) → Peer → Packet → Session → Session
took_packet drains end e index clock peer packet s = with_end end (took_if drains (is_for index peer packet.dest s) e clock packet s)

abbrev pub arrived : Terms → (index clock : ℕ) → Peer → Packet → List Session → Taken
arrived e index clock peer packet sessions =
    let s = find (is_for index peer packet.dest) sessions in
    let drains = drain_of e clock packet.body sessions s in
    record {
      sessions = map (took_packet drains (packet_end drains e packet.body s) e index clock peer packet) sessions;
      answers = answered_by e clock packet.body (find (is_for index peer packet.dest) sessions);
    }

-- the conclusion in a packet, if it is one
abbrev pub concludes : Body → Option Conclusion
concludes (Handshake info) = conclusion_in info
concludes _ = None

-- the result of a packet with destination 0: only a conclusion is accepted
abbrev pub without_destination : Terms → (index clock : ℕ) → Peer → (stamp : ℕ) → List Session → Option Conclusion → Taken
without_destination e index clock peer stamp sessions None = nothing_taken sessions
without_destination e index clock peer stamp sessions (Some c) = concluded e index clock peer stamp c sessions (find (is_of peer c.caller) sessions)

abbrev pub packet_taken : Terms → (index clock : ℕ) → Peer → Packet → List Session → Taken
packet_taken e index clock peer packet sessions =
    if packet.dest == 0
    then without_destination e index clock peer packet.stamp sessions (concludes packet.body)
    else arrived e index clock peer packet sessions

-- the result of a datagram: one that isn't a packet changes nothing
abbrev pub read_taken : Terms → (index clock : ℕ) → Peer → Result Packet PacketFault → List Session → Taken
read_taken e index clock peer (Ok packet) sessions = packet_taken e index clock peer packet sessions
read_taken e index clock peer (Err fault) sessions = nothing_taken sessions

-- the result of a Close: every open session ends with a SHUTDOWN, in ascending order of slots (section 3.2.7)
abbrev pub ended : Session → Session
ended s = record s { is_open = false }

abbrev pub closed : Terms → (clock : ℕ) → List Session → Taken
closed e clock sessions = record { sessions = map ended sessions; answers = map (shutdown_to clock) (by_slot e sessions) }

abbrev pub taken : Terms → (index clock : ℕ) → Item → List Session → Taken
taken e index clock (Received datagram moment) sessions = read_taken e index clock datagram.peer (packet_in datagram.bytes) sessions
taken e index clock (Tick moment) sessions = nothing_taken sessions
taken e index clock (Close moment) sessions = closed e clock sessions

-- what keys change about an item
pub data Verdict : Type 0 where
  -- nothing
  Passes : Verdict
  -- to the sessions it is a tick
  Ignored : Verdict
  -- the same, and the conclusion is refused since its keys can't be unwrapped
  Refused : (peer : Peer) (c : Conclusion) → Verdict
  -- its answer repeats the contents of the KMREQ block with which the session opened, if it has keys
  Repeats : (request : Option (List ℕ)) → Verdict
  -- the session that it is for processes these bytes in its place
  Decrypted : (bytes : List ℕ) → Verdict
  -- it is answered by this reply: a KMREQ, which no session answers by itself
  Answered : (answer : Reply) → Verdict

-- the same, with the route's keys after it
pub record Judged : Type 0 where
  pub verdict : Verdict
  pub keys : RouteKeys

abbrev pub as_before : RouteKeys → Judged
as_before keys = record { verdict = Passes; keys = keys }

-- the session that opens in a slot, of a caller with this cookie
abbrev pub key_opening : (index clock : ℕ) → Peer → (cookie : ℕ) → Role → (slot generation : ℕ) → KeyOpening
key_opening index clock peer cookie role slot generation =
    record { clock = clock; peer = peer; cookie = cookie; role = role; id = id_of index generation slot; slot = slot }

abbrev pub verdict_of : Peer → Conclusion → Brought → KeyVerdict → Verdict
verdict_of peer c b TooMany = Ignored
verdict_of peer c b WrongSecret = Refused peer c
verdict_of peer c b Opened = Repeats (Some b.contents)

abbrev pub judged_by : Peer → Conclusion → Brought → KeysOpened → Judged
judged_by peer c b o = record { verdict = verdict_of peer c b o.verdict; keys = o.keys }

-- a conclusion for a role with this passphrase, of a caller without an open session: keys are looked at where no other
-- cause refuses it
abbrev pub asked : (passphrase : List ℕ) → Brought → (index clock : ℕ) → Peer → (cookie : ℕ) → Conclusion → List Session → RouteKeys
    → Result ℕ RefusalCause → Judged
asked passphrase b index clock peer cookie c sessions keys (Err cause) = as_before keys
asked passphrase b index clock peer cookie c sessions keys (Ok slot) =
    judged_by peer c b (opening passphrase b (key_opening index clock peer cookie c.role slot (generation_of sessions slot)) keys)

-- a conclusion, by the passphrase of its role, the keys that it brings and the caller's open session. One for a secured
-- role that doesn't bring one message that reads is ignored
abbrev pub conclusion_judged : (passphrase : Option (List ℕ)) → Option Brought → Terms → (index clock : ℕ) → Peer → (cookie : ℕ) → Conclusion
    → List Session → RouteKeys → Option Session → Judged
conclusion_judged (Some passphrase) None e index clock peer cookie c sessions keys o = record { verdict = Ignored; keys = keys }
conclusion_judged (Some passphrase) (Some b) e index clock peer cookie c sessions keys (Some s) =
    record { verdict = Repeats (request_of (keys.held s.slot)); keys = keys }
conclusion_judged (Some passphrase) (Some b) e index clock peer cookie c sessions keys None =
    asked passphrase b index clock peer cookie c sessions keys (decision e peer c sessions)
conclusion_judged None b e index clock peer cookie c sessions keys (Some s) =
    record { verdict = Repeats (request_of (keys.held s.slot)); keys = keys }
conclusion_judged None b e index clock peer cookie c sessions keys None = as_before keys

abbrev pub info_judged : Terms → (index clock : ℕ) → Peer → (info : List ℕ) → List Session → RouteKeys → Option Conclusion → Judged
info_judged e index clock peer info sessions keys None = as_before keys
info_judged e index clock peer info sessions keys (Some c) =
    conclusion_judged (passphrase_of e c.role) (brought_in info) e index clock peer (cookie_in info) c sessions keys
    (find (is_of peer c.caller) sessions)

-- the bytes of a handshake, if a packet is one
abbrev pub info_of : Body → List ℕ
info_of (Handshake info) = info
info_of _ = []

-- a KMRSP to a session's peer (section 3.2.2)
abbrev pub responded : (clock : ℕ) → Session → (contents : List ℕ) → Reply
responded clock s contents = record { peer = s.peer; packet = Responds s.conclusion.caller (time_in s clock) contents }

-- a packet for a session, whose bytes are these
abbrev pub decrypted_judged : Packet → (bytes : List ℕ) → RouteKeys → Session → Judged
decrypted_judged packet bytes keys s = record { verdict = Decrypted (clear_bytes (keys.held s.slot) packet bytes); keys = keys }

-- a KMREQ with these contents for a session, which answers it so
abbrev pub answered_judged : Option KeyAnswer → (contents : List ℕ) → (clock : ℕ) → Packet → (bytes : List ℕ) → RouteKeys → Session → Judged
answered_judged None contents clock packet bytes keys s = decrypted_judged packet bytes keys s
answered_judged (Some answer) contents clock packet bytes keys s =
    record {
      verdict = Answered (responded clock s (response_to answer contents));
      keys = with_slot s.slot (refreshed contents (keys.held s.slot)) keys;
    }

-- a packet for a session: a KMREQ, if it has contents
abbrev pub destined_judged : (request : Option (List ℕ)) → (clock : ℕ) → Packet → (bytes : List ℕ) → RouteKeys → Session → Judged
destined_judged None clock packet bytes keys s = decrypted_judged packet bytes keys s
destined_judged (Some contents) clock packet bytes keys s =
    answered_judged (answer_by contents (keys.held s.slot)) contents clock packet bytes keys s

abbrev pub session_judged : (request : Option (List ℕ)) → (clock : ℕ) → Packet → (bytes : List ℕ) → RouteKeys → Option Session → Judged
session_judged request clock packet bytes keys None = as_before keys
session_judged request clock packet bytes keys (Some s) = destined_judged request clock packet bytes keys s

abbrev pub packet_judged : Terms → (index clock : ℕ) → Peer → (request : Option (List ℕ)) → Packet → (bytes : List ℕ) → List Session → RouteKeys
    → Judged
packet_judged e index clock peer request packet bytes sessions keys =
    if packet.dest == 0 then info_judged e index clock peer (info_of packet.body) sessions keys (concludes packet.body)
    else session_judged request clock packet bytes keys (find (is_for index peer packet.dest) sessions)

abbrev pub read_judged : Terms → (index clock : ℕ) → Peer → Result Packet PacketFault → (bytes : List ℕ) → List Session → RouteKeys → Judged
read_judged e index clock peer (Ok packet) bytes sessions keys = packet_judged e index clock peer (request_in bytes) packet bytes sessions keys
read_judged e index clock peer (Err fault) bytes sessions keys = as_before keys

abbrev pub item_judged : Terms → (index clock : ℕ) → Item → List Session → RouteKeys → Judged
item_judged e index clock (Received datagram moment) sessions keys =
    read_judged e index clock datagram.peer (packet_in datagram.bytes) datagram.bytes sessions keys
item_judged e index clock (Tick moment) sessions keys = as_before keys
item_judged e index clock (Close moment) sessions keys = as_before keys

-- the keys of the sessions that are open
abbrev pub kept_at : Option Session → SlotKeys → SlotKeys
kept_at None keys = Clear
kept_at (Some s) keys = keys

abbrev pub keys_kept : List Session → RouteKeys → RouteKeys
keys_kept sessions keys = record keys { held = λ slot. kept_at (find (is_open_in slot) sessions) (keys.held slot) }

-- the keys after a KMRSP with these contents for this session (section 3.2.2; our choice)
abbrev pub confirmed_at : (contents : List ℕ) → Option Session → RouteKeys → RouteKeys
confirmed_at contents None keys = keys
confirmed_at contents (Some s) keys = with_slot s.slot (confirmed_by contents (keys.held s.slot)) keys

abbrev pub confirmed_for : (index : ℕ) → Peer → Option Confirmation → List Session → RouteKeys → RouteKeys
confirmed_for index peer None sessions keys = keys
confirmed_for index peer (Some c) sessions keys = confirmed_at c.contents (find (is_for index peer c.dest) sessions) keys

-- the keys after what an item confirms
abbrev pub keys_confirmed : (index : ℕ) → Item → List Session → RouteKeys → RouteKeys
keys_confirmed index (Received datagram moment) sessions keys = confirmed_for index datagram.peer (confirmation_in datagram.bytes) sessions keys
keys_confirmed index (Tick moment) sessions keys = keys
keys_confirmed index (Close moment) sessions keys = keys

-- what keys change about an item; nothing if no role is secured
abbrev pub judged_if : (secured : Bool) → Terms → (index clock : ℕ) → Item → List Session → RouteKeys → Judged
judged_if false e index clock item sessions keys = as_before keys
judged_if true e index clock item sessions keys =
    item_judged e index clock item sessions (keys_confirmed index item sessions (keys_kept sessions keys))

abbrev pub judged : Terms → (index clock : ℕ) → Item → List Session → RouteKeys → Judged
judged e index clock item sessions keys = judged_if (has_secured_role e) e index clock item sessions keys

-- an item with other bytes, and the item as the sessions process it
abbrev pub with_bytes : (bytes : List ℕ) → Item → Item
with_bytes bytes (Received datagram moment) = Received (record { peer = datagram.peer; bytes = bytes }) moment
with_bytes bytes (Tick moment) = Tick moment
with_bytes bytes (Close moment) = Close moment

abbrev pub heard_as : Verdict → Item → Item
heard_as Passes item = item
heard_as Ignored item = Tick (moment_of item)
heard_as (Refused peer c) item = Tick (moment_of item)
heard_as (Repeats request) item = item
heard_as (Decrypted bytes) item = with_bytes bytes item
heard_as (Answered answer) item = item

-- an answer that repeats the contents of a KMREQ block (section 3.2.2)
abbrev pub output_with : (request : List ℕ) → Output → Output
output_with request (Answers caller answer) = AnswersWithKeys caller request answer
output_with request (AnswersWithKeys caller other answer) = AnswersWithKeys caller other answer
output_with request (Says caller initial time report) = Says caller initial time report
output_with request (Ends caller time) = Ends caller time
output_with request (Responds caller time contents) = Responds caller time contents
output_with request (SaysWithKeys output) = SaysWithKeys output

abbrev pub reply_with : (request : List ℕ) → Reply → Reply
reply_with request r = record { peer = r.peer; packet = output_with request r.packet }

-- the answers to an item, from those of the sessions
abbrev pub answers_as : Verdict → List Reply → List Reply
answers_as Passes answers = answers
answers_as Ignored answers = answers
answers_as (Refused peer c) answers = answered peer c.caller (refusal c codes.BadSecret)
answers_as (Repeats None) answers = answers
answers_as (Repeats (Some request)) answers = map (reply_with request) answers
answers_as (Decrypted bytes) answers = answers
answers_as (Answered answer) answers = answer ∷ []

abbrev pub taken_as : Verdict → Taken → Taken
taken_as verdict t = record { sessions = t.sessions; answers = answers_as verdict t.answers }

-- the smallest room of the open subscribers, in payloads; None if none is open
abbrev pub least_room : Terms → List Session → Option ℕ
least_room e sessions = fold (λ found s. least_with e.buffer found s.past) None (by_slot e sessions)

-- the payloads that subscribers are fed: those that the active publisher delivers (section 4.5)
abbrev pub delivery_of : Terms → (clock : ℕ) → (room : Option ℕ) → Option Session → List (List ℕ)
delivery_of e clock room None = []
delivery_of e clock room (Some s) = payloads e clock room s

abbrev pub delivery : Terms → (clock : ℕ) → (room : Option ℕ) → List Session → List (List ℕ)
delivery e clock room sessions = delivery_of e clock room (active sessions)

-- the room with which a publisher delivers. A standby has no subscribers: in live mode it delivers what is due, to
-- nobody, and in buffer mode it delivers nothing (our choice)
abbrev pub room_if : (is_active : Bool) → (room : Option ℕ) → Option ℕ
room_if true room = room
room_if false room = None

-- whether any payload is delivered
abbrev pub is_some_payload : List (List ℕ) → Bool
is_some_payload [] = false
is_some_payload (x ∷ xs) = true

-- the sessions after a delivery: each publisher delivered, and each open subscriber was fed the active one's payloads
abbrev pub delivered : Terms → (clock : ℕ) → List Session → List Session
delivered e clock sessions =
    let room = least_room e sessions in
    let fed = delivery e clock room sessions in
    map (λ s. passed e clock (room_if (is_active sessions s) room) fed s) sessions

-- how a draining publisher's session ended, from the number of open publishers before and after: a draining session
-- that has nothing left ends by its own SHUTDOWN
abbrev pub drain_end : (before after : ℕ) → Option Bool
drain_end before after = if nat_lt after before then Some true else None

abbrev pub settled_by : Callers → Terms → (clock : ℕ) → (delivered : Bool) → List Session → List Session
settled_by Draft e clock given sessions = sessions
settled_by Libsrt e clock given sessions =
    let later = map (settled e given clock) sessions in
    map (with_end (drain_end (open_publishers sessions) (open_publishers later))) later

-- whether the active publisher delivers something
abbrev pub gives_some : Terms → (clock : ℕ) → List Session → Bool
gives_some e clock sessions = is_some_payload (delivery e clock (least_room e sessions) sessions)

abbrev pub after_delivery : Terms → (clock : ℕ) → List Session → List Session
after_delivery e clock sessions = settled_by e.rules.callers e clock (gives_some e clock sessions) (delivered e clock sessions)

-- the packets that sessions send at the end of an event, in ascending order of slots
abbrev pub packets_at : Terms → (here : Bool) → (clock : ℕ) → Session → List Reply
packets_at e here clock s = map (said_by (time_in s clock) s) (reports_at e here clock s)

abbrev pub packets_where : Terms → (clock : ℕ) → (Session → Bool) → List Session → List Reply
packets_where e clock test sessions = flat_map (λ s. packets_at e (test s) clock s) (by_slot e sessions)

-- whether a route signals the end of a file: on a route for libsrt callers in buffer mode, where a file is complete
-- once no publisher is open
abbrev pub sends_files : Callers → Mode → Bool
sends_files Draft mode = false
sends_files Libsrt Live = false
sends_files Libsrt Buffer = true

abbrev pub is_file_over : Terms → List Session → Bool
is_file_over e sessions = sends_files e.rules.callers e.mode && open_publishers sessions == 0

-- whether a subscriber has the whole file: it was open when the last publisher's session ended by its own SHUTDOWN, and
-- it has acknowledged everything that was queued
abbrev pub has_whole_file : (over : Bool) → Session → Bool
has_whole_file over s = over && is_subscriber s && s.file_ended && has_all s.past

-- the reply with what a session with keys of its own sends
abbrev pub keyed_by : Session → KeyedOutput → Reply
keyed_by s output = record { peer = s.peer; packet = SaysWithKeys output }

abbrev pub keyed_packets_at : Keys → Terms → (here : Bool) → (clock : ℕ) → Session → List Reply
keyed_packets_at keys e here clock s = map (keyed_by s) (outputs_at keys e here clock s)

-- the KMREQ of a subscriber's next key, if that is due at the end of an event
abbrev pub announced_past : Keys → (caller time : ℕ) → Past → List KeyedOutput
announced_past keys caller time (Publishes p) = []
announced_past keys caller time (Subscribes s) = announcement_if (is_announced keys time s) (keys_reported time s keys) caller time

abbrev pub announced_to : (keys : Option Keys) → (clock : ℕ) → Session → List Reply
announced_to None clock s = []
announced_to (Some keys) clock s = map (keyed_by s) (announced_past keys s.conclusion.caller (time_in s clock) s.past)

-- the packets of a session in step 6: a subscriber that has the whole file is sent a SHUTDOWN in place of a KEEPALIVE, and
-- before it the KMREQ of its next key, if that is due; nothing else is. The others are sent their packets, under keys of
-- their own if they have some
abbrev pub served_at : (whole : Bool) → (keys : Option Keys) → Terms → (clock : ℕ) → Session → List Reply
served_at true keys e clock s = announced_to keys clock s ++ shutdown_to clock s ∷ []
served_at false None e clock s = packets_at e (is_subscriber s) clock s
served_at false (Some keys) e clock s = keyed_packets_at keys e (is_subscriber s) clock s

abbrev pub served : (own : ℕ → Option Keys) → Terms → (clock : ℕ) → (over : Bool) → List Session → List Reply
served own e clock over sessions = flat_map (λ s. served_at (has_whole_file over s) (own s.slot) e clock s) (by_slot e sessions)

-- a session after step 6: one that has the whole file ends
abbrev pub finished_at : (whole : Bool) → (keys : Option Keys) → Terms → (clock : ℕ) → Session → Session
finished_at true keys e clock s = ended s
finished_at false keys e clock s = reported keys e clock s

abbrev pub finished : (own : ℕ → Option Keys) → Terms → (clock : ℕ) → (over : Bool) → Session → Session
finished own e clock over s = finished_at (has_whole_file over s) (own s.slot) e clock s

-- a session's keys after step 6: the next one of a subscriber's own is announced, if that is due
abbrev pub keys_said : (time : ℕ) → Past → SlotKeys → SlotKeys
keys_said time (Publishes p) keys = keys
keys_said time (Subscribes s) Clear = Clear
keys_said time (Subscribes s) (OfPublisher request keys) = OfPublisher request keys
keys_said time (Subscribes s) (OfSubscriber request keys) = OfSubscriber request (keys_reported time s keys)

abbrev pub keys_in_slot : (clock : ℕ) → Option Session → SlotKeys → SlotKeys
keys_in_slot clock None keys = keys
keys_in_slot clock (Some s) keys = keys_said (time_in s clock) s.past keys

-- a route's keys after step 6; the same if subscribers' sessions aren't encrypted
abbrev pub keys_finished_if : (secured : Bool) → (clock : ℕ) → List Session → RouteKeys → RouteKeys
keys_finished_if true clock sessions keys = record keys { held = λ slot. keys_in_slot clock (find (is_open_in slot) sessions) (keys.held slot) }
keys_finished_if false clock sessions keys = keys

abbrev pub keys_finished : Terms → (clock : ℕ) → List Session → RouteKeys → RouteKeys
keys_finished e clock sessions keys = keys_finished_if (secures e Request) clock sessions keys

-- the result of an item, on a route that wasn't closed: first the clock and the sessions' time advance, then the item
-- is processed as the route's keys have it (our choice)
abbrev pub judgement : Terms → (index : ℕ) → Item → Route → Judged
judgement e index item route = let clock = clock_after item route in judged e index clock item (advanced e clock route.sessions) route.keys

abbrev pub heard_by : Terms → (index : ℕ) → Item → Route → Item
heard_by e index item route = heard_as (judgement e index item route).verdict item

abbrev pub taken_by : Terms → (index : ℕ) → Item → Route → Taken
taken_by e index item route =
    let clock = clock_after item route in
    taken_as (judgement e index item route).verdict (taken e index clock (heard_by e index item route) (advanced e clock route.sessions))

-- the keys of their own under which an event's end finds the sessions of the slots
abbrev pub own_by : Terms → (index : ℕ) → Item → Route → (slot : ℕ) → Option Keys
own_by e index item route slot = own_in e (judgement e index item route).keys slot

-- the sessions after the publishers' deliveries
abbrev pub passed_by : Terms → (index : ℕ) → Item → Route → List Session
passed_by e index item route = after_delivery e (clock_after item route) (taken_by e index item route).sessions

-- the replies to an item, in this order: the SHUTDOWNs of idle sessions, the answers to the item, the publishers'
-- packets, the subscribers' packets. A route that was closed replies to nothing
abbrev pub replies_at : (is_closed : Bool) → Terms → (index : ℕ) → Item → Route → List Reply
replies_at true e index item route = []
replies_at false e index item route =
    let clock = clock_after item route in
    let sessions = passed_by e index item route in
    idle_notified e clock route.sessions ++ (taken_by e index item route).answers ++ packets_where e clock speaks sessions
    ++ served (own_by e index item route) e clock (is_file_over e sessions) sessions

abbrev pub replies_to : Terms → (index : ℕ) → Item → Route → List Reply
replies_to e index item route = replies_at route.is_closed e index item route

-- the sessions at the end of an event. After a route was closed they no longer change
abbrev pub sessions_at : (is_closed : Bool) → Terms → (index : ℕ) → Item → Route → List Session
sessions_at true e index item route = route.sessions
sessions_at false e index item route =
    let sessions = passed_by e index item route in
    map (finished (own_by e index item route) e (clock_after item route) (is_file_over e sessions)) sessions

abbrev pub keys_at : (is_closed : Bool) → Terms → (index : ℕ) → Item → Route → RouteKeys
keys_at true e index item route = route.keys
keys_at false e index item route =
    keys_finished e (clock_after item route) (passed_by e index item route) (judgement e index item route).keys

abbrev pub closes : Item → Bool
closes (Received datagram moment) = false
closes (Tick moment) = false
closes (Close moment) = true

-- the route after one more item. If it was closed before, only its clock advances
abbrev pub with_input : Terms → (index : ℕ) → Item → Route → Route
with_input e index item route =
    record {
      clock = clock_after item route;
      sessions = sessions_at route.is_closed e index item route;
      is_closed = route.is_closed || closes item;
      keys = keys_at route.is_closed e index item route;
    }

-- the route as an item finds it: sessions may be given up then
abbrev pub found_by : Terms → Item → Route → Route
found_by e item route = giving_up e (clock_after item route) route

-- the route after these items
abbrev pub after : Terms → (index : ℕ) → List Item → Route
after e index [] = opened
after e index (item ∷ items) = with_input e index item (found_by e item (after e index items))

-- the route as the newest item finds it
abbrev pub route_before : Terms → (index : ℕ) → Item → List Item → Route
route_before e index item items = found_by e item (after e index items)

-- the replies to the newest item
abbrev pub reply : Terms → (index : ℕ) → List Item → List Datagram
reply e index [] = []
reply e index (item ∷ items) = map sent (replies_to e index item (route_before e index item items))

-- all replies to these items, the oldest first
abbrev pub solo : Terms → (index : ℕ) → List Item → List Datagram
solo e index [] = []
solo e index (item ∷ items) = solo e index items ++ reply e index (item ∷ items)

-- an item has at most as many replies as a route's queue holds: 66 for each session and 4 more
abbrev pub RepliesHavePlaces : Type 0
RepliesHavePlaces = (e : Terms) (index : ℕ) (items : List Item) → length (reply e index items) ≤ 4 + 66 * e.sessions
