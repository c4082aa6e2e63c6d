-- Whatever its items are, all replies of a route can be sent and read: payloads have valid lengths, loss lists have
-- runs, and congestion control blocks have few words.
use Rattle.std.proofs.Common.{◌≡◌, ℕ, ◌-◌, ◌^◌, ◌%◌, ◌<◌, ◌≤◌, ◌==◌, ◌&&◌, ◌||◌, not, Bool, true, false, cond, Option, None, Some, List, [], ◌∷◌, ◌++◌}
use Rattle.std.proofs.Common.{map, length, min, Result, Ok, Err, refl, sym, ap, subst, ◌∙◌, arith}
use Rattle.std.specs.Prelude.{⊤, IfSome, IfOk, find, filter_map, take_while, slice_get, drop, int_le, pos, ℤ, nat_le, nat_lt}
use Rattle.std.specs.List.{flat_map}
use Rattle.std.proofs.lemmas.List.{length-take, length-drop}
use Rattle.srt_types.specs.Words.{word_at}
use Rattle.srt_types.specs.declared.shared.Callers.{Callers}
use Rattle.srt_types.specs.declared.shared.Callers.TheVariants.{Draft, Libsrt}
use Rattle.srt_types.specs.declared.shared.Peer.{Peer}
use Rattle.srt_types.specs.declared.shared.Mode.{Mode}
use Rattle.srt_types.specs.declared.shared.Mode.TheVariants.{Live, Buffer}
use Rattle.srt_types.specs.declared.shared.Role.{Role}
use Rattle.srt_types.specs.declared.shared.Role.TheVariants.{Publish, Request}
use Rattle.srt_types.specs.Window.{in_window}
use Rattle.srt_types.specs.Runs.{Range, Run, runs, numbers_from, span}
use Rattle.srt_types.specs.Terms.{Terms}
use Rattle.srt_types.specs.Items.{Item, Received, Tick, Close}
use Rattle.srt_packet.specs.declared.reading.PacketFault.{PacketFault}
use Rattle.srt_packet.specs.Grammar.{Packet, Body, Spells, SpellsBody, Data, Handshake, KeepAlive, Ack, Nak, CongestionWarning, Shutdown}
use Rattle.srt_packet.specs.Grammar.{AckAck, DropRequest, PeerError, UserDefined}
use Rattle.srt_packet.specs.Reading.{packet_in}
use Rattle.srt_route.specs.declared.refusals.RefusalCause.{RefusalCause}
use Rattle.srt_recvbuf.specs.Receiving.{Arrival, Receiving, arrival_of, is_received, waiting, unbroken, most, with_number, requested, settled}
use Rattle.srt_sendbuf.specs.Sending.{Queued, Sending, sent as sent_one, queued, acknowledged_by}
use Rattle.srt_pub.specs.Heard as to_publisher
use Rattle.srt_pub.specs.Publishing as publisher
use Rattle.srt_sub.specs.Heard as to_subscriber
use Rattle.srt_sub.specs.Subscribing as subscriber
use Rattle.srt_sub.specs.Held.{held}
use Rattle.srt_hs.specs.KeyMessage.{field_of}
use Rattle.srt_hs.specs.declared.key_message.SentKeys.TheVariants.{Even, Odd}
use Rattle.srt_session_keys.specs.Subscriber.{Subscriber as Keys, has_key, index_of}
use Rattle.srt_route.specs.EncryptedOutput as encrypted
use Rattle.srt_route.specs.EncryptedOutput.{KeyedOutput, PacketKey, all_said_with, announcement_if, has_few, is_announced, keys_reported, keys_with}
use Rattle.srt_route.specs.EncryptedOutput.{outputs_if, payload_key, payloads_confirmed, reported_if, said_under_if, said_with}
use Rattle.srt_route.specs.Past.{outputs_of}
use Rattle.srt_route.specs.Sessions.{outputs_at}
use Rattle.srt_route.specs.declared.conclusion_reading.Conclusion.{Conclusion}
use Rattle.srt_route.specs.Past.{Past, Publishes, Subscribes, Agreed, Report, ToPublisher, ToSubscriber, past_of, expired_past, took_past}
use Rattle.srt_route.specs.Past.{answers_to, loses_window, payload_of, payloads_of, passed_past, reports_of, reported_past}
use Rattle.srt_route.specs.Sessions.{Session, is_publisher, is_subscriber, active, is_active, is_open_in, by_slot}
use Rattle.srt_route.specs.Sessions.{time_in, stamp_in, is_idle, is_over, terms_of, aged_at, aged, advanced, marked, marked_if, takes_over}
use Rattle.srt_route.specs.Sessions.{is_recent, passed_at, passed, publishes, reported_at}
use Rattle.srt_route.specs.RouteKeys.{has_secured_role, own_if, secures}
use Rattle.srt_route.specs.Route.{Verdict, Passes, Ignored, Refused, Repeats, Decrypted, Answered, answers_as, judgement, output_with, reply_with}
use Rattle.srt_route.specs.Route.{Responds, SaysWithKeys, keyed_by, keyed_packets_at, own_by}
use Rattle.srt_route.specs.Route.{Output, Answers, AnswersWithKeys, Says, Ends, Reply, Taken, closed, ended, shutdown_to, decision, is_of, heard_if, opens}
use Rattle.srt_route.specs.Route.{finished, finished_at, has_whole_file, idle_notified, is_file_over, lost_notified, packet_end, served, served_at, notified_if}
use Rattle.srt_route.specs.Route.{drain_end, drain_of, gives_some, settled_by, took_packet}
use Rattle.srt_route.specs.Sessions.{is_draining, open_publishers, settled as session_settled, settled_at, speaks, time_end, with_end}
use Rattle.srt_route.specs.Route.{considered, concluded, is_for, took_if, said_by, answered_by, arrived, concludes, without_destination}
use Rattle.srt_route.specs.Route.{packet_taken, read_taken, taken, least_room, delivery_of, delivery, room_if, delivered, packets_at}
use Rattle.srt_route.specs.Route.{packets_where, clock_after, taken_by, passed_by, replies_at, replies_to, sessions_at, after, heard_by}
use Rattle.srt_route.specs.ShiftLaws.{IsPublishersReport, IsSubscribersReport, HasFewWords, IsReadable}
use Rattle.srt_packet.proofs.Agreement.{packet_found}
use Rattle.srt_route.proofs.renumbering.ShiftedAnswers.{conclusions_have_few}
use Rattle.srt_route.specs.Sendable.{IsMessage, IsResponse}
use Rattle.srt_route.proofs.model.KeyLengths.{IsWholeSource, own_is_message}
use Rattle.srt_route.proofs.model.Secured.{IsResponseOutput, IsShortVerdict, IsWholeOwn, clear_passes, own_whole, verdict_short}
use Rattle.srt_route.proofs.model.Standbys.{each_active}
use Rattle.srt_route.proofs.model.Lists.{Each, each_append, each_take, each_while, each_mapped, each_flat, each_found, each_picked, each_at}
use Rattle.srt_route.proofs.renumbering.Relabelled.{all_replies}
use Rattle.srt_route.specs.GivingUp.{given_up_at}
use Rattle.srt_route.specs.Route.{route_before}
use Rattle.srt_route.proofs.model.GivingUp.{each_before}
use Rattle.srt_route.specs.Route.{announced_past, announced_to}

-- payloads
abbrev IsPayload : List ℕ → Type 0
IsPayload xs = (0 < length xs) × (length xs ≤ 1456)

abbrev HasPayload : Arrival → Type 0
HasPayload a = IsPayload a.payload

abbrev KeepsPayload : Queued → Type 0
KeepsPayload q = IsPayload q.payload

abbrev IsSoundPast : Past → Type 0
IsSoundPast (Publishes p) = Each HasPayload p.receiving.arrivals
IsSoundPast (Subscribes s) = Each KeepsPayload s.sending.queue

-- whether a record is a publisher's
abbrev pub is_publishing : Past → Bool
is_publishing (Publishes p) = true
is_publishing (Subscribes s) = false

pub record IsSound (s : Session) : Type 0 where
  past : IsSoundPast s.past
  answer : HasFewWords s.conclusion.congestion
  pub role : is_publishing s.past ≡ publishes s.conclusion.role

role_first : (role : Role) → is_publishing (past_of role) ≡ publishes role
role_first Publish = refl
role_first Request = refl

role_expired : (terms : Agreed) (time : ℕ) (past : Past) → is_publishing (expired_past terms time past) ≡ is_publishing past
role_expired terms time (Publishes p) = refl
role_expired terms time (Subscribes s) = refl

role_took : (terms : Agreed) (initial time stamp : ℕ) (body : Body) (past : Past)
    → is_publishing (took_past terms initial time stamp body past) ≡ is_publishing past
role_took terms initial time stamp body (Publishes p) = refl
role_took terms initial time stamp body (Subscribes s) = refl

role_passed : (terms : Agreed) (time : ℕ) (room : Option ℕ) (xs : List (List ℕ)) (past : Past)
    → is_publishing (passed_past terms time room xs past) ≡ is_publishing past
role_passed terms time room xs (Publishes p) = refl
role_passed terms time room xs (Subscribes s) = refl

role_reported : (keys : Option Keys) (draining : Bool) (terms : Agreed) (time : ℕ) (recent : Bool) (past : Past)
    → is_publishing (reported_past keys draining terms time recent past) ≡ is_publishing past
role_reported keys draining terms time recent (Publishes p) = refl
role_reported keys draining terms time recent (Subscribes s) = refl

abbrev IsSaidReport : Report → Type 0
IsSaidReport (ToPublisher report) = IsPublishersReport report
IsSaidReport (ToSubscriber report) = IsSubscribersReport report

abbrev pub IsSaid : Output → Type 0
IsSaid (Answers caller answer) = IsReadable answer.what
IsSaid (AnswersWithKeys caller request answer) = ⊥
IsSaid (Says caller initial time report) = IsSaidReport report
IsSaid (Ends caller time) = ⊤
IsSaid (Responds caller time contents) = ⊥
IsSaid (SaysWithKeys output) = ⊥

abbrev pub IsSaidReply : Reply → Type 0
IsSaidReply x = IsSaid x.packet

-- what is sent with keys of a session's own: a payload under a key with a name, and a KMREQ with a message
abbrev pub IsUnder : PacketKey → subscriber.Report → Type 0
IsUnder key (subscriber.Media number again origin payload) = IsPayload payload × (0 < key.field) × (key.field < 3)
IsUnder key (subscriber.Acked mark) = ⊥
IsUnder key (subscriber.Dropped run) = ⊥
IsUnder key subscriber.KeepAlive = ⊥

abbrev pub IsKeyed : KeyedOutput → Type 0
IsKeyed (encrypted.Says caller initial time report) = IsSubscribersReport report
IsKeyed (encrypted.SaysUnder key caller initial time report) = IsUnder key report
IsKeyed (encrypted.Announces caller time contents) = IsMessage contents

-- the same of what is sent with keys
abbrev pub IsSent : Output → Type 0
IsSent (Answers caller answer) = IsReadable answer.what
IsSent (AnswersWithKeys caller request answer) = IsReadable answer.what × (length request ≤ 104)
IsSent (Says caller initial time report) = IsSaidReport report
IsSent (Ends caller time) = ⊤
IsSent (Responds caller time contents) = IsResponse contents
IsSent (SaysWithKeys output) = IsKeyed output

abbrev pub IsSentReply : Reply → Type 0
IsSentReply x = IsSent x.packet

said_is_sent : (o : Output) → IsSaid o → IsSent o
said_is_sent (Answers caller answer) h = h
said_is_sent (AnswersWithKeys caller request answer) h = absurd h
said_is_sent (Says caller initial time report) h = h
said_is_sent (Ends caller time) h = tt
said_is_sent (Responds caller time contents) h = absurd h
said_is_sent (SaysWithKeys output) h = absurd h

all_sent : (xs : List Reply) → Each IsSaidReply xs → Each IsSentReply xs
all_sent [] h = tt
all_sent (x ∷ xs) h = (said_is_sent x.packet h.0, all_sent xs h.1)

with_sent : (request : List ℕ) (o : Output) → length request ≤ 104 → IsSaid o → IsSent (output_with request o)
with_sent request (Answers caller answer) short h = (h, short)
with_sent request (AnswersWithKeys caller other answer) short h = absurd h
with_sent request (Says caller initial time report) short h = h
with_sent request (Ends caller time) short h = tt
with_sent request (Responds caller time contents) short h = absurd h
with_sent request (SaysWithKeys output) short h = absurd h

all_with_sent : (request : List ℕ) (xs : List Reply) → length request ≤ 104 → Each IsSaidReply xs → Each IsSentReply (map (reply_with request) xs)
all_with_sent request [] short h = tt
all_with_sent request (x ∷ xs) short h = (with_sent request x.packet short h.0, all_with_sent request xs short h.1)

response_sent : (o : Output) → IsResponseOutput o → IsSent o
response_sent (Answers caller answer) h = absurd h
response_sent (AnswersWithKeys caller request answer) h = absurd h
response_sent (Says caller initial time report) h = absurd h
response_sent (Ends caller time) h = absurd h
response_sent (Responds caller time contents) h = h
response_sent (SaysWithKeys output) h = absurd h

answers_sent : (v : Verdict) (xs : List Reply) → IsShortVerdict v → Each IsSaidReply xs → Each IsSentReply (answers_as v xs)
answers_sent Passes xs short h = all_sent xs h
answers_sent Ignored xs short h = all_sent xs h
answers_sent (Refused peer c) xs short h = (tt, tt)
answers_sent (Repeats None) xs short h = all_sent xs h
answers_sent (Decrypted bytes) xs short h = all_sent xs h
answers_sent (Answered answer) xs short h = (response_sent answer.packet short, tt)
answers_sent (Repeats (Some request)) xs short h = all_with_sent request xs short h

-- a session ages
opened_sound : (role : Role) → IsSoundPast (past_of role)
opened_sound Publish = tt
opened_sound Request = tt

expired_queue : (mode : Mode) (terms : subscriber.Terms) (time : ℕ) (s : Sending)
    → Each KeepsPayload s.queue → Each KeepsPayload (subscriber.expired_in mode terms time s).queue
expired_queue Live terms time s h = h
expired_queue Buffer terms time s h = h

expired_sound : (terms : Agreed) (time : ℕ) (past : Past) → IsSoundPast past → IsSoundPast (expired_past terms time past)
expired_sound terms time (Publishes p) h = h
expired_sound terms time (Subscribes s) h = expired_queue terms.subscriber.mode terms.subscriber time s.sending h

-- a packet that was read
abbrev IsReadBody : Body → Type 0
IsReadBody (Data number encryption payload) = IsPayload payload
IsReadBody _ = ⊤

abbrev IsReadHeard : to_publisher.Heard → Type 0
IsReadHeard (to_publisher.Data number encryption payload) = IsPayload payload
IsReadHeard _ = ⊤

heard_read : (initial : ℕ) (body : Body) → IsReadBody body → IsReadHeard (to_publisher.heard_from initial body)
heard_read initial (Data number encryption payload) h = h
heard_read initial (Handshake info) h = tt
heard_read initial KeepAlive h = tt
heard_read initial (Ack number info) h = tt
heard_read initial (Nak info) h = tt
heard_read initial CongestionWarning h = tt
heard_read initial Shutdown h = tt
heard_read initial (AckAck number) h = tt
heard_read initial (DropRequest message first last) h = tt
heard_read initial PeerError h = tt
heard_read initial UserDefined h = tt

with_number_sound : (o : Option ℕ) (payload : List ℕ) (due : ℤ) (r : Receiving)
    → IsPayload payload → Each HasPayload r.arrivals → Each HasPayload (with_number o payload due r).arrivals
with_number_sound None payload due r one h = h
with_number_sound (Some n) payload due r one h = by (is_received r n)
  where
    by : (b : Bool) → Each HasPayload (cond b r (record r { arrivals = record { number = n; payload = payload; due = due } ∷ r.arrivals })).arrivals
    by true = h
    by false = (one, h)

requested_sound : (width : ℕ) (q : Range) (r : Receiving) → Each HasPayload r.arrivals → Each HasPayload (requested width q r).arrivals
requested_sound width q r h = by (nat_lt q.first (2 ^ 31) && nat_lt q.last (2 ^ 31) && nat_lt (span q) (2 ^ 30))
  where
    by : (b : Bool) → Each HasPayload (cond b (settled width (record r { requests = record { front = r.front; range = q } ∷ r.requests })) r).arrivals
    by true = h
    by false = h

confirmed_sound : (time stamp : ℕ) (o : Option publisher.Full) (p : publisher.Publishing)
    → Each HasPayload p.receiving.arrivals → Each HasPayload (publisher.confirmed_at time stamp o p).receiving.arrivals
confirmed_sound time stamp None p h = h
confirmed_sound time stamp (Some full) p h = h

request_sound : (mode : Mode) (terms : publisher.Terms) (q : Range) (p : publisher.Publishing)
    → Each HasPayload p.receiving.arrivals → Each HasPayload (publisher.with_request mode terms q p).receiving.arrivals
request_sound Live terms q p h = requested_sound terms.width q p.receiving h
request_sound Buffer terms q p h = h

publisher_took : (terms : publisher.Terms) (time stamp : ℕ) (heard : to_publisher.Heard) (p : publisher.Publishing) → IsReadHeard heard
    → Each HasPayload p.receiving.arrivals
    → Each HasPayload (publisher.took terms time stamp heard p).receiving.arrivals
publisher_took terms time stamp (to_publisher.Data number encryption payload) p one h = by (encryption == 0)
  where
    by : (b : Bool) → Each HasPayload (cond b (publisher.with_data terms time stamp number payload p) p).receiving.arrivals
    by true = with_number_sound (in_window number p.receiving.front terms.width) payload
        (publisher.due_in terms.mode terms (publisher.correction_of terms p.notes) time stamp) p.receiving one h
    by false = h
publisher_took terms time stamp (to_publisher.AckAck number) p one h = confirmed_sound time stamp (publisher.confirmed_by number p.notes) p h
publisher_took terms time stamp (to_publisher.DropRequest range) p one h = request_sound terms.mode terms range p h
publisher_took terms time stamp to_publisher.Other p one h = h

acked_sound : (time : ℕ) (more : List ℕ) (o : Option ℕ) (s : subscriber.Subscribing)
    → Each KeepsPayload s.sending.queue → Each KeepsPayload (subscriber.with_ack time more o s).sending.queue
acked_sound time more None s h = h
acked_sound time more (Some n) s h = h

subscriber_took : (time : ℕ) (heard : to_subscriber.Heard) (s : subscriber.Subscribing)
    → Each KeepsPayload s.sending.queue → Each KeepsPayload (subscriber.took time heard s).sending.queue
subscriber_took time (to_subscriber.Ack mark number more) s h = acked_sound time more (acknowledged_by number s.sending) s h
subscriber_took time (to_subscriber.Nak None) s h = h
subscriber_took time (to_subscriber.Nak (Some ranges)) s h = h
subscriber_took time to_subscriber.Data s h = h
subscriber_took time to_subscriber.Other s h = h

past_took : (terms : Agreed) (initial time stamp : ℕ) (body : Body) (past : Past)
    → IsReadBody body → IsSoundPast past → IsSoundPast (took_past terms initial time stamp body past)
past_took terms initial time stamp body (Publishes p) one h =
    publisher_took terms.publisher time stamp (to_publisher.heard_from initial body) p (heard_read initial body one) h
past_took terms initial time stamp body (Subscribes s) one h = subscriber_took time (to_subscriber.heard_from initial body) s h

-- the answers sent at once
acked_said : (mark : ℕ) → Each IsSubscribersReport (subscriber.ack_reports mark)
acked_said mark = by (mark == 0)
  where
    by : (b : Bool) → Each IsSubscribersReport (cond b [] (subscriber.Acked mark ∷ []))
    by true = tt
    by false = (tt, tt)

heard_said : (heard : to_subscriber.Heard) → Each IsSubscribersReport (subscriber.answers heard)
heard_said (to_subscriber.Ack mark number more) = acked_said mark
heard_said (to_subscriber.Nak requested) = tt
heard_said to_subscriber.Data = tt
heard_said to_subscriber.Other = tt

answers_said : (initial : ℕ) (body : Body) (past : Past) → Each IsSaidReport (answers_to initial body past)
answers_said initial body (Publishes p) = tt
answers_said initial body (Subscribes s) =
    each_mapped IsSubscribersReport IsSaidReport ToSubscriber (λ x h. h) (subscriber.answers (to_subscriber.heard_from initial body))
    (heard_said (to_subscriber.heard_from initial body))

-- a delivery
arrivals_sound : (r : Receiving) (ns : List ℕ) → Each HasPayload r.arrivals → Each HasPayload (filter_map (arrival_of r.arrivals) ns)
arrivals_sound r ns h = each_picked HasPayload (arrival_of r.arrivals) (λ n. each_found HasPayload (λ a. a.number == n) r.arrivals h) ns

deliveries_sound : (mode : Mode) (terms : publisher.Terms) (time : ℕ) (room : Option ℕ) (p : publisher.Publishing)
    → Each HasPayload p.receiving.arrivals → Each HasPayload (publisher.deliveries mode terms time room p)
unfolding publisher.deliveries
deliveries_sound Live terms time room p h =
    each_take HasPayload most (take_while (λ (a : Arrival). int_le a.due (pos time)) (waiting p.receiving))
    (each_while HasPayload (λ (a : Arrival). int_le a.due (pos time)) (waiting p.receiving) (arrivals_sound p.receiving _ h))
deliveries_sound Buffer terms time None p h = tt
deliveries_sound Buffer terms time (Some room) p h = each_take HasPayload (min most room) (unbroken terms.width p.receiving) (arrivals_sound p.receiving _ h)

payloads_sound : (terms : Agreed) (time : ℕ) (room : Option ℕ) (past : Past) → IsSoundPast past → Each IsPayload (payloads_of terms time room past)
payloads_sound terms time room (Publishes p) h =
    each_mapped HasPayload IsPayload payload_of (λ a one. one) (publisher.deliveries terms.publisher.mode terms.publisher time room p)
    (deliveries_sound terms.publisher.mode terms.publisher time room p h)
payloads_sound terms time room (Subscribes s) h = tt

fed_sound : (terms : subscriber.Terms) (time : ℕ) (payload : List ℕ) (s : subscriber.Subscribing)
    → IsPayload payload → Each KeepsPayload s.sending.queue → Each KeepsPayload (subscriber.fed terms time payload s).sending.queue
fed_sound terms time payload s one h = by (subscriber.fits terms.mode terms payload s.sending)
  where
    by : (b : Bool) → Each KeepsPayload (cond b (record s { sending = queued time payload s.sending }) s).sending.queue
    by true = each_append KeepsPayload s.sending.queue (record { origin = time; payload = payload } ∷ []) h (one, tt)
    by false = h

all_fed : (terms : subscriber.Terms) (time : ℕ) (xs : List (List ℕ)) (s : subscriber.Subscribing)
    → Each IsPayload xs → Each KeepsPayload s.sending.queue → Each KeepsPayload (subscriber.fed_all terms time xs s).sending.queue
all_fed terms time [] s all h = h
all_fed terms time (x ∷ xs) s all h = all_fed terms time xs (subscriber.fed terms time x s) all.1 (fed_sound terms time x s all.0 h)

past_passed : (terms : Agreed) (time : ℕ) (room : Option ℕ) (xs : List (List ℕ)) (past : Past)
    → Each IsPayload xs → IsSoundPast past → IsSoundPast (passed_past terms time room xs past)
past_passed terms time room xs (Publishes p) all h = h
past_passed terms time room xs (Subscribes s) all h = all_fed terms.subscriber time xs s all h

-- the packets sent to a publisher
nak_said : (all : Bool) (rs : List Run) → length rs ≤ 32 → Each IsPublishersReport (publisher.nak_with all rs)
nak_said all [] few = tt
nak_said true (r ∷ rs) few = ((omega arith, omega (arith, few)), tt)
nak_said false (r ∷ rs) few = ((omega arith, omega (arith, few)), tt)

naks_said : (all : Bool) (width seen : ℕ) (r : Receiving) → Each IsPublishersReport (publisher.naks_of all width seen r)
naks_said all width seen r =
    nak_said all (publisher.runs_said (publisher.gaps_reported all width seen r))
    (omega (arith, length-take 32 (runs (publisher.gaps_reported all width seen r))))

acks_said : (terms : publisher.Terms) (full light : Bool) (point room : ℕ) (notes : List publisher.Note)
    → Each IsPublishersReport (publisher.ack_of full light (publisher.full_ack terms point room notes) (publisher.LightAck point))
acks_said terms true light point room notes = (tt, tt)
acks_said terms false true point room notes = (tt, tt)
acks_said terms false false point room notes = tt

keep_alive_said : (b : Bool) → Each IsPublishersReport (publisher.keep_alive_if b)
keep_alive_said true = (tt, tt)
keep_alive_said false = tt

keep_alives_said : (time : ℕ) (due : List publisher.Report) (notes : List publisher.Note) → Each IsPublishersReport (publisher.keep_alives time due notes)
keep_alives_said time [] notes = keep_alive_said (nat_le 1_000_000 (time - publisher.last_sent notes))
keep_alives_said time (r ∷ rs) notes = tt

publisher_said : (terms : publisher.Terms) (time : ℕ) (p : publisher.Publishing) → Each IsPublishersReport (publisher.reports terms time p)
unfolding publisher.reports publisher.acks_at publisher.naks
publisher_said terms time p =
    let acks = publisher.acks terms time p in
    let naks = publisher.naks terms time p in
    let acks_are : Each IsPublishersReport acks = acks_said terms _ _ _ _ p.notes in
    let naks_are : Each IsPublishersReport naks = naks_said (publisher.is_nak_due terms.callers time p.notes) terms.width p.seen p.receiving in
    each_append IsPublishersReport (acks ++ naks) (publisher.keep_alives time (acks ++ naks) p.notes)
    (each_append IsPublishersReport acks naks acks_are naks_are) (keep_alives_said time (acks ++ naks) p.notes)

-- the packets sent to a subscriber
drops_said : (o : Option Run) → Each IsSubscribersReport (subscriber.drops_of o)
drops_said None = tt
drops_said (Some run) = (tt, tt)

media_one_said : (again : Bool) (n : ℕ) (o : Option Queued) → IfSome o KeepsPayload → Each IsSubscribersReport (subscriber.media_of again n o)
media_one_said again n None h = tt
media_one_said again n (Some q) h = (h, tt)

media_said : (again : Bool) (ns : List ℕ) (queue : List Queued) → Each KeepsPayload queue → Each IsSubscribersReport (subscriber.media again ns queue)
media_said again [] queue h = tt
media_said again (n ∷ ns) queue h =
    each_append IsSubscribersReport (subscriber.media_of again n (slice_get queue n)) (subscriber.media again ns queue)
    (media_one_said again n (slice_get queue n) (each_at KeepsPayload queue n h)) (media_said again ns queue h)

presumed_sound : (terms : subscriber.Terms) (time : ℕ) (recent : Bool) (s : subscriber.Subscribing)
    → Each KeepsPayload s.sending.queue → Each KeepsPayload (subscriber.presumed terms time recent s).sending.queue
presumed_sound terms time recent s h = by (subscriber.resend_due terms time recent s)
  where
    by : (b : Bool)
        → Each KeepsPayload
        (cond b (record s { sending = Rattle.srt_sendbuf.specs.Sending.all_lost s.sending; notes = subscriber.Presumed ∷ s.notes }) s).sending.queue
    by true = h
    by false = h

still_said : (b : Bool) → Each IsSubscribersReport (cond b (subscriber.KeepAlive ∷ []) [])
still_said true = (tt, tt)
still_said false = tt

idle_said : (time : ℕ) (due : List subscriber.Report) (notes : List subscriber.Note) → Each IsSubscribersReport (subscriber.keep_alives time due notes)
idle_said time [] notes = still_said (nat_le 1_000_000 (time - subscriber.last_sent notes))
idle_said time (r ∷ rs) notes = tt

due_said : (places count : ℕ) (terms : subscriber.Terms) (s : subscriber.Subscribing)
    → Each KeepsPayload s.sending.queue → Each IsSubscribersReport (subscriber.due_of places count terms s)
due_said places count terms s h =
    let drops = subscriber.drops s.notes in
    let old_ones = subscriber.media true (subscriber.again_of count s.sending) s.sending.queue in
    let new_ones = subscriber.media false (subscriber.new_of places count (subscriber.flow_window terms.window s.notes) s.sending) s.sending.queue in
    each_append IsSubscribersReport (drops ++ old_ones) new_ones
    (each_append IsSubscribersReport drops old_ones (drops_said (subscriber.unreported s.notes))
    (media_said true (subscriber.again_of count s.sending) s.sending.queue h))
    (media_said false (subscriber.new_of places count (subscriber.flow_window terms.window s.notes) s.sending) s.sending.queue h)

subscriber_said : (terms : subscriber.Terms) (time : ℕ) (recent : Bool) (s : subscriber.Subscribing)
    → Each KeepsPayload s.sending.queue → Each IsSubscribersReport (subscriber.reports terms time recent s)
subscriber_said terms time recent s h =
    let t = subscriber.prepared terms time recent s in
    let count = subscriber.resends terms.resend_percent subscriber.most t.notes in
    let due = subscriber.due_of subscriber.most count terms t in
    each_append IsSubscribersReport due (subscriber.keep_alives time due t.notes)
    (due_said subscriber.most count terms t (presumed_sound terms time recent (subscriber.renewed terms time s) h)) (idle_said time due t.notes)

past_said : (terms : Agreed) (time : ℕ) (recent : Bool) (past : Past) → IsSoundPast past → Each IsSaidReport (reports_of terms time recent past)
past_said terms time recent (Publishes p) h =
    each_mapped IsPublishersReport IsSaidReport ToPublisher (λ x one. one) (publisher.reports terms.publisher time p)
    (publisher_said terms.publisher time p)
past_said terms time recent (Subscribes s) h =
    each_mapped IsSubscribersReport IsSaidReport ToSubscriber (λ x one. one) (subscriber.reports terms.subscriber time recent s)
    (subscriber_said terms.subscriber time recent s h)

sent_queue : (ns : List ℕ) (s : Sending) → Each KeepsPayload s.queue → Each KeepsPayload (subscriber.sent_each ns s).queue
sent_queue [] s h = h
sent_queue (n ∷ ns) s h = sent_queue ns (sent_one n s) h

reported_queue : (terms : subscriber.Terms) (time : ℕ) (recent : Bool) (s : subscriber.Subscribing)
    → Each KeepsPayload s.sending.queue → Each KeepsPayload (subscriber.reported terms time recent s).sending.queue
reported_queue terms time recent s h =
    let t = subscriber.prepared terms time recent s in
    let count = subscriber.resends terms.resend_percent subscriber.most t.notes in
    sent_queue
    (subscriber.again_of count t.sending
    ++ subscriber.new_of subscriber.most count (subscriber.flow_window terms.window t.notes) t.sending)
    t.sending (presumed_sound terms time recent (subscriber.renewed terms time s) h)

keyed_queue : (few : Bool) (keys : Keys) (terms : subscriber.Terms) (time : ℕ) (recent : Bool) (s : subscriber.Subscribing)
    → Each KeepsPayload s.sending.queue → Each KeepsPayload (reported_if few keys terms time recent s).sending.queue
keyed_queue true keys terms time recent s h = reported_queue terms time recent (held terms (payloads_confirmed keys) s) h
keyed_queue false keys terms time recent s h = h

past_reported : (keys : Option Keys) (draining : Bool) (terms : Agreed) (time : ℕ) (recent : Bool) (past : Past)
    → IsSoundPast past → IsSoundPast (reported_past keys draining terms time recent past)
past_reported keys true terms time recent (Publishes p) h = h
past_reported keys false terms time recent (Publishes p) h = h
past_reported None draining terms time recent (Subscribes s) h = reported_queue terms.subscriber time recent s h
past_reported (Some keys) draining terms time recent (Subscribes s) h = keyed_queue (has_few s) keys terms.subscriber time recent s h

-- what a session with keys of its own sends
own_name : (even : Bool) → (0 < field_of (cond even Odd Even)) × (field_of (cond even Odd Even) < 3)
own_name true = (omega arith, omega arith)
own_name false = (omega arith, omega arith)

under_said : (stored : Bool) (keys : Keys) (caller initial time number : ℕ) (again : Bool) (origin : ℕ) (payload : List ℕ) → IsPayload payload
    → Each IsKeyed (said_under_if stored (payload_key keys number) caller initial time (subscriber.Media number again origin payload))
under_said true keys caller initial time number again origin payload h =
    let named = own_name (index_of number % 2 == 0) in
    ((h, named.0, named.1), tt)
under_said false keys caller initial time number again origin payload h = tt

one_keyed : (keys : Keys) (caller initial time : ℕ) (r : subscriber.Report) → IsSubscribersReport r → Each IsKeyed (said_with keys caller initial time r)
one_keyed keys caller initial time (subscriber.Acked mark) h = (tt, tt)
one_keyed keys caller initial time (subscriber.Dropped run) h = (tt, tt)
one_keyed keys caller initial time (subscriber.Media number again origin payload) h =
    under_said (has_key keys number) keys caller initial time number again origin payload h
one_keyed keys caller initial time subscriber.KeepAlive h = (tt, tt)

all_keyed : (keys : Keys) (caller initial time : ℕ) (pending : List KeyedOutput) (rs : List subscriber.Report) → Each IsKeyed pending
    → Each IsSubscribersReport rs → Each IsKeyed (all_said_with keys caller initial time pending rs)
all_keyed keys caller initial time pending [] first h = first
all_keyed keys caller initial time pending (r ∷ rs) first h =
    by (subscriber.is_drop r) (all_keyed keys caller initial time pending rs first h.1) (all_keyed keys caller initial time [] rs tt h.1)
  where
    one : List KeyedOutput
    one = said_with keys caller initial time r

    by : (b : Bool) → Each IsKeyed (all_said_with keys caller initial time pending rs) → Each IsKeyed (all_said_with keys caller initial time [] rs)
        → Each IsKeyed (cond b (one ++ all_said_with keys caller initial time pending rs) (pending ++ one ++ all_said_with keys caller initial time [] rs))
    by true later none = each_append IsKeyed one (all_said_with keys caller initial time pending rs) (one_keyed keys caller initial time r h.0) later
    by false later none =
        each_append IsKeyed (pending ++ one) (all_said_with keys caller initial time [] rs)
        (each_append IsKeyed pending one first (one_keyed keys caller initial time r h.0)) none

announced_keyed : (announced : Bool) (keys : Keys) (caller time : ℕ) → IsWholeSource keys.source → Each IsKeyed (announcement_if announced keys caller time)
announced_keyed true keys caller time whole = (own_is_message keys.source keys.confirmed whole, tt)
announced_keyed false keys caller time whole = tt

outputs_keyed : (few announced : Bool) (keys : Keys) (terms : subscriber.Terms) (caller initial time : ℕ) (recent : Bool) (s : subscriber.Subscribing)
    → IsWholeSource keys.source → Each KeepsPayload s.sending.queue
    → Each IsKeyed (outputs_if few announced keys terms caller initial time recent s)
outputs_keyed true announced keys terms caller initial time recent s whole h =
    let n = held terms (payloads_confirmed keys) s in
    all_keyed keys caller initial time (announcement_if announced keys caller time) (subscriber.reports terms time recent n)
    (announced_keyed announced keys caller time whole) (subscriber_said terms time recent n h)
outputs_keyed false announced keys terms caller initial time recent s whole h = tt

source_stays : (announced : Bool) (time : ℕ) (keys : Keys) → IsWholeSource keys.source → IsWholeSource (keys_with announced time keys).source
source_stays true time keys whole = whole
source_stays false time keys whole = whole

past_keyed : (keys : Keys) (terms : Agreed) (caller initial time : ℕ) (recent : Bool) (past : Past) → IsWholeSource keys.source → IsSoundPast past
    → Each IsKeyed (outputs_of keys terms caller initial time recent past)
past_keyed keys terms caller initial time recent (Publishes p) whole h = tt
past_keyed keys terms caller initial time recent (Subscribes s) whole h =
    outputs_keyed (has_few s) (is_announced keys time s) (keys_reported time s keys) terms.subscriber caller initial time recent s
    (source_stays (is_announced keys time s) time keys whole) h

session_keyed : (keys : Keys) (e : Terms) (here : Bool) (clock : ℕ) (s : Session) → IsWholeSource keys.source → IsSound s
    → Each IsSentReply (keyed_packets_at keys e here clock s)
session_keyed keys e true clock s whole h =
    each_mapped IsKeyed IsSentReply (keyed_by s) (λ x one. one) (outputs_at keys e true clock s)
    (past_keyed keys (terms_of e s) s.conclusion.caller s.conclusion.initial (time_in s clock) (is_recent s clock) s.past whole h.past)
session_keyed keys e false clock s whole h = tt

-- sessions
aged_at_sound : (e : Terms) (lives : Bool) (time : ℕ) (s : Session) → IsSound s → IsSound (aged_at e lives time s)
aged_at_sound e true time s h =
    record {
      past = expired_sound (terms_of e s) time s.past h.past;
      answer = h.answer;
      role = role_expired (terms_of e s) time s.past ∙ h.role;
    }
aged_at_sound e false time s h = record { past = h.past; answer = h.answer; role = h.role }

aged_sound : (e : Terms) (clock : ℕ) (s : Session) → IsSound s → IsSound (aged e clock s)
aged_sound e clock s h = aged_at_sound e (s.is_open && not (is_over s clock)) (time_in s clock) s h

took_sound : (drains : Option ℕ) (mine : Bool) (e : Terms) (clock : ℕ) (p : Packet) (s : Session)
    → IsReadBody p.body → IsSound s → IsSound (took_if drains mine e clock p s)
took_sound drains true e clock p s one h =
    record {
      past = past_took (terms_of e s) s.conclusion.initial (time_in s clock) (stamp_in s p.stamp) p.body s.past one h.past;
      answer = h.answer;
      role = role_took (terms_of e s) s.conclusion.initial (time_in s clock) (stamp_in s p.stamp) p.body s.past ∙ h.role;
    }
took_sound drains false e clock p s one h = h

end_sound : (end : Option Bool) (s : Session) → IsSound s → IsSound (with_end end s)
end_sound None s h = h
end_sound (Some b) s h = record { past = h.past; answer = h.answer; role = h.role }

heard_sound : (mine : Bool) (clock : ℕ) (s : Session) → IsSound s → IsSound (heard_if mine clock s)
heard_sound true clock s h = record { past = h.past; answer = h.answer; role = h.role }
heard_sound false clock s h = h

passed_at_sound : (e : Terms) (here : Bool) (time : ℕ) (room : Option ℕ) (xs : List (List ℕ)) (s : Session)
    → Each IsPayload xs → IsSound s → IsSound (passed_at e here time room xs s)
passed_at_sound e true time room xs s all h =
    record {
      past = past_passed (terms_of e s) time room xs s.past all h.past;
      answer = h.answer;
      role = role_passed (terms_of e s) time room xs s.past ∙ h.role;
    }
passed_at_sound e false time room xs s all h = h

reported_at_sound : (keys : Option Keys) (e : Terms) (here : Bool) (clock : ℕ) (s : Session) → IsSound s → IsSound (reported_at keys e here clock s)
reported_at_sound keys e true clock s h =
    record {
      past = past_reported keys (is_draining s) (terms_of e s) (time_in s clock) (is_recent s clock) s.past h.past;
      answer = h.answer;
      role = role_reported keys (is_draining s) (terms_of e s) (time_in s clock) (is_recent s clock) s.past ∙ h.role;
    }
reported_at_sound keys e false clock s h = h

finished_sound : (whole : Bool) (keys : Option Keys) (e : Terms) (clock : ℕ) (s : Session) → IsSound s → IsSound (finished_at whole keys e clock s)
finished_sound true keys e clock s h = record { past = h.past; answer = h.answer; role = h.role }
finished_sound false keys e clock s h = reported_at_sound keys e s.is_open clock s h

said_by_session : (time : ℕ) (s : Session) (xs : List Report) → Each IsSaidReport xs → Each IsSaidReply (map (said_by time s) xs)
said_by_session time s xs h = each_mapped IsSaidReport IsSaidReply (said_by time s) (λ x one. one) xs h

packets_said : (e : Terms) (here : Bool) (clock : ℕ) (s : Session) → IsSound s → Each IsSaidReply (packets_at e here clock s)
packets_said e true clock s h =
    let time = time_in s clock in
    let recent = is_recent s clock in
    said_by_session time s (reports_of (terms_of e s) time recent s.past) (past_said (terms_of e s) time recent s.past h.past)
packets_said e false clock s h = tt

sound_by_slot : (e : Terms) (ss : List Session) → Each IsSound ss → Each IsSound (by_slot e ss)
sound_by_slot e ss h = each_picked IsSound (λ slot. find (is_open_in slot) ss) (λ slot. each_found IsSound (is_open_in slot) ss h) (numbers_from 0 e.sessions)

pub all_packets_said : (e : Terms) (clock : ℕ) (test : Session → Bool) (ss : List Session) → Each IsSound ss → Each IsSaidReply (packets_where e clock test ss)
all_packets_said e clock test ss h =
    each_flat IsSound IsSaidReply (λ s. packets_at e (test s) clock s)
    (λ s one. packets_said e (test s) clock s one) (by_slot e ss) (sound_by_slot e ss h)

served_said : (whole : Bool) (e : Terms) (clock : ℕ) (s : Session) → IsSound s → Each IsSaidReply (served_at whole None e clock s)
served_said true e clock s h = (tt, tt)
served_said false e clock s h = packets_said e (is_subscriber s) clock s h

-- without keys, and with those of slots
abbrev none_own : (slot : ℕ) → Option Keys
none_own slot = None

all_served_said : (e : Terms) (clock : ℕ) (over : Bool) (ss : List Session) → Each IsSound ss → Each IsSaidReply (served none_own e clock over ss)
all_served_said e clock over ss h =
    each_flat IsSound IsSaidReply (λ s. served_at (has_whole_file over s) None e clock s)
    (λ s one. served_said (has_whole_file over s) e clock s one) (by_slot e ss) (sound_by_slot e ss h)

-- the KMREQ before a SHUTDOWN
announced_sent : (keys : Keys) (clock : ℕ) (s : Session) (past : Past) → IsWholeSource keys.source
    → Each IsSentReply (map (keyed_by s) (announced_past keys s.conclusion.caller (time_in s clock) past))
announced_sent keys clock s (Publishes p) whole = tt
announced_sent keys clock s (Subscribes m) whole =
    let time = time_in s clock in
    let later = keys_reported time m keys in
    each_mapped IsKeyed IsSentReply (keyed_by s) (λ x one. one) (announcement_if (is_announced keys time m) later s.conclusion.caller time)
    (announced_keyed (is_announced keys time m) later s.conclusion.caller time (source_stays (is_announced keys time m) time keys whole))

served_sent : (whole : Bool) (keys : Option Keys) (e : Terms) (clock : ℕ) (s : Session) → IsWholeOwn keys → IsSound s
    → Each IsSentReply (served_at whole keys e clock s)
served_sent true None e clock s are h = (tt, tt)
served_sent true (Some k) e clock s are h =
    each_append IsSentReply (announced_to (Some k) clock s) (shutdown_to clock s ∷ []) (announced_sent k clock s s.past are) (tt, tt)
served_sent false None e clock s are h = all_sent (packets_at e (is_subscriber s) clock s) (packets_said e (is_subscriber s) clock s h)
served_sent false (Some k) e clock s are h = session_keyed k e (is_subscriber s) clock s are h

all_served_sent : (own : ℕ → Option Keys) (e : Terms) (clock : ℕ) (over : Bool) (ss : List Session)
    → ((slot : ℕ) → IsWholeOwn (own slot)) → Each IsSound ss → Each IsSentReply (served own e clock over ss)
all_served_sent own e clock over ss are h =
    each_flat IsSound IsSentReply (λ s. served_at (has_whole_file over s) (own s.slot) e clock s)
    (λ s one. served_sent (has_whole_file over s) (own s.slot) e clock s (are s.slot) one) (by_slot e ss) (sound_by_slot e ss h)

-- the datagram
pub record IsSoundTaken (t : Taken) : Type 0 where
  pub sessions : Each IsSound t.sessions
  pub answers : Each IsSaidReply t.answers

notified_if_said : (callers : Callers) (ends : Bool) (clock : ℕ) (s : Session) → Each IsSaidReply (notified_if callers ends clock s)
notified_if_said Draft ends clock s = tt
notified_if_said Libsrt true clock s = (tt, tt)
notified_if_said Libsrt false clock s = tt

answered_said : (e : Terms) (clock : ℕ) (body : Body) (o : Option Session) → Each IsSaidReply (answered_by e clock body o)
answered_said e clock body None = tt
answered_said e clock body (Some s) =
    each_append IsSaidReply (lost_notified e clock body s) (map (said_by (time_in s clock) s) (answers_to s.conclusion.initial body s.past))
    (notified_if_said e.rules.callers (loses_window (terms_of e s) s.conclusion.initial body s.past) clock s)
    (said_by_session (time_in s clock) s (answers_to s.conclusion.initial body s.past) (answers_said s.conclusion.initial body s.past))

arrived_sound : (e : Terms) (index clock : ℕ) (peer : Peer) (p : Packet) (ss : List Session)
    → IsReadBody p.body → Each IsSound ss → IsSoundTaken (arrived e index clock peer p ss)
arrived_sound e index clock peer p ss one h =
    record {
      sessions = each_mapped IsSound IsSound (took_packet drains end e index clock peer p)
          (λ s sound.
          end_sound end (took_if drains (is_for index peer p.dest s) e clock p s) (took_sound drains (is_for index peer p.dest s) e clock p s one sound)) ss h;
      answers = answered_said e clock p.body (find (is_for index peer p.dest) ss);
    }
  where
    drains : Option ℕ
    drains = drain_of e clock p.body ss (find (is_for index peer p.dest) ss)

    end : Option Bool
    end = packet_end drains e p.body (find (is_for index peer p.dest) ss)

opens_sound : (e : Terms) (index clock : ℕ) (peer : Peer) (stamp : ℕ) (c : Conclusion) (ss : List Session) (at : ℕ)
    → HasFewWords c.congestion → Each IsSound ss → IsSoundTaken (opens e index clock peer stamp c ss at)
opens_sound e index clock peer stamp c ss at few h =
    record { sessions = (record { past = opened_sound c.role; answer = few; role = role_first c.role }, h); answers = (few, tt) }

considered_sound : (e : Terms) (index clock : ℕ) (peer : Peer) (stamp : ℕ) (c : Conclusion) (ss : List Session)
    (answer : Result ℕ RefusalCause)
    → HasFewWords c.congestion → Each IsSound ss
    → IsSoundTaken (considered e index clock peer stamp c ss answer)
considered_sound e index clock peer stamp c ss (Err cause) few h = record { sessions = h; answers = (tt, tt) }
considered_sound e index clock peer stamp c ss (Ok slot) few h = opens_sound e index clock peer stamp c ss slot few h

concluded_sound : (e : Terms) (index clock : ℕ) (peer : Peer) (stamp : ℕ) (c : Conclusion) (ss : List Session) (o : Option Session)
    → HasFewWords c.congestion → IfSome o IsSound → Each IsSound ss → IsSoundTaken (concluded e index clock peer stamp c ss o)
concluded_sound e index clock peer stamp c ss (Some s) few found h =
    record {
      sessions = each_mapped IsSound IsSound (λ t. heard_if (is_of peer c.caller t) clock t)
          (λ t sound. heard_sound (is_of peer c.caller t) clock t sound) ss h;
      answers = (found.answer, tt);
    }
concluded_sound e index clock peer stamp c ss None few found h = considered_sound e index clock peer stamp c ss (decision e peer c ss) few h

without_sound : (e : Terms) (index clock : ℕ) (peer : Peer) (stamp : ℕ) (ss : List Session) (o : Option Conclusion)
    → IfSome o (λ c. HasFewWords c.congestion) → Each IsSound ss → IsSoundTaken (without_destination e index clock peer stamp ss o)
without_sound e index clock peer stamp ss None few h = record { sessions = h; answers = tt }
without_sound e index clock peer stamp ss (Some c) few h =
    concluded_sound e index clock peer stamp c ss (find (is_of peer c.caller) ss) few (each_found IsSound (is_of peer c.caller) ss h) h

concludes_few : (body : Body) → IfSome (concludes body) (λ c. HasFewWords c.congestion)
concludes_few (Data number encryption payload) = tt
concludes_few (Handshake info) = conclusions_have_few info
concludes_few KeepAlive = tt
concludes_few (Ack number info) = tt
concludes_few (Nak info) = tt
concludes_few CongestionWarning = tt
concludes_few Shutdown = tt
concludes_few (AckAck number) = tt
concludes_few (DropRequest message first last) = tt
concludes_few PeerError = tt
concludes_few UserDefined = tt

packet_sound : (e : Terms) (index clock : ℕ) (peer : Peer) (p : Packet) (ss : List Session)
    → IsReadBody p.body → Each IsSound ss → IsSoundTaken (packet_taken e index clock peer p ss)
packet_sound e index clock peer p ss one h = by (p.dest == 0)
  where
    by : (b : Bool) → IsSoundTaken (cond b (without_destination e index clock peer p.stamp ss (concludes p.body)) (arrived e index clock peer p ss))
    by true = without_sound e index clock peer p.stamp ss (concludes p.body) (concludes_few p.body) h
    by false = arrived_sound e index clock peer p ss one h

-- what is read is spelled, so a payload has a valid length
read_is_spelled : (bytes : List ℕ) (p : Packet) → packet_in bytes ≡ Ok p → Spells bytes p
read_is_spelled bytes p e = subst (λ (r : Result Packet PacketFault). IfOk r (λ packet. Spells bytes packet)) e (packet_found bytes)

body_read : (bytes : List ℕ) (p : Packet) (body : Body) → p.body ≡ body → Spells bytes p → IsReadBody body
body_read bytes p (Data number encryption payload) is s =
    let body = subst (λ (b : Body). SpellsBody (word_at bytes 0) (word_at bytes 4) (drop 16 bytes) b) is s.body in
    (omega (arith, body.3, ap length body.4), omega (arith, ap length body.4, s.limit, length-drop 16 bytes))
body_read bytes p (Handshake info) is s = tt
body_read bytes p KeepAlive is s = tt
body_read bytes p (Ack number info) is s = tt
body_read bytes p (Nak info) is s = tt
body_read bytes p CongestionWarning is s = tt
body_read bytes p Shutdown is s = tt
body_read bytes p (AckAck number) is s = tt
body_read bytes p (DropRequest message first last) is s = tt
body_read bytes p PeerError is s = tt
body_read bytes p UserDefined is s = tt

read_sound : (e : Terms) (index clock : ℕ) (peer : Peer) (bytes : List ℕ) (read : Result Packet PacketFault)
    → packet_in bytes ≡ read → (ss : List Session) → Each IsSound ss → IsSoundTaken (read_taken e index clock peer read ss)
read_sound e index clock peer bytes (Ok p) is ss h = packet_sound e index clock peer p ss (body_read bytes p p.body refl (read_is_spelled bytes p is)) h
read_sound e index clock peer bytes (Err fault) is ss h = record { sessions = h; answers = tt }

-- a SHUTDOWN can be sent, whatever the session is
each_shutdown : (clock : ℕ) (ss : List Session) → Each IsSaidReply (map (shutdown_to clock) ss)
each_shutdown clock [] = tt
each_shutdown clock (s ∷ ss) = (tt, each_shutdown clock ss)

closed_sound : (e : Terms) (clock : ℕ) (ss : List Session) → Each IsSound ss → IsSoundTaken (closed e clock ss)
closed_sound e clock ss h =
    record {
      sessions = each_mapped IsSound IsSound ended (λ s sound. record { past = sound.past; answer = sound.answer; role = sound.role }) ss h;
      answers = each_shutdown clock (by_slot e ss);
    }

taken_sound : (e : Terms) (index clock : ℕ) (item : Item) (ss : List Session) → Each IsSound ss → IsSoundTaken (taken e index clock item ss)
taken_sound e index clock (Received d moment) ss h = read_sound e index clock d.peer d.bytes (packet_in d.bytes) refl ss h
taken_sound e index clock (Tick moment) ss h = record { sessions = h; answers = tt }
taken_sound e index clock (Close moment) ss h = closed_sound e clock ss h

-- the delivery
delivered_payloads : (e : Terms) (clock : ℕ) (room : Option ℕ) (o : Option Session) → IfSome o IsSound → Each IsPayload (delivery_of e clock room o)
delivered_payloads e clock room None h = tt
delivered_payloads e clock room (Some s) h = payloads_sound (terms_of e s) (time_in s clock) room s.past h.past

delivered_sound : (e : Terms) (clock : ℕ) (ss : List Session) → Each IsSound ss → Each IsSound (delivered e clock ss)
delivered_sound e clock ss h =
    let room = least_room e ss in
    let fed = delivery e clock room ss in
    let all : Each IsPayload fed = delivered_payloads e clock room (active ss) (each_active IsSound ss h) in
    each_mapped IsSound IsSound (λ s. passed e clock (room_if (is_active ss s) room) fed s)
    (λ s sound. passed_at_sound e s.is_open (time_in s clock) (room_if (is_active ss s) room) fed s all sound) ss h

settled_at_sound : (d : Option ℕ) (e : Terms) (given : Bool) (clock : ℕ) (s : Session) → IsSound s → IsSound (settled_at d e given clock s)
settled_at_sound None e given clock s h = h
settled_at_sound (Some until) e given clock s h = record { past = h.past; answer = h.answer; role = h.role }

settled_sound : (c : Callers) (e : Terms) (clock : ℕ) (given : Bool) (ss : List Session)
    → Each IsSound ss → Each IsSound (settled_by c e clock given ss)
settled_sound Draft e clock given ss h = h
settled_sound Libsrt e clock given ss h =
    let later = map (session_settled e given clock) ss in
    let end = drain_end (open_publishers ss) (open_publishers later) in
    each_mapped IsSound IsSound (with_end end) (λ s sound. end_sound end s sound) later
    (each_mapped IsSound IsSound (session_settled e given clock) (λ s sound. settled_at_sound s.drains e given clock s sound) ss h)

-- the packets sent as time advances
pub silence_said : (e : Terms) (clock : ℕ) (ss : List Session) → Each IsSaidReply (flat_map (λ s. notified_if e.rules.callers (is_idle s clock) clock s) ss)
silence_said e clock [] = tt
silence_said e clock (s ∷ ss) =
    each_append IsSaidReply (notified_if e.rules.callers (is_idle s clock) clock s)
    (flat_map (λ s. notified_if e.rules.callers (is_idle s clock) clock s) ss) (notified_if_said e.rules.callers (is_idle s clock) clock s)
    (silence_said e clock ss)

-- an event
marked_sound : (due : Bool) (ss : List Session) → Each IsSound ss → Each IsSound (marked_if due ss)
marked_sound true ss h = each_mapped IsSound IsSound (marked ss) (λ s sound. one s (is_publisher s) sound) ss h
  where
    one : (s : Session) (b : Bool) → IsSound s → IsSound (cond b (record s { took_over = not (is_active ss s) }) s)
    one s true sound = record { past = sound.past; answer = sound.answer; role = sound.role }
    one s false sound = sound
marked_sound false ss h = h

advanced_sound : (e : Terms) (clock : ℕ) (ss : List Session) → Each IsSound ss → Each IsSound (advanced e clock ss)
advanced_sound e clock ss h =
    let later = map (aged e clock) ss in
    each_mapped IsSound IsSound (with_end (time_end e ss later)) (λ s sound. end_sound (time_end e ss later) s sound)
    (marked_if (takes_over e clock later) later)
    (marked_sound (takes_over e clock later) later (each_mapped IsSound IsSound (aged e clock) (λ s sound. aged_sound e clock s sound) ss h))

late_sound : (late : Bool) (s : Session) → IsSound s → IsSound (given_up_at late s)
late_sound true s h = record { past = h.past; answer = h.answer; role = h.role }
late_sound false s h = h

before_sound : (e : Terms) (index : ℕ) (items : List Item) (item : Item)
    → Each IsSound (after e index items).sessions → Each IsSound (route_before e index item items).sessions
before_sound e index items item h =
    let m = after e index items in each_before IsSound late_sound e (clock_after item m) m h

pub heard_item_sound : (e : Terms) (index : ℕ) (items : List Item) (item : Item) → Each IsSound (after e index items).sessions
    → let m = route_before e index item items in
    IsSoundTaken (taken e index (clock_after item m) (heard_by e index item m) (advanced e (clock_after item m) m.sessions))
heard_item_sound e index items item h =
    let m = route_before e index item items in
    let clock = clock_after item m in
    taken_sound e index clock (heard_by e index item m) (advanced e clock m.sessions) (advanced_sound e clock m.sessions (before_sound e index items item h))

pub passed_by_sound : (e : Terms) (index : ℕ) (items : List Item) (item : Item)
    → Each IsSound (after e index items).sessions → Each IsSound (passed_by e index item (route_before e index item items))
passed_by_sound e index items item h =
    let m = route_before e index item items in
    let clock = clock_after item m in
    let ss = (taken_by e index item m).sessions in
    settled_sound e.rules.callers e clock (gives_some e clock ss) (delivered e clock ss)
    (delivered_sound e clock ss (heard_item_sound e index items item h).sessions)

sessions_sound : (is_closed : Bool) (e : Terms) (index : ℕ) (items : List Item) (item : Item)
    → Each IsSound (after e index items).sessions → Each IsSound (sessions_at is_closed e index item (route_before e index item items))
sessions_sound true e index items item h = before_sound e index items item h
sessions_sound false e index items item h =
    let m = route_before e index item items in
    let clock = clock_after item m in
    let over = is_file_over e (passed_by e index item m) in
    let own = own_by e index item (route_before e index item items) in
    each_mapped IsSound IsSound (finished own e clock over) (λ s sound. finished_sound (has_whole_file over s) (own s.slot) e clock s sound)
    (passed_by e index item m) (passed_by_sound e index items item h)

pub after_sound : (e : Terms) (index : ℕ) (items : List Item) → Each IsSound (after e index items).sessions
after_sound e index [] = tt
after_sound e index (item ∷ items) = sessions_sound (after e index items).is_closed e index items item (after_sound e index items)

-- the replies to an item, from the answers to it
replies_at_are : (P : Reply → Type 0) → ((x : Reply) → IsSaidReply x → P x) → (is_closed : Bool) (e : Terms) (index : ℕ) (items : List Item) (item : Item)
    → Each P (taken_by e index item (route_before e index item items)).answers
    → (let m = route_before e index item items in
    let ss = passed_by e index item m in
    Each P (served (own_by e index item m) e (clock_after item m) (is_file_over e ss) ss))
    → Each P (replies_at is_closed e index item (route_before e index item items))
replies_at_are P so true e index items item answers last = tt
replies_at_are P so false e index items item answers last =
    let m = route_before e index item items in
    let clock = clock_after item m in
    let ss = passed_by e index item m in
    let sound = passed_by_sound e index items item (after_sound e index items) in
    let idle = idle_notified e clock m.sessions in
    let first = (taken_by e index item m).answers in
    let second = packets_where e clock speaks ss in
    let third = served (own_by e index item m) e clock (is_file_over e ss) ss in
    each_append P (idle ++ first ++ second) third
    (each_append P (idle ++ first) second (each_append P idle first (each P so idle (silence_said e clock (by_slot e m.sessions))) answers)
    (each P so second (all_packets_said e clock speaks ss sound)))
    last
  where
    each : (Q : Reply → Type 0) → ((x : Reply) → IsSaidReply x → Q x) → (xs : List Reply) → Each IsSaidReply xs → Each Q xs
    each Q f [] h = tt
    each Q f (x ∷ xs) h = (f x h.0, each Q f xs h.1)

pub replies_sent : (e : Terms) (index : ℕ) (items : List Item) (item : Item)
    → Each (λ (x : Reply). IsSent x.packet) (replies_to e index item (route_before e index item items))
replies_sent e index items item =
    let m = route_before e index item items in
    let clock = clock_after item m in
    replies_at_are IsSentReply (λ x h. said_is_sent x.packet h) m.is_closed e index items item
    (answers_sent (judgement e index item m).verdict (taken e index clock (heard_by e index item m) (advanced e clock m.sessions)).answers
    (verdict_short e index items item) (heard_item_sound e index items item (after_sound e index items)).answers)
    (all_served_sent (own_by e index item m) e clock (is_file_over e (passed_by e index item m)) (passed_by e index item m)
    (own_whole e index items item) (passed_by_sound e index items item (after_sound e index items)))

-- of a route without a secured role, without keys
clear_readers : (publish request : Bool) → (publish || request) ≡ false → request ≡ false
clear_readers true request h = absurd (let bad : true ≡ false = h in cc)
clear_readers false request h = h

pub replies_said : (e : Terms) (index : ℕ) (items : List Item) (item : Item) → has_secured_role e ≡ false
    → Each (λ (x : Reply). IsSaid x.packet) (replies_to e index item (route_before e index item items))
replies_said e index items item clear =
    let m = route_before e index item items in
    let clock = clock_after item m in
    replies_at_are IsSaidReply (λ x h. h) m.is_closed e index items item
    (subst (λ (v : Verdict). Each IsSaidReply (answers_as v (taken e index clock (heard_by e index item m) (advanced e clock m.sessions)).answers))
    (sym (clear_passes e index item m clear)) (heard_item_sound e index items item (after_sound e index items)).answers)
    (let ss = passed_by e index item m in
    subst
    (λ (b : Bool). Each IsSaidReply (served (λ slot. own_if b (judgement e index item m).keys.held slot) e clock (is_file_over e ss) ss))
    (sym (clear_readers (secures e Publish) (secures e Request) clear))
    (all_served_said e clock (is_file_over e ss) ss (passed_by_sound e index items item (after_sound e index items))))

pub all_said : (e : Terms) (index : ℕ) (items : List Item) → has_secured_role e ≡ false → Each (λ (x : Reply). IsSaid x.packet) (all_replies e index items)
all_said e index [] clear = tt
all_said e index (item ∷ items) clear =
    each_append IsSaidReply (all_replies e index items) (replies_to e index item (route_before e index item items)) (all_said e index items clear)
    (replies_said e index items item clear)
