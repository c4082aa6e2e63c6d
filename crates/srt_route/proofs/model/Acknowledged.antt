-- In buffer mode, an active publisher's session that ends by its own SHUTDOWN has delivered everything acknowledged to
-- it.
use Rattle.std.proofs.Common.{ap, ◌∙◌, ◌++◌, append_assoc, ◌≡◌, ℕ, ◌+◌, ◌==◌, ◌&&◌, not, Bool, true, false, cond, Option, None, Some, List, [], ◌∷◌}
use Rattle.std.proofs.Common.{map, refl, sym, subst, Result, Ok, Err}
use Rattle.std.proofs.lemmas.List.{append-nil, map-append}
use Rattle.std.specs.Prelude.{⊤, IfSome, find}
use Rattle.std.specs.Option.{is_some}
use Rattle.srt_types.specs.declared.shared.Callers.{Callers}
use Rattle.srt_types.specs.declared.shared.Callers.TheVariants.{Draft, Libsrt}
use Rattle.srt_types.specs.declared.shared.Mode.{Mode}
use Rattle.srt_types.specs.declared.shared.Mode.TheVariants.{Live, Buffer}
use Rattle.srt_types.specs.declared.shared.Peer.{Peer}
use Rattle.srt_types.specs.declared.shared.Role.{Role}
use Rattle.srt_types.specs.declared.shared.Role.TheVariants.{Publish, Request}
use Rattle.srt_types.specs.Terms.{Terms}
use Rattle.srt_types.specs.Items.{Item, Received, Tick, Close}
use Rattle.srt_sendbuf.specs.Sending.{queued}
use Rattle.srt_packet.specs.declared.reading.PacketFault.{PacketFault}
use Rattle.srt_packet.specs.Grammar.{Body, Packet}
use Rattle.srt_packet.specs.Grammar as body
use Rattle.srt_packet.specs.Reading.{packet_in}
use Rattle.srt_pub.specs.Heard.{heard_from}
use Rattle.srt_pub.specs.Publishing as publisher
use Rattle.srt_pub.specs.Stands as lists
use Rattle.srt_sub.specs.Subscribing as subscriber
use Rattle.srt_session_keys.specs.Subscriber.{Subscriber as Keys}
use Rattle.srt_route.specs.Route.{own_by}
use Rattle.srt_route.specs.Queues.{payload_in}
use Rattle.srt_route.specs.declared.conclusion_reading.Conclusion.{Conclusion}
use Rattle.srt_route.specs.declared.refusals.RefusalCause.{RefusalCause}
use Rattle.srt_route.specs.Past.{Agreed, Past, Publishes, Subscribes, ends_with, expired_past, has_left, is_shutdown, passed_past, past_of}
use Rattle.srt_route.specs.Past.{reported_past, took_past}
use Rattle.srt_route.specs.Sessions.{Session, advanced, aged, aged_at, ends_unless, is_active, is_draining, is_over, is_publisher, marked, marked_if}
use Rattle.srt_route.specs.Sessions.{passed_at, reported_at, settled, settled_at, stamp_in, takes_over, terms_of, time_end, time_in, took, with_end}
use Rattle.srt_route.specs.Sessions.{is_recent, open_publishers}
use Rattle.srt_route.specs.Route.{Route, after, after_delivery, arrived, clock_after, concluded, concludes, considered, decision, delivered, delivery}
use Rattle.srt_route.specs.Route.{drain_end, drain_if, drain_of, ended, finished, finished_at, gives_some, has_whole_file, heard_if, is_file_over}
use Rattle.srt_route.specs.Route.{is_for, is_of, least_room, packet_end, packet_taken, passed_by, read_taken, room_if, sessions_at, settled_by, taken}
use Rattle.srt_route.specs.Route.{taken_by, took_if, took_packet, without_destination, heard_by}
use Rattle.srt_route.specs.Acknowledged.{DeliversInOrder, DeliversOn, DeliversOnIn, EndsAtOnce, EndsDrained, EndsWithAll, HasDeliveredIn, FeedsAll}
use Rattle.srt_route.specs.Acknowledged.{GetsAll, IsFed, IsReported, IsReportedIn, PointsStay}
use Rattle.srt_route.proofs.model.Lists.{Each, each_found, each_mapped}
use Rattle.srt_route.proofs.model.ReportedPoints.{IsKept, all_delivered, kept_delivered, kept_first, kept_reported, kept_took}
use Rattle.srt_route.specs.GivingUp.{given_up_at}
use Rattle.srt_route.specs.Route.{route_before}
use Rattle.srt_route.proofs.model.GivingUp.{each_before}

abbrev pub KeptIn : (width : ℕ) → Past → Type 0
KeptIn width (Publishes p) = IsKept width p
KeptIn width (Subscribes m) = ⊤

abbrev pub Kept : Terms → Session → Type 0
Kept e s = KeptIn e.buffer s.past

-- the invariant for a past
past_expired : (terms : Agreed) (width time : ℕ) (past : Past) → KeptIn width past → KeptIn width (expired_past terms time past)
past_expired terms width time (Publishes p) h = h
past_expired terms width time (Subscribes m) h = tt

past_took : (terms : Agreed) (initial time stamp : ℕ) (b : Body) (past : Past)
    → terms.publisher.mode ≡ Buffer → KeptIn terms.publisher.width past → KeptIn terms.publisher.width (took_past terms initial time stamp b past)
past_took terms initial time stamp b (Publishes p) mode h = kept_took terms.publisher time stamp (heard_from initial b) p mode h
past_took terms initial time stamp b (Subscribes m) mode h = tt

past_passed : (terms : Agreed) (time : ℕ) (room : Option ℕ) (fed : List (List ℕ)) (past : Past)
    → terms.publisher.mode ≡ Buffer → KeptIn terms.publisher.width past → KeptIn terms.publisher.width (passed_past terms time room fed past)
past_passed terms time room fed (Publishes p) mode h = (kept_delivered terms.publisher time room p mode h).kept
past_passed terms time room fed (Subscribes m) mode h = tt

past_reported : (keys : Option Keys) (draining : Bool) (terms : Agreed) (time : ℕ) (recent : Bool) (past : Past)
    → KeptIn terms.publisher.width past → KeptIn terms.publisher.width (reported_past keys draining terms time recent past)
past_reported keys true terms time recent (Publishes p) h = h
past_reported keys false terms time recent (Publishes p) h = kept_reported terms.publisher time p h
past_reported keys draining terms time recent (Subscribes m) h = tt

past_first : (width : ℕ) (role : Role) → KeptIn width (past_of role)
past_first width Publish = kept_first width
past_first width Request = tt

-- the invariant for a session, step by step
end_keeps : (e : Terms) (end : Option Bool) (s : Session) → Kept e s → Kept e (with_end end s)
end_keeps e None s h = h
end_keeps e (Some b) s h = h

late_keeps : (e : Terms) (late : Bool) (s : Session) → Kept e s → Kept e (given_up_at late s)
late_keeps e true s h = h
late_keeps e false s h = h

aged_keeps : (e : Terms) (lives : Bool) (time : ℕ) (s : Session) → Kept e s → Kept e (aged_at e lives time s)
aged_keeps e true time s h = past_expired (terms_of e s) e.buffer time s.past h
aged_keeps e false time s h = h

marked_keep : (e : Terms) (due : Bool) (ss : List Session) → Each (Kept e) ss → Each (Kept e) (marked_if due ss)
marked_keep e true ss h = each_mapped (Kept e) (Kept e) (marked ss) (λ s k. one s (is_publisher s) k) ss h
  where
    one : (s : Session) (b : Bool) → Kept e s → Kept e (cond b (record s { took_over = not (is_active ss s) }) s)
    one s true k = k
    one s false k = k
marked_keep e false ss h = h

advanced_keep : (e : Terms) (clock : ℕ) (ss : List Session) → Each (Kept e) ss → Each (Kept e) (advanced e clock ss)
advanced_keep e clock ss h =
    let later = map (aged e clock) ss in
    each_mapped (Kept e) (Kept e) (with_end (time_end e ss later)) (λ s k. end_keeps e (time_end e ss later) s k) (marked_if (takes_over e clock later) later)
    (marked_keep e (takes_over e clock later) later
    (each_mapped (Kept e) (Kept e) (aged e clock) (λ s k. aged_keeps e (s.is_open && not (is_over s clock)) (time_in s clock) s k) ss h))

took_keeps : (drains : Option ℕ) (e : Terms) (clock : ℕ) (p : Packet) (s : Session)
    → e.mode ≡ Buffer → Kept e s → Kept e (took drains e clock p.stamp p.body s)
took_keeps drains e clock p s mode h = past_took (terms_of e s) s.conclusion.initial (time_in s clock) (stamp_in s p.stamp) p.body s.past mode h

took_if_keeps : (drains : Option ℕ) (mine : Bool) (e : Terms) (clock : ℕ) (p : Packet) (s : Session)
    → e.mode ≡ Buffer → Kept e s → Kept e (took_if drains mine e clock p s)
took_if_keeps drains true e clock p s mode h = took_keeps drains e clock p s mode h
took_if_keeps drains false e clock p s mode h = h

arrived_keep : (e : Terms) (index clock : ℕ) (peer : Peer) (p : Packet) (ss : List Session)
    → e.mode ≡ Buffer → Each (Kept e) ss → Each (Kept e) (arrived e index clock peer p ss).sessions
arrived_keep e index clock peer p ss mode h =
    let found = find (is_for index peer p.dest) ss in
    let drains = drain_of e clock p.body ss found in
    let end = packet_end drains e p.body found in
    each_mapped (Kept e) (Kept e) (took_packet drains end e index clock peer p)
    (λ s k. end_keeps e end (took_if drains (is_for index peer p.dest s) e clock p s)
    (took_if_keeps drains (is_for index peer p.dest s) e clock p s mode k)) ss h

heard_keeps : (e : Terms) (mine : Bool) (clock : ℕ) (s : Session) → Kept e s → Kept e (heard_if mine clock s)
heard_keeps e true clock s h = h
heard_keeps e false clock s h = h

considered_keep : (e : Terms) (index clock : ℕ) (peer : Peer) (stamp : ℕ) (c : Conclusion) (ss : List Session) (answer : Result ℕ RefusalCause)
    → Each (Kept e) ss → Each (Kept e) (considered e index clock peer stamp c ss answer).sessions
considered_keep e index clock peer stamp c ss (Err cause) h = h
considered_keep e index clock peer stamp c ss (Ok slot) h = (past_first e.buffer c.role, h)

concluded_keep : (e : Terms) (index clock : ℕ) (peer : Peer) (stamp : ℕ) (c : Conclusion) (ss : List Session) (o : Option Session)
    → Each (Kept e) ss → Each (Kept e) (concluded e index clock peer stamp c ss o).sessions
concluded_keep e index clock peer stamp c ss (Some s) h =
    each_mapped (Kept e) (Kept e) (λ t. heard_if (is_of peer c.caller t) clock t) (λ t k. heard_keeps e (is_of peer c.caller t) clock t k) ss h
concluded_keep e index clock peer stamp c ss None h = considered_keep e index clock peer stamp c ss (decision e peer c ss) h

without_keep : (e : Terms) (index clock : ℕ) (peer : Peer) (stamp : ℕ) (ss : List Session) (o : Option Conclusion)
    → Each (Kept e) ss → Each (Kept e) (without_destination e index clock peer stamp ss o).sessions
without_keep e index clock peer stamp ss None h = h
without_keep e index clock peer stamp ss (Some c) h = concluded_keep e index clock peer stamp c ss (find (is_of peer c.caller) ss) h

packet_keep : (e : Terms) (index clock : ℕ) (peer : Peer) (p : Packet) (ss : List Session)
    → e.mode ≡ Buffer → Each (Kept e) ss → Each (Kept e) (packet_taken e index clock peer p ss).sessions
packet_keep e index clock peer p ss mode h = by (p.dest == 0)
  where
    by : (b : Bool)
        → Each (Kept e) (cond b (without_destination e index clock peer p.stamp ss (concludes p.body)) (arrived e index clock peer p ss)).sessions
    by true = without_keep e index clock peer p.stamp ss (concludes p.body) h
    by false = arrived_keep e index clock peer p ss mode h

read_keep : (e : Terms) (index clock : ℕ) (peer : Peer) (read : Result Packet PacketFault) (ss : List Session)
    → e.mode ≡ Buffer → Each (Kept e) ss → Each (Kept e) (read_taken e index clock peer read ss).sessions
read_keep e index clock peer (Ok p) ss mode h = packet_keep e index clock peer p ss mode h
read_keep e index clock peer (Err fault) ss mode h = h

taken_keep : (e : Terms) (index clock : ℕ) (item : Item) (ss : List Session)
    → e.mode ≡ Buffer → Each (Kept e) ss → Each (Kept e) (taken e index clock item ss).sessions
taken_keep e index clock (Received d moment) ss mode h = read_keep e index clock d.peer (packet_in d.bytes) ss mode h
taken_keep e index clock (Tick moment) ss mode h = h
taken_keep e index clock (Close moment) ss mode h = each_mapped (Kept e) (Kept e) ended (λ s k. k) ss h

passed_keeps : (e : Terms) (here : Bool) (time : ℕ) (room : Option ℕ) (fed : List (List ℕ)) (s : Session)
    → e.mode ≡ Buffer → Kept e s → Kept e (passed_at e here time room fed s)
passed_keeps e true time room fed s mode h = past_passed (terms_of e s) time room fed s.past mode h
passed_keeps e false time room fed s mode h = h

delivered_keep : (e : Terms) (clock : ℕ) (ss : List Session) → e.mode ≡ Buffer → Each (Kept e) ss → Each (Kept e) (delivered e clock ss)
delivered_keep e clock ss mode h =
    let room = least_room e ss in
    let fed = delivery e clock room ss in
    each_mapped (Kept e) (Kept e) _ (λ s k. passed_keeps e s.is_open (time_in s clock) (room_if (is_active ss s) room) fed s mode k) ss h

settled_past : (drains : Option ℕ) (e : Terms) (given : Bool) (clock : ℕ) (s : Session) → (settled_at drains e given clock s).past ≡ s.past
settled_past None e given clock s = refl
settled_past (Some until) e given clock s = refl

settled_keeps : (drains : Option ℕ) (e : Terms) (given : Bool) (clock : ℕ) (s : Session) → Kept e s → Kept e (settled_at drains e given clock s)
settled_keeps None e given clock s h = h
settled_keeps (Some until) e given clock s h = h

settled_keep : (c : Callers) (e : Terms) (clock : ℕ) (given : Bool) (ss : List Session)
    → Each (Kept e) ss → Each (Kept e) (settled_by c e clock given ss)
settled_keep Draft e clock given ss h = h
settled_keep Libsrt e clock given ss h =
    let later = map (settled e given clock) ss in
    let end = drain_end (open_publishers ss) (open_publishers later) in
    each_mapped (Kept e) (Kept e) (with_end end) (λ s k. end_keeps e end s k) later
    (each_mapped (Kept e) (Kept e) (settled e given clock) (λ s k. settled_keeps s.drains e given clock s k) ss h)

delivery_keep : (e : Terms) (clock : ℕ) (ss : List Session) → e.mode ≡ Buffer → Each (Kept e) ss → Each (Kept e) (after_delivery e clock ss)
delivery_keep e clock ss mode h =
    settled_keep e.rules.callers e clock (gives_some e clock ss) (delivered e clock ss) (delivered_keep e clock ss mode h)

reported_keeps : (keys : Option Keys) (e : Terms) (here : Bool) (clock : ℕ) (s : Session) → Kept e s → Kept e (reported_at keys e here clock s)
reported_keeps keys e true clock s h = past_reported keys (is_draining s) (terms_of e s) (time_in s clock) (is_recent s clock) s.past h
reported_keeps keys e false clock s h = h

finished_keeps : (whole : Bool) (keys : Option Keys) (e : Terms) (clock : ℕ) (s : Session) → Kept e s → Kept e (finished_at whole keys e clock s)
finished_keeps true keys e clock s h = h
finished_keeps false keys e clock s h = reported_keeps keys e s.is_open clock s h

sessions_keep : (is_closed : Bool) (e : Terms) (index : ℕ) (item : Item) (m : Route)
    → e.mode ≡ Buffer → Each (Kept e) m.sessions → Each (Kept e) (sessions_at is_closed e index item m)
sessions_keep true e index item m mode h = h
sessions_keep false e index item m mode h =
    let clock = clock_after item m in
    let own = own_by e index item m in
    let over = is_file_over e (passed_by e index item m) in
    each_mapped (Kept e) (Kept e) (finished own e clock over) (λ s k. finished_keeps (has_whole_file over s) (own s.slot) e clock s k)
    (passed_by e index item m)
    (delivery_keep e clock (taken_by e index item m).sessions mode
    (taken_keep e index clock (heard_by e index item m) (advanced e clock m.sessions) mode (advanced_keep e clock m.sessions h)))

all_keep : (e : Terms) (index : ℕ) (items : List Item) → e.mode ≡ Buffer → Each (Kept e) (after e index items).sessions
all_keep e index [] mode = tt
all_keep e index (item ∷ items) mode =
    let m = route_before e index item items in
    sessions_keep m.is_closed e index item m mode
    (each_before (Kept e) (late_keeps e) e (clock_after item m) (after e index items) (all_keep e index items mode))

before_keep : (e : Terms) (index : ℕ) (items : List Item) (item : Item) → e.mode ≡ Buffer → Each (Kept e) (route_before e index item items).sessions
before_keep e index items item mode =
    let m = after e index items in each_before (Kept e) (late_keeps e) e (clock_after item m) m (all_keep e index items mode)

pub taken_all_keep : (e : Terms) (index : ℕ) (items : List Item) (item : Item)
    → e.mode ≡ Buffer → Each (Kept e) (taken_by e index item (route_before e index item items)).sessions
taken_all_keep e index items item mode =
    let m = route_before e index item items in
    let clock = clock_after item m in
    taken_keep e index clock (heard_by e index item m) (advanced e clock m.sessions) mode
    (advanced_keep e clock m.sessions (before_keep e index items item mode))

-- a property of each element of a list
each_so : (P Q : Session → Type 0) → ((s : Session) → P s → Q s) → (ss : List Session) → Each P ss → lists.Each Q ss
each_so P Q so [] h = tt
each_so P Q so (s ∷ ss) h = (so s h.0, each_so P Q so ss h.1)

-- the acknowledgement points sent to a publisher
notified_in : (width : ℕ) (past : Past) → KeptIn width past → IsReportedIn width past
notified_in width (Publishes p) h = h.notified
notified_in width (Subscribes m) h = tt

pub points_stay : PointsStay
points_stay e index items mode =
    each_so (Kept e) (IsReported e) (λ s k. notified_in e.buffer s.past k) (after e index items).sessions (all_keep e index items mode)

-- the numbers that a publisher delivers
order_in : (terms : publisher.Terms) (past : Past) → terms.mode ≡ Buffer → KeptIn terms.width past → DeliversOnIn terms past
order_in terms (Publishes p) mode h = λ time room. (kept_delivered terms time room p mode h).order
order_in terms (Subscribes m) mode h = tt

pub delivers_in_order : DeliversInOrder
delivers_in_order e index items item mode =
    each_so (Kept e) (DeliversOn e) (λ s k. order_in (terms_of e s).publisher s.past mode k) (taken_by e index item (route_before e index item items)).sessions
    (taken_all_keep e index items item mode)

-- a session with nothing left to deliver
none_left : (terms : Agreed) (past : Past)
    → terms.publisher.mode ≡ Buffer → KeptIn terms.publisher.width past → has_left terms past ≡ false → HasDeliveredIn past
none_left terms (Publishes p) mode h left = all_delivered terms.publisher.mode terms.publisher.width p mode h left
none_left terms (Subscribes m) mode h left = tt

-- a SHUTDOWN changes nothing in a publisher's past
shutdown_left : (terms : Agreed) (initial time stamp : ℕ) (b : Body) (past : Past) → is_shutdown b ≡ true
    → HasDeliveredIn past → HasDeliveredIn (took_past terms initial time stamp b past)
shutdown_left terms initial time stamp b (Subscribes m) is h = tt
shutdown_left terms initial time stamp body.Shutdown (Publishes p) is h = h
shutdown_left terms initial time stamp (body.Data number encryption payload) (Publishes p) is h = cc
shutdown_left terms initial time stamp (body.Handshake info) (Publishes p) is h = cc
shutdown_left terms initial time stamp body.KeepAlive (Publishes p) is h = cc
shutdown_left terms initial time stamp (body.Ack number info) (Publishes p) is h = cc
shutdown_left terms initial time stamp (body.Nak info) (Publishes p) is h = cc
shutdown_left terms initial time stamp body.CongestionWarning (Publishes p) is h = cc
shutdown_left terms initial time stamp (body.AckAck number) (Publishes p) is h = cc
shutdown_left terms initial time stamp (body.DropRequest message first last) (Publishes p) is h = cc
shutdown_left terms initial time stamp body.PeerError (Publishes p) is h = cc
shutdown_left terms initial time stamp body.UserDefined (Publishes p) is h = cc

-- a session that has something left to deliver doesn't end at once
goes_on : (callers : Callers) (shut here left : Bool) (until : ℕ) (ends : Bool) → callers ≡ Libsrt → shut ≡ true → here ≡ true
    → not (ends_unless (drain_if callers (shut && here && left) until) ends) ≡ false → left ≡ false
goes_on Draft shut here left until ends callers is active over = absurd (let bad : Draft ≡ Libsrt = callers in cc)
goes_on Libsrt true true true until ends callers is active over = cc
goes_on Libsrt shut here false until ends callers is active over = refl
goes_on Libsrt false here true until ends callers is active over = cc
goes_on Libsrt true false true until ends callers is active over = cc

found_keeps : (e : Terms) (test : Session → Bool) (ss : List Session) (s : Session) → find test ss ≡ Some s → Each (Kept e) ss → Kept e s
found_keeps e test ss s is h = let P : Option Session → Type 0 = λ o. IfSome o (Kept e) in subst P is (each_found (Kept e) test ss h)

pub at_once : EndsAtOnce
at_once e index items item peer packet s mode callers found here is over =
    let clock = clock_after item (after e index items) in
    let sessions = advanced e clock (route_before e index item items).sessions in
    let terms = terms_of e s in
    let all = advanced_keep e clock (route_before e index item items).sessions (before_keep e index items item mode) in
    let kept = found_keeps e (is_for index peer packet.dest) sessions s found all in
    let left = goes_on e.rules.callers (is_shutdown packet.body) (is_active sessions s) (has_left terms s.past) (clock + terms.publisher.delay + 5_000_000)
    (ends_with terms s.conclusion.initial packet.body s.past) callers is here over in
    shutdown_left terms s.conclusion.initial (time_in s clock) (stamp_in s packet.stamp) packet.body s.past is (none_left terms s.past mode kept left)

-- a draining session ends if nothing is left
left_none : (lives left : Bool) → lives ≡ true → (lives && left) ≡ false → left ≡ false
left_none true left is over = over
left_none false left is over = cc

drained_left : (drains : Option ℕ) (e : Terms) (given : Bool) (clock : ℕ) (s : Session) → s.is_open ≡ true → is_some drains ≡ true
    → (settled_at drains e given clock s).is_open ≡ false → has_left (terms_of e s) s.past ≡ false
drained_left None e given clock s is drains over = cc
drained_left (Some until) e given clock s is drains over = left_none s.is_open (has_left (terms_of e s) s.past) is over

ends_with_all : (e : Terms) (given : Bool) (clock : ℕ) (s : Session) → e.mode ≡ Buffer → Kept e s → EndsWithAll e given clock s
ends_with_all e given clock s mode h = λ is drains over.
    let P : Past → Type 0 = HasDeliveredIn in
    subst P (sym (settled_past s.drains e given clock s)) (none_left (terms_of e s) s.past mode h (drained_left s.drains e given clock s is drains over))

pub drained : EndsDrained
drained e index items item mode =
    let clock = clock_after item (after e index items) in
    let sessions = (taken_by e index item (route_before e index item items)).sessions in
    each_so (Kept e) (EndsWithAll e (gives_some e clock sessions) clock) (λ s k. ends_with_all e (gives_some e clock sessions) clock s mode k)
    (delivered e clock sessions) (delivered_keep e clock sessions mode (taken_all_keep e index items item mode))

-- a subscriber gets everything that it is fed
one_queued : (mode : Mode) (terms : subscriber.Terms) (time : ℕ) (x : List ℕ) (m : subscriber.Subscribing) → mode ≡ Buffer
    → map payload_in (cond (subscriber.fits mode terms x m.sending) (record m { sending = queued time x m.sending }) m).sending.queue
    ≡ map payload_in m.sending.queue ++ x ∷ []
one_queued Live terms time x m b = absurd (let bad : Live ≡ Buffer = b in cc)
one_queued Buffer terms time x m b = map-append payload_in m.sending.queue (record { origin = time; payload = x } ∷ [])

all_queued : (terms : subscriber.Terms) (time : ℕ) (xs : List (List ℕ)) (m : subscriber.Subscribing) → terms.mode ≡ Buffer
    → map payload_in (subscriber.fed_all terms time xs m).sending.queue ≡ map payload_in m.sending.queue ++ xs
all_queued terms time [] m b = sym (append-nil (map payload_in m.sending.queue))
all_queued terms time (x ∷ xs) m b =
    all_queued terms time xs (subscriber.fed terms time x m) b ∙ ap (λ (ys : List (List ℕ)). ys ++ xs) (one_queued terms.mode terms time x m b)
    ∙ append_assoc (map payload_in m.sending.queue) (x ∷ []) xs

past_gets : (terms : Agreed) (time : ℕ) (room : Option ℕ) (given : List (List ℕ)) (past : Past)
    → terms.subscriber.mode ≡ Buffer → GetsAll given past (passed_past terms time room given past)
past_gets terms time room given (Publishes p) mode = tt
past_gets terms time room given (Subscribes m) mode = all_queued terms.subscriber time given m mode

session_gets : (e : Terms) (here : Bool) (time : ℕ) (room : Option ℕ) (given : List (List ℕ)) (s : Session)
    → e.mode ≡ Buffer → here ≡ true → GetsAll given s.past (passed_at e here time room given s).past
session_gets e true time room given s mode is = past_gets (terms_of e s) time room given s.past mode
session_gets e false time room given s mode is = absurd (let bad : false ≡ true = is in cc)

each_of : (P : Session → Type 0) → ((s : Session) → P s) → (ss : List Session) → lists.Each P ss
each_of P all [] = tt
each_of P all (s ∷ ss) = (all s, each_of P all ss)

pub feeds_all : FeedsAll
feeds_all e clock sessions mode =
    let room = least_room e sessions in
    let given = delivery e clock room sessions in
    each_of (IsFed e clock sessions)
    (λ s is. session_gets e s.is_open (time_in s clock) (room_if (is_active sessions s) room) given s mode is) sessions
