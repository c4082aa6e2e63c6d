-- If the callers follow the draft, no session drains.
use Rattle.std.proofs.Common.{◌≡◌, ℕ, ◌+◌, ◌==◌, ◌&&◌, not, Bool, true, false, cond, Option, None, Some, List, [], ◌∷◌, map, refl, ap, ◌∙◌, Result, Ok, Err}
use Rattle.std.specs.Prelude.{filter, find}
use Rattle.std.specs.Option.{is_some}
use Rattle.srt_types.specs.declared.shared.Callers.{Callers}
use Rattle.srt_types.specs.declared.shared.Callers.TheVariants.{Draft, Libsrt}
use Rattle.srt_types.specs.declared.shared.Peer.{Peer}
use Rattle.srt_types.specs.Terms.{Terms}
use Rattle.srt_types.specs.Items.{Item, Received, Tick, Close}
use Rattle.srt_packet.specs.declared.reading.PacketFault.{PacketFault}
use Rattle.srt_packet.specs.Grammar.{Body, Packet}
use Rattle.srt_packet.specs.Reading.{packet_in}
use Rattle.srt_session_keys.specs.Subscriber.{Subscriber as Keys}
use Rattle.srt_route.specs.Route.{own_by}
use Rattle.srt_route.specs.declared.conclusion_reading.Conclusion.{Conclusion}
use Rattle.srt_route.specs.declared.refusals.RefusalCause.{RefusalCause}
use Rattle.srt_route.specs.Past.{has_left, is_shutdown}
use Rattle.srt_route.specs.Sessions.{Session, advanced, aged, aged_at, is_active, is_draining, is_over, is_publisher, marked, marked_if}
use Rattle.srt_route.specs.Sessions.{passed_at, reported_at, takes_over, terms_of, time_end, time_in, with_end}
use Rattle.srt_route.specs.Route.{Route, after, after_delivery, arrived, clock_after, concluded, concludes, considered, decision, delivered}
use Rattle.srt_route.specs.Route.{delivery, drain_if, drain_of, ended, finished, finished_at, gives_some, has_whole_file, heard_if, is_file_over}
use Rattle.srt_route.specs.Route.{is_for, is_of, least_room, packet_end, packet_taken, passed_by, read_taken, room_if, sessions_at, settled_by}
use Rattle.srt_route.specs.Route.{taken, taken_by, took_if, took_packet, without_destination, heard_by}
use Rattle.srt_route.specs.Drafts.{NoneDrains}
use Rattle.srt_route.proofs.model.Lists.{Each, each_mapped}
use Rattle.srt_route.specs.GivingUp.{given_up_at}
use Rattle.srt_route.specs.Route.{route_before}
use Rattle.srt_route.proofs.model.GivingUp.{each_before}

abbrev Stays : Session → Type 0
Stays s = s.drains ≡ None

end_stays : (end : Option Bool) (s : Session) → Stays s → Stays (with_end end s)
end_stays None s h = h
end_stays (Some b) s h = h

aged_stays : (e : Terms) (lives : Bool) (time : ℕ) (s : Session) → Stays s → Stays (aged_at e lives time s)
aged_stays e true time s h = h
aged_stays e false time s h = h

marked_stay : (due : Bool) (ss : List Session) → Each Stays ss → Each Stays (marked_if due ss)
marked_stay true ss h = each_mapped Stays Stays (marked ss) (λ s k. one s (is_publisher s) k) ss h
  where
    one : (s : Session) (b : Bool) → Stays s → Stays (cond b (record s { took_over = not (is_active ss s) }) s)
    one s true k = k
    one s false k = k
marked_stay false ss h = h

advanced_stay : (e : Terms) (clock : ℕ) (ss : List Session) → Each Stays ss → Each Stays (advanced e clock ss)
advanced_stay e clock ss h =
    let later = map (aged e clock) ss in
    each_mapped Stays Stays (with_end (time_end e ss later)) (λ s k. end_stays (time_end e ss later) s k) (marked_if (takes_over e clock later) later)
    (marked_stay (takes_over e clock later) later
    (each_mapped Stays Stays (aged e clock) (λ s k. aged_stays e (s.is_open && not (is_over s clock)) (time_in s clock) s k) ss h))

-- no packet makes a session drain
never : (callers : Callers) (left : Bool) (until : ℕ) → callers ≡ Draft → drain_if callers left until ≡ None
never Draft left until h = refl
never Libsrt left until h = absurd (let bad : Libsrt ≡ Draft = h in cc)

none_of : (e : Terms) (clock : ℕ) (body : Body) (ss : List Session) (o : Option Session) → e.rules.callers ≡ Draft → drain_of e clock body ss o ≡ None
none_of e clock body ss None h = refl
none_of e clock body ss (Some s) h =
    never e.rules.callers (is_shutdown body && is_active ss s && has_left (terms_of e s) s.past)
    (clock + (terms_of e s).publisher.delay + 5_000_000) h

took_stays : (drains : Option ℕ) (mine : Bool) (e : Terms) (clock : ℕ) (p : Packet) (s : Session)
    → drains ≡ None → Stays s → Stays (took_if drains mine e clock p s)
took_stays drains true e clock p s none h = none
took_stays drains false e clock p s none h = h

arrived_stay : (e : Terms) (index clock : ℕ) (peer : Peer) (p : Packet) (ss : List Session)
    → e.rules.callers ≡ Draft → Each Stays ss → Each Stays (arrived e index clock peer p ss).sessions
arrived_stay e index clock peer p ss draft h =
    let found = find (is_for index peer p.dest) ss in
    let drains = drain_of e clock p.body ss found in
    let end = packet_end drains e p.body found in
    each_mapped Stays Stays (took_packet drains end e index clock peer p)
    (λ s k. end_stays end (took_if drains (is_for index peer p.dest s) e clock p s)
    (took_stays drains (is_for index peer p.dest s) e clock p s (none_of e clock p.body ss found draft) k)) ss h

heard_stays : (mine : Bool) (clock : ℕ) (s : Session) → Stays s → Stays (heard_if mine clock s)
heard_stays true clock s h = h
heard_stays false clock s h = h

considered_stay : (e : Terms) (index clock : ℕ) (peer : Peer) (stamp : ℕ) (c : Conclusion) (ss : List Session) (answer : Result ℕ RefusalCause)
    → Each Stays ss → Each Stays (considered e index clock peer stamp c ss answer).sessions
considered_stay e index clock peer stamp c ss (Err cause) h = h
considered_stay e index clock peer stamp c ss (Ok slot) h = (refl, h)

concluded_stay : (e : Terms) (index clock : ℕ) (peer : Peer) (stamp : ℕ) (c : Conclusion) (ss : List Session) (o : Option Session)
    → Each Stays ss → Each Stays (concluded e index clock peer stamp c ss o).sessions
concluded_stay e index clock peer stamp c ss (Some s) h =
    each_mapped Stays Stays (λ t. heard_if (is_of peer c.caller t) clock t) (λ t k. heard_stays (is_of peer c.caller t) clock t k) ss h
concluded_stay e index clock peer stamp c ss None h = considered_stay e index clock peer stamp c ss (decision e peer c ss) h

without_stay : (e : Terms) (index clock : ℕ) (peer : Peer) (stamp : ℕ) (ss : List Session) (o : Option Conclusion)
    → Each Stays ss → Each Stays (without_destination e index clock peer stamp ss o).sessions
without_stay e index clock peer stamp ss None h = h
without_stay e index clock peer stamp ss (Some c) h = concluded_stay e index clock peer stamp c ss (find (is_of peer c.caller) ss) h

packet_stay : (e : Terms) (index clock : ℕ) (peer : Peer) (p : Packet) (ss : List Session)
    → e.rules.callers ≡ Draft → Each Stays ss → Each Stays (packet_taken e index clock peer p ss).sessions
packet_stay e index clock peer p ss draft h = by (p.dest == 0)
  where
    by : (b : Bool)
        → Each Stays (cond b (without_destination e index clock peer p.stamp ss (concludes p.body)) (arrived e index clock peer p ss)).sessions
    by true = without_stay e index clock peer p.stamp ss (concludes p.body) h
    by false = arrived_stay e index clock peer p ss draft h

read_stay : (e : Terms) (index clock : ℕ) (peer : Peer) (read : Result Packet PacketFault) (ss : List Session)
    → e.rules.callers ≡ Draft → Each Stays ss → Each Stays (read_taken e index clock peer read ss).sessions
read_stay e index clock peer (Ok p) ss draft h = packet_stay e index clock peer p ss draft h
read_stay e index clock peer (Err fault) ss draft h = h

taken_stay : (e : Terms) (index clock : ℕ) (item : Item) (ss : List Session)
    → e.rules.callers ≡ Draft → Each Stays ss → Each Stays (taken e index clock item ss).sessions
taken_stay e index clock (Received d moment) ss draft h = read_stay e index clock d.peer (packet_in d.bytes) ss draft h
taken_stay e index clock (Tick moment) ss draft h = h
taken_stay e index clock (Close moment) ss draft h = each_mapped Stays Stays ended (λ s k. k) ss h

passed_stays : (e : Terms) (here : Bool) (time : ℕ) (room : Option ℕ) (fed : List (List ℕ)) (s : Session) → Stays s → Stays (passed_at e here time room fed s)
passed_stays e true time room fed s h = h
passed_stays e false time room fed s h = h

settled_stay : (c : Callers) (e : Terms) (clock : ℕ) (given : Bool) (ss : List Session)
    → c ≡ Draft → Each Stays ss → Each Stays (settled_by c e clock given ss)
settled_stay Draft e clock given ss draft h = h
settled_stay Libsrt e clock given ss draft h = absurd (let bad : Libsrt ≡ Draft = draft in cc)

delivery_stay : (e : Terms) (clock : ℕ) (ss : List Session) → e.rules.callers ≡ Draft → Each Stays ss → Each Stays (after_delivery e clock ss)
delivery_stay e clock ss draft h =
    let room = least_room e ss in
    let fed = delivery e clock room ss in
    settled_stay e.rules.callers e clock (gives_some e clock ss) (delivered e clock ss) draft
    (each_mapped Stays Stays _ (λ s k. passed_stays e s.is_open (time_in s clock) (room_if (is_active ss s) room) fed s k) ss h)

reported_stays : (keys : Option Keys) (e : Terms) (here : Bool) (clock : ℕ) (s : Session) → Stays s → Stays (reported_at keys e here clock s)
reported_stays keys e true clock s h = h
reported_stays keys e false clock s h = h

finished_stays : (whole : Bool) (keys : Option Keys) (e : Terms) (clock : ℕ) (s : Session) → Stays s → Stays (finished_at whole keys e clock s)
finished_stays true keys e clock s h = h
finished_stays false keys e clock s h = reported_stays keys e s.is_open clock s h

sessions_stay : (is_closed : Bool) (e : Terms) (index : ℕ) (item : Item) (m : Route)
    → e.rules.callers ≡ Draft → Each Stays m.sessions → Each Stays (sessions_at is_closed e index item m)
sessions_stay true e index item m draft h = h
sessions_stay false e index item m draft h =
    let clock = clock_after item m in
    let over = is_file_over e (passed_by e index item m) in
    let own = own_by e index item m in
    each_mapped Stays Stays (finished own e clock over) (λ s k. finished_stays (has_whole_file over s) (own s.slot) e clock s k) (passed_by e index item m)
    (delivery_stay e clock (taken_by e index item m).sessions draft
    (taken_stay e index clock (heard_by e index item m) (advanced e clock m.sessions) draft (advanced_stay e clock m.sessions h)))

late_stays : (late : Bool) (s : Session) → Stays s → Stays (given_up_at late s)
late_stays true s h = h
late_stays false s h = h

all_stay : (e : Terms) (index : ℕ) (items : List Item) → e.rules.callers ≡ Draft → Each Stays (after e index items).sessions
all_stay e index [] draft = tt
all_stay e index (item ∷ items) draft =
    let m = route_before e index item items in
    sessions_stay m.is_closed e index item m draft (each_before Stays late_stays e (clock_after item m) (after e index items) (all_stay e index items draft))

none_filtered : (ss : List Session) → Each Stays ss → filter is_draining ss ≡ []
none_filtered [] h = refl
none_filtered (s ∷ ss) h =
    ap (λ (d : Option ℕ). cond (is_some d) (s ∷ filter is_draining ss) (filter is_draining ss)) h.0 ∙ none_filtered ss h.1

pub none_drains : NoneDrains
none_drains e index items draft = none_filtered (after e index items).sessions (all_stay e index items draft)
