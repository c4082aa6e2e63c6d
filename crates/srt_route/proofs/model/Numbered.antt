-- In buffer mode a publisher has delivered all numbers below its front, in order and each once.
use Rattle.std.proofs.Common.{ap, ◌∙◌, ◌++◌, ◌≤◌, zero, suc, length, arith, ◌≡◌, ℕ, ◌+◌, ◌==◌, ◌&&◌, not, Bool, true, false, cond, Option, None, Some}
use Rattle.std.proofs.Common.{List, [], ◌∷◌, map, refl, sym, subst, Result, Ok, Err}
use Rattle.std.specs.Prelude.{option_map, IfSome, find}
use Rattle.std.proofs.lemmas.List.{append-nil}
use Rattle.std.proofs.lemmas.Bool.{eqb-true, ne_eqb}
use Rattle.srt_types.specs.Runs.{numbers_from}
use Rattle.srt_recvbuf.specs.Receiving.{Arrival}
use Rattle.srt_types.specs.declared.shared.Callers.{Callers}
use Rattle.srt_types.specs.declared.shared.Callers.TheVariants.{Draft, Libsrt}
use Rattle.srt_types.specs.declared.shared.Mode.TheVariants.{Buffer}
use Rattle.srt_types.specs.declared.shared.Peer.{Peer}
use Rattle.srt_types.specs.declared.shared.Role.{Role}
use Rattle.srt_types.specs.declared.shared.Role.TheVariants.{Publish, Request}
use Rattle.srt_types.specs.Terms.{Terms}
use Rattle.srt_types.specs.Items.{Item, Received, Tick, Close}
use Rattle.srt_packet.specs.declared.reading.PacketFault.{PacketFault}
use Rattle.srt_packet.specs.Grammar.{Body, Packet}
use Rattle.srt_packet.specs.Reading.{packet_in}
use Rattle.srt_pub.specs.Heard.{heard_from}
use Rattle.srt_pub.specs.Publishing as publisher
use Rattle.srt_session_keys.specs.Subscriber.{Subscriber as Keys}
use Rattle.srt_route.specs.Route.{own_by}
use Rattle.srt_route.specs.Sessions.{generation_of, passed, Session, advanced, aged, aged_at, is_active, is_draining, is_over, is_publisher, marked}
use Rattle.srt_route.specs.Sessions.{marked_if, passed_at, reported_at, settled, settled_at, stamp_in, takes_over, terms_of, time_end, time_in, took}
use Rattle.srt_route.specs.Sessions.{is_recent, with_end, open_publishers}
use Rattle.srt_route.specs.Route.{session_opened, Route, after, arrived, clock_after, concluded, concludes, considered, decision, delivered, delivery}
use Rattle.srt_route.specs.Route.{drain_end, drain_of, ended, finished, finished_at, gives_some, has_whole_file, heard_if, is_file_over, is_for}
use Rattle.srt_route.specs.Route.{is_of, least_room, packet_end, packet_taken, passed_by, read_taken, room_if, sessions_at, settled_by, taken}
use Rattle.srt_route.specs.Route.{taken_by, took_if, took_packet, without_destination, heard_by}
use Rattle.srt_route.specs.Acknowledged.{AreAllBelow, DeliversAll, OneAloneDelivers, number_in, numbers_at, numbers_delivered, numbers_in, numbers_of}
use Rattle.srt_route.specs.Acknowledged.{opened_as}
use Rattle.srt_route.specs.declared.conclusion_reading.Conclusion.{Conclusion}
use Rattle.srt_route.specs.declared.refusals.RefusalCause.{RefusalCause}
use Rattle.srt_route.specs.Past.{Agreed, Past, Publishes, Subscribes, expired_past, passed_past, past_of, reported_past, took_past}
use Rattle.srt_route.proofs.model.Acknowledged.{Kept, KeptIn, taken_all_keep}
use Rattle.srt_route.proofs.model.ReportedPoints.{fronts_stay, kept_delivered, nothing_given}
use Rattle.srt_route.proofs.model.Lists.{Each}
use Rattle.srt_route.specs.GivingUp.{given_up, given_up_at, is_late}
use Rattle.srt_route.specs.Route.{route_before}
use Rattle.srt_route.proofs.model.GivingUp.{all_before}

abbrev Story : (numbers : List ℕ) → Session → Type 0
Story numbers s = AreAllBelow numbers s.past

-- the invariant for one session among all; a session has delivered nothing before it was opened
abbrev Reported : (numbers : List ℕ) → Option Session → Type 0
Reported numbers None = numbers ≡ []
Reported numbers (Some s) = Story numbers s

abbrev At : (numbers : List ℕ) (k : ℕ) → List Session → Type 0
At numbers k ss = Reported numbers (opened_as k ss)

length_mapped : (f : Session → Session) (ss : List Session) → length (map f ss) ≡ length ss
length_mapped f [] = refl
length_mapped f (s ∷ ss) = ap (λ (n : ℕ). suc n) (length_mapped f ss)

opened_mapped : (f : Session → Session) (k : ℕ) (ss : List Session) → opened_as k (map f ss) ≡ option_map f (opened_as k ss)
opened_mapped f k [] = refl
opened_mapped f k (s ∷ ss) =
    ap (λ (n : ℕ). cond (n == k) (Some (f s)) (opened_as k (map f ss))) (length_mapped f ss)
    ∙ ap (λ (o : Option Session). cond (length ss == k) (Some (f s)) o) (opened_mapped f k ss) ∙ inside (length ss == k)
  where
    inside : (b : Bool) → cond b (Some (f s)) (option_map f (opened_as k ss)) ≡ option_map f (cond b (Some s) (opened_as k ss))
    inside true = refl
    inside false = refl

notified_mapped : (numbers : List ℕ) (f : Session → Session) → ((s : Session) → Story numbers s → Story numbers (f s))
    → (o : Option Session) → Reported numbers o → Reported numbers (option_map f o)
notified_mapped numbers f keeps None h = h
notified_mapped numbers f keeps (Some s) h = keeps s h

at_mapped : (numbers : List ℕ) (k : ℕ) (f : Session → Session) → ((s : Session) → Story numbers s → Story numbers (f s))
    → (ss : List Session) → At numbers k ss → At numbers k (map f ss)
at_mapped numbers k f keeps ss h =
    let P : Option Session → Type 0 = Reported numbers in
    subst P (sym (opened_mapped f k ss)) (notified_mapped numbers f keeps (opened_as k ss) h)

-- no session was opened after more sessions than there are
none_behind : (ss : List Session) (k : ℕ) → length ss ≤ k → opened_as k ss ≡ None
none_behind [] k le = refl
none_behind (s ∷ ss) k le =
    ap (λ (b : Bool). cond b (Some s) (opened_as k ss)) (ne_eqb (length ss) k (λ e. omega (arith, e, le))) ∙ none_behind ss k (omega (arith, le))

story_first : (numbers : List ℕ) (role : Role) → numbers ≡ [] → AreAllBelow numbers (past_of role)
story_first numbers Publish h = h
story_first numbers Request h = h

at_opened : (numbers : List ℕ) (k : ℕ) (s : Session) (role : Role) (ss : List Session)
    → s.past ≡ past_of role → At numbers k ss → At numbers k (s ∷ ss)
at_opened numbers k s role ss is h = by (length ss == k) refl
  where
    by : (b : Bool) → (length ss == k) ≡ b → Reported numbers (cond b (Some s) (opened_as k ss))
    by true e =
        let same : length ss ≡ k = eqb-true (length ss) k e in
        let none : numbers ≡ [] = let P : Option Session → Type 0 = Reported numbers in subst P (none_behind ss k (omega (arith, same))) h in
        let Q : Past → Type 0 = AreAllBelow numbers in
        subst Q (sym is) (story_first numbers role none)
    by false e = h

-- the invariant for a past
past_expired : (numbers : List ℕ) (terms : Agreed) (time : ℕ) (past : Past)
    → AreAllBelow numbers past → AreAllBelow numbers (expired_past terms time past)
past_expired numbers terms time (Publishes p) h = h
past_expired numbers terms time (Subscribes m) h = h

past_took : (numbers : List ℕ) (terms : Agreed) (initial time stamp : ℕ) (b : Body) (past : Past)
    → terms.publisher.mode ≡ Buffer → AreAllBelow numbers past → AreAllBelow numbers (took_past terms initial time stamp b past)
past_took numbers terms initial time stamp b (Publishes p) mode h =
    h ∙ ap (λ (n : ℕ). numbers_from 0 n) (sym (fronts_stay terms.publisher time stamp (heard_from initial b) p mode))
past_took numbers terms initial time stamp b (Subscribes m) mode h = h

past_reported : (numbers : List ℕ) (keys : Option Keys) (draining : Bool) (terms : Agreed) (time : ℕ) (recent : Bool) (past : Past)
    → AreAllBelow numbers past → AreAllBelow numbers (reported_past keys draining terms time recent past)
past_reported numbers keys true terms time recent (Publishes p) h = h
past_reported numbers keys false terms time recent (Publishes p) h = h
past_reported numbers keys true terms time recent (Subscribes m) h = h
past_reported numbers keys false terms time recent (Subscribes m) h = h

numbers_both : (from a b : ℕ) → numbers_from from a ++ numbers_from (from + a) b ≡ numbers_from from (a + b)
numbers_both from zero b =
    let e : from + 0 ≡ from = omega arith in
    let n : b ≡ 0 + b = omega arith in
    ap (λ (x : ℕ). numbers_from x b) e ∙ ap (λ (x : ℕ). numbers_from from x) n
numbers_both from (suc a) b =
    let e : from + suc a ≡ from + 1 + a = omega arith in
    let n : suc (a + b) ≡ suc a + b = omega arith in
    ap (λ (x : ℕ). from ∷ (numbers_from (from + 1) a ++ numbers_from x b)) e ∙ ap (λ (ns : List ℕ). from ∷ ns) (numbers_both (from + 1) a b)
    ∙ ap (λ (x : ℕ). numbers_from from x) n

past_passed : (numbers : List ℕ) (terms : Agreed) (time : ℕ) (room : Option ℕ) (fed : List (List ℕ)) (past : Past)
    → terms.publisher.mode ≡ Buffer → KeptIn terms.publisher.width past → AreAllBelow numbers past
    → AreAllBelow (numbers ++ numbers_in terms.publisher time room past) (passed_past terms time room fed past)
past_passed numbers terms time room fed (Publishes p) mode kept h =
    let order = (kept_delivered terms.publisher time room p mode kept).order in
    let given = publisher.deliveries terms.publisher.mode terms.publisher time room p in
    let front = p.receiving.front in
    let from : front ≡ 0 + front = omega arith in
    ap (λ (ns : List ℕ). ns ++ map number_in given) h ∙ ap (λ (ns : List ℕ). numbers_from 0 front ++ ns) order.numbers_are
    ∙ ap (λ (n : ℕ). numbers_from 0 front ++ numbers_from n (length given)) from
    ∙ numbers_both 0 front (length given) ∙ ap (λ (n : ℕ). numbers_from 0 n) (sym order.front_is)
past_passed numbers terms time room fed (Subscribes m) mode kept h = append-nil numbers ∙ h

-- the invariant for a session, step by step
end_keeps : (numbers : List ℕ) (place : ℕ) (e : Terms) (end : Option Bool) (s : Session) → Story numbers s → Story numbers (with_end end s)
end_keeps numbers place e None s h = h
end_keeps numbers place e (Some b) s h = h

late_keeps : (numbers : List ℕ) (late : Bool) (s : Session) → Story numbers s → Story numbers (given_up_at late s)
late_keeps numbers true s h = h
late_keeps numbers false s h = h

aged_keeps : (numbers : List ℕ) (place : ℕ) (e : Terms) (lives : Bool) (time : ℕ) (s : Session)
    → Story numbers s → Story numbers (aged_at e lives time s)
aged_keeps numbers place e true time s h = past_expired numbers (terms_of e s) time s.past h
aged_keeps numbers place e false time s h = h

marked_keep : (numbers : List ℕ) (place : ℕ) (e : Terms) (due : Bool) (ss : List Session) → At numbers place ss → At numbers place (marked_if due ss)
marked_keep numbers place e true ss h = at_mapped numbers place (marked ss) (λ s k. one s (is_publisher s) k) ss h
  where
    one : (s : Session) (b : Bool) → Story numbers s → Story numbers (cond b (record s { took_over = not (is_active ss s) }) s)
    one s true k = k
    one s false k = k
marked_keep numbers place e false ss h = h

advanced_keep : (numbers : List ℕ) (place : ℕ) (e : Terms) (clock : ℕ) (ss : List Session)
    → At numbers place ss → At numbers place (advanced e clock ss)
advanced_keep numbers place e clock ss h =
    let later = map (aged e clock) ss in
    at_mapped numbers place (with_end (time_end e ss later)) (λ s k. end_keeps numbers place e (time_end e ss later) s k)
    (marked_if (takes_over e clock later) later)
    (marked_keep numbers place e (takes_over e clock later) later
    (at_mapped numbers place (aged e clock) (λ s k. aged_keeps numbers place e (s.is_open && not (is_over s clock)) (time_in s clock) s k) ss h))

took_keeps : (numbers : List ℕ) (place : ℕ) (drains : Option ℕ) (e : Terms) (clock : ℕ) (p : Packet) (s : Session)
    → e.mode ≡ Buffer → Story numbers s → Story numbers (took drains e clock p.stamp p.body s)
took_keeps numbers place drains e clock p s mode h =
    past_took numbers (terms_of e s) s.conclusion.initial (time_in s clock) (stamp_in s p.stamp) p.body s.past mode h

took_if_keeps : (numbers : List ℕ) (place : ℕ) (drains : Option ℕ) (mine : Bool) (e : Terms) (clock : ℕ) (p : Packet) (s : Session)
    → e.mode ≡ Buffer → Story numbers s → Story numbers (took_if drains mine e clock p s)
took_if_keeps numbers place drains true e clock p s mode h = took_keeps numbers place drains e clock p s mode h
took_if_keeps numbers place drains false e clock p s mode h = h

arrived_keep : (numbers : List ℕ) (place : ℕ) (e : Terms) (index clock : ℕ) (peer : Peer) (p : Packet) (ss : List Session)
    → e.mode ≡ Buffer → At numbers place ss → At numbers place (arrived e index clock peer p ss).sessions
arrived_keep numbers place e index clock peer p ss mode h =
    let found = find (is_for index peer p.dest) ss in
    let drains = drain_of e clock p.body ss found in
    let end = packet_end drains e p.body found in
    at_mapped numbers place (took_packet drains end e index clock peer p)
    (λ s k. end_keeps numbers place e end (took_if drains (is_for index peer p.dest s) e clock p s)
    (took_if_keeps numbers place drains (is_for index peer p.dest s) e clock p s mode k)) ss h

heard_keeps : (numbers : List ℕ) (place : ℕ) (e : Terms) (mine : Bool) (clock : ℕ) (s : Session)
    → Story numbers s → Story numbers (heard_if mine clock s)
heard_keeps numbers place e true clock s h = h
heard_keeps numbers place e false clock s h = h

considered_keep : (numbers : List ℕ) (place : ℕ) (e : Terms) (index clock : ℕ) (peer : Peer) (stamp : ℕ) (c : Conclusion) (ss : List Session)
    (answer : Result ℕ RefusalCause)
    → At numbers place ss → At numbers place (considered e index clock peer stamp c ss answer).sessions
considered_keep numbers place e index clock peer stamp c ss (Err cause) h = h
considered_keep numbers place e index clock peer stamp c ss (Ok slot) h =
    at_opened numbers place (session_opened clock peer stamp c slot (generation_of ss slot)) c.role ss refl h

concluded_keep : (numbers : List ℕ) (place : ℕ) (e : Terms) (index clock : ℕ) (peer : Peer) (stamp : ℕ) (c : Conclusion) (ss : List Session)
    (o : Option Session)
    → At numbers place ss → At numbers place (concluded e index clock peer stamp c ss o).sessions
concluded_keep numbers place e index clock peer stamp c ss (Some s) h =
    at_mapped numbers place (λ t. heard_if (is_of peer c.caller t) clock t) (λ t k. heard_keeps numbers place e (is_of peer c.caller t) clock t k) ss h
concluded_keep numbers place e index clock peer stamp c ss None h = considered_keep numbers place e index clock peer stamp c ss (decision e peer c ss) h

without_keep : (numbers : List ℕ) (place : ℕ) (e : Terms) (index clock : ℕ) (peer : Peer) (stamp : ℕ) (ss : List Session) (o : Option Conclusion)
    → At numbers place ss → At numbers place (without_destination e index clock peer stamp ss o).sessions
without_keep numbers place e index clock peer stamp ss None h = h
without_keep numbers place e index clock peer stamp ss (Some c) h =
    concluded_keep numbers place e index clock peer stamp c ss (find (is_of peer c.caller) ss) h

packet_keep : (numbers : List ℕ) (place : ℕ) (e : Terms) (index clock : ℕ) (peer : Peer) (p : Packet) (ss : List Session)
    → e.mode ≡ Buffer → At numbers place ss → At numbers place (packet_taken e index clock peer p ss).sessions
packet_keep numbers place e index clock peer p ss mode h = by (p.dest == 0)
  where
    by : (b : Bool)
        → At numbers place (cond b (without_destination e index clock peer p.stamp ss (concludes p.body)) (arrived e index clock peer p ss)).sessions
    by true = without_keep numbers place e index clock peer p.stamp ss (concludes p.body) h
    by false = arrived_keep numbers place e index clock peer p ss mode h

read_keep : (numbers : List ℕ) (place : ℕ) (e : Terms) (index clock : ℕ) (peer : Peer) (read : Result Packet PacketFault) (ss : List Session)
    → e.mode ≡ Buffer → At numbers place ss → At numbers place (read_taken e index clock peer read ss).sessions
read_keep numbers place e index clock peer (Ok p) ss mode h = packet_keep numbers place e index clock peer p ss mode h
read_keep numbers place e index clock peer (Err fault) ss mode h = h

taken_keep : (numbers : List ℕ) (place : ℕ) (e : Terms) (index clock : ℕ) (item : Item) (ss : List Session)
    → e.mode ≡ Buffer → At numbers place ss → At numbers place (taken e index clock item ss).sessions
taken_keep numbers place e index clock (Received d moment) ss mode h = read_keep numbers place e index clock d.peer (packet_in d.bytes) ss mode h
taken_keep numbers place e index clock (Tick moment) ss mode h = h
taken_keep numbers place e index clock (Close moment) ss mode h = at_mapped numbers place ended (λ s k. k) ss h

settled_keeps : (numbers : List ℕ) (place : ℕ) (drains : Option ℕ) (e : Terms) (given : Bool) (clock : ℕ) (s : Session)
    → Story numbers s → Story numbers (settled_at drains e given clock s)
settled_keeps numbers place None e given clock s h = h
settled_keeps numbers place (Some until) e given clock s h = h

settled_keep : (numbers : List ℕ) (place : ℕ) (c : Callers) (e : Terms) (clock : ℕ) (given : Bool) (ss : List Session)
    → At numbers place ss → At numbers place (settled_by c e clock given ss)
settled_keep numbers place Draft e clock given ss h = h
settled_keep numbers place Libsrt e clock given ss h =
    let later = map (settled e given clock) ss in
    let end = drain_end (open_publishers ss) (open_publishers later) in
    at_mapped numbers place (with_end end) (λ s k. end_keeps numbers place e end s k) later
    (at_mapped numbers place (settled e given clock) (λ s k. settled_keeps numbers place s.drains e given clock s k) ss h)

reported_keeps : (numbers : List ℕ) (place : ℕ) (keys : Option Keys) (e : Terms) (here : Bool) (clock : ℕ) (s : Session)
    → Story numbers s → Story numbers (reported_at keys e here clock s)
reported_keeps numbers place keys e true clock s h = past_reported numbers keys (is_draining s) (terms_of e s) (time_in s clock) (is_recent s clock) s.past h
reported_keeps numbers place keys e false clock s h = h

finished_keeps : (numbers : List ℕ) (place : ℕ) (whole : Bool) (keys : Option Keys) (e : Terms) (clock : ℕ) (s : Session)
    → Story numbers s → Story numbers (finished_at whole keys e clock s)
finished_keeps numbers place true keys e clock s h = h
finished_keeps numbers place false keys e clock s h = reported_keeps numbers place keys e s.is_open clock s h

-- an event delivers
given_to : (numbers : List ℕ) (e : Terms) (clock : ℕ) (fed : List (List ℕ)) (ss : List Session) (s : Session) (here : Bool)
    → e.mode ≡ Buffer → Kept e s → Story numbers s
    → let room = room_if (is_active ss s) (least_room e ss) in
    Story (numbers ++ (cond here (numbers_in (terms_of e s).publisher (time_in s clock) room s.past) [])) (passed_at e here (time_in s clock) room fed s)
given_to numbers e clock fed ss s true mode kept h =
    past_passed numbers (terms_of e s) (time_in s clock) (room_if (is_active ss s) (least_room e ss)) fed s.past mode kept h
given_to numbers e clock fed ss s false mode kept h =
    let P : List ℕ → Type 0 = λ ns. Story ns s in subst P (sym (append-nil numbers)) h

kept_as : (e : Terms) (place : ℕ) (ss : List Session) → Each (Kept e) ss → IfSome (opened_as place ss) (Kept e)
kept_as e place [] h = tt
kept_as e place (s ∷ ss) h = by (length ss == place) (kept_as e place ss h.1)
  where
    by : (b : Bool) → IfSome (opened_as place ss) (Kept e) → IfSome (cond b (Some s) (opened_as place ss)) (Kept e)
    by true rest = h.0
    by false rest = rest

delivered_notified : (numbers : List ℕ) (e : Terms) (clock : ℕ) (ss : List Session) (o : Option Session)
    → e.mode ≡ Buffer → IfSome o (Kept e) → Reported numbers o
    → let room = least_room e ss in
    let fed = delivery e clock room ss in
    Reported (numbers ++ numbers_of e clock ss o) (option_map (λ s. passed e clock (room_if (is_active ss s) room) fed s) o)
delivered_notified numbers e clock ss None mode kept h = append-nil numbers ∙ h
delivered_notified numbers e clock ss (Some s) mode kept h = given_to numbers e clock (delivery e clock (least_room e ss) ss) ss s s.is_open mode kept h

delivered_keep : (numbers : List ℕ) (place : ℕ) (e : Terms) (clock : ℕ) (ss : List Session) → e.mode ≡ Buffer → Each (Kept e) ss → At numbers place ss
    → At (numbers ++ numbers_of e clock ss (opened_as place ss)) place (delivered e clock ss)
delivered_keep numbers place e clock ss mode kept h =
    let room = least_room e ss in
    let fed = delivery e clock room ss in
    let f : Session → Session = λ s. passed e clock (room_if (is_active ss s) room) fed s in
    let P : Option Session → Type 0 = Reported (numbers ++ numbers_of e clock ss (opened_as place ss)) in
    subst P (sym (opened_mapped f place ss)) (delivered_notified numbers e clock ss (opened_as place ss) mode (kept_as e place ss kept) h)

sessions_keep : (numbers : List ℕ) (place : ℕ) (is_closed : Bool) (e : Terms) (index : ℕ) (item : Item) (m : Route)
    → e.mode ≡ Buffer → Each (Kept e) (taken_by e index item m).sessions → At numbers place m.sessions
    → At (numbers ++ numbers_at is_closed e index item m place) place (sessions_at is_closed e index item m)
sessions_keep numbers place true e index item m mode kept h =
    let P : List ℕ → Type 0 = λ ns. At ns place m.sessions in subst P (sym (append-nil numbers)) h
sessions_keep numbers place false e index item m mode kept h =
    let clock = clock_after item m in
    let ss = (taken_by e index item m).sessions in
    let more = numbers ++ numbers_of e clock ss (opened_as place ss) in
    let over = is_file_over e (passed_by e index item m) in
    let own = own_by e index item m in
    at_mapped more place (finished own e clock over) (λ s k. finished_keeps more place (has_whole_file over s) (own s.slot) e clock s k)
    (passed_by e index item m)
    (settled_keep more place e.rules.callers e clock (gives_some e clock ss) (delivered e clock ss)
    (delivered_keep numbers place e clock ss mode kept
    (taken_keep numbers place e index clock (heard_by e index item m) (advanced e clock m.sessions) mode (advanced_keep numbers place e clock m.sessions h))))

all_reported : (e : Terms) (index : ℕ) (items : List Item) (place : ℕ)
    → e.mode ≡ Buffer → At (numbers_delivered e index items place) place (after e index items).sessions
all_reported e index [] place mode = refl
all_reported e index (item ∷ items) place mode =
    let m = route_before e index item items in
    let numbers = numbers_delivered e index items place in
    sessions_keep numbers place m.is_closed e index item m mode (taken_all_keep e index items item mode)
    (all_before (At numbers place) (λ own t ss h. at_mapped numbers place (given_up own t) (λ s k. late_keeps numbers (is_late (own s.slot) t s) s k) ss h)
    e (clock_after item m) (after e index items) (all_reported e index items place mode))

pub delivers_all : DeliversAll
delivers_all e index items place s mode is =
    let P : Option Session → Type 0 = Reported (numbers_delivered e index items place) in subst P is (all_reported e index items place mode)

-- a standby delivers nothing
none_by : (terms : publisher.Terms) (time : ℕ) (past : Past) → terms.mode ≡ Buffer → numbers_in terms time None past ≡ []
none_by terms time (Publishes p) mode = ap (λ (xs : List Arrival). map number_in xs) (nothing_given terms time p mode)
none_by terms time (Subscribes m) mode = refl

pub one_alone_delivers : OneAloneDelivers
one_alone_delivers e clock ss s mode other = by s.is_open
  where
    terms : publisher.Terms
    terms = (terms_of e s).publisher

    by : (b : Bool) → cond b (numbers_in terms (time_in s clock) (room_if (is_active ss s) (least_room e ss)) s.past) [] ≡ []
    by true =
        ap (λ (a : Bool). numbers_in terms (time_in s clock) (room_if a (least_room e ss)) s.past) other ∙ none_by terms (time_in s clock) s.past mode
    by false = refl
