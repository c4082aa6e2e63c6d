-- Where subscribers are encrypted, each open subscriber's session has keys of its own, and was sent no payload whose key isn't
-- confirmed.
use Rattle.std.proofs.Common.{◌≡◌, ℕ, ◌==◌, ◌&&◌, ◌||◌, not, Bool, true, false, cond, Option, None, Some, List, [], ◌∷◌, map, find, Result, Ok, Err}
use Rattle.std.proofs.Common.{refl, sym, ap, subst, ◌∙◌}
use Rattle.std.specs.Option.{is_some}
use Rattle.std.proofs.lemmas.Bool.{eq-eqb, eqb-true}
use Rattle.srt_types.specs.declared.shared.Callers.{Callers}
use Rattle.srt_types.specs.declared.shared.Callers.TheVariants.{Draft, Libsrt}
use Rattle.srt_types.specs.declared.shared.Peer.{Peer}
use Rattle.srt_types.specs.declared.shared.Role.{Role}
use Rattle.srt_types.specs.declared.shared.Role.TheVariants.{Publish, Request}
use Rattle.srt_types.specs.Terms.{Terms}
use Rattle.srt_types.specs.Items.{Datagram, Item, Received, Tick, Close}
use Rattle.srt_packet.specs.declared.reading.PacketFault.{PacketFault}
use Rattle.srt_packet.specs.Grammar.{Body, Packet}
use Rattle.srt_packet.specs.Reading.{packet_in}
use Rattle.srt_session_keys.specs.Limiter.{is_admitted, moments_with}
use Rattle.srt_session_keys.specs.Wrapping.{StreamKeys, brings}
use Rattle.srt_session_keys.specs.declared.publisher.KeyAnswer.{KeyAnswer}
use Rattle.srt_route.specs.declared.conclusion_reading.Conclusion.{Conclusion}
use Rattle.srt_route.specs.declared.refusals.RefusalCause.{RefusalCause}
use Rattle.srt_route.specs.declared.slot_keys.KeyOpening.{KeyOpening}
use Rattle.srt_route.specs.Decryption.{clear_bytes, in_clear}
use Rattle.srt_route.specs.KeyRefresh.{Confirmation, answer_by, confirmation_in, confirmed_by, refreshed, request_in}
use Rattle.srt_route.specs.Past.{Past, Publishes, Subscribes}
use Rattle.srt_route.specs.RouteKeys.{Brought, RouteKeys, SlotKeys, Clear, OfPublisher, OfSubscriber, brought_in, cookie_in, derivation_of, has_secured_role}
use Rattle.srt_route.specs.RouteKeys.{kek_for, keys_opened, opened_with, opening_if, own_keys, passphrase_of, secures, subscriber_by, subscriber_of}
use Rattle.srt_route.specs.Sessions.{Session, advanced, aged, generation_of, is_active, is_open_in, marked, marked_if, open_publishers, passed, publishes}
use Rattle.srt_route.specs.Sessions.{settled, takes_over, time_end, time_in, with_end}
use Rattle.srt_route.specs.Route.{Judged, Route, after, after_delivery, answered_judged, arrived, asked, clock_after, concluded, concludes}
use Rattle.srt_route.specs.Route.{conclusion_judged, confirmed_at, confirmed_for, considered, decision, delivered, delivery, drain_end, drain_of, ended}
use Rattle.srt_route.specs.Route.{finished, gives_some, heard_as, heard_if, info_judged, info_of, is_file_over, is_for, is_of, item_judged}
use Rattle.srt_route.specs.Route.{judged_by, judged_if, judgement, kept_at, key_opening, keys_at, keys_confirmed, keys_finished_if, keys_in_slot, keys_kept}
use Rattle.srt_route.specs.Route.{keys_said, least_room, own_by, packet_end, passed_by, read_judged, read_taken, room_if}
use Rattle.srt_route.specs.Route.{session_judged, session_opened, sessions_at, settled_by, taken, taken_by, took_packet, without_destination}
use Rattle.srt_route.specs.Tables.{AreAlone}
use Rattle.srt_route.proofs.model.Alone.{after_delivery_alone, advanced_alone, are_alone, before_are_alone, delivered_alone, marked_alone, passes, taken_alone}
use Rattle.srt_route.proofs.model.Decrypting.{clear_read}
use Rattle.srt_route.proofs.model.Ending.{ends}
use Rattle.srt_route.proofs.model.FileEnds.{finishes, keeps_end, settles, takes_packet}
use Rattle.srt_route.proofs.model.Found.{Keeps, alone_kept, changed_from, open_parts}
use Rattle.srt_route.proofs.model.Marking.{marks}
use Rattle.srt_route.proofs.model.TakeOver.{decided_slot}
use Rattle.srt_route.proofs.steps.Aging.{ages}
use Rattle.srt_route.proofs.stored.Stored.{free_is_vacant, hears}
use Rattle.srt_route.specs.GivingUp.{given_up, given_up_if}
use Rattle.srt_route.specs.Route.{giving_up, route_before}
use Rattle.srt_route.specs.RouteKeys.{own_in}
use Rattle.srt_route.proofs.model.GivingUp.{gives_up}
use Rattle.std.proofs.Common.{◌≤◌, ◌<◌, ◌^◌, ◌+◌, length, arith}
use Rattle.std.proofs.lemmas.Bool.Decides.{nat_tests}
use Rattle.srt_sendbuf.specs.Sending.{sent_end}
use Rattle.srt_session_keys.specs.Subscriber.{Subscriber as Keys, confirms, with_response}
use Rattle.srt_sub.specs.Subscribing as subscriber
use Rattle.srt_sub.proofs.Bounds.{stays_below_bounds}
use Rattle.srt_sub.specs.Heard as to_subscriber
use Rattle.srt_route.specs.EncryptedOutput as keyed
use Rattle.srt_route.specs.EncryptedOutput.{has_few, is_announced, keys_with, payloads_confirmed}
use Rattle.srt_route.specs.GivingUp.{given_up_at, is_late}
use Rattle.srt_route.specs.Past.{Agreed, expired_past, passed_past, past_of, reported_past, took_past}
use Rattle.srt_route.specs.Sessions.{aged_at, is_draining, is_over, is_publisher, is_recent, passed_at, reported_at, settled_at, stamp_in, terms_of}
use Rattle.srt_route.specs.Route.{finished_at, has_whole_file, took_if}
use Rattle.srt_route.specs.RouteKeys.{own_if}
use Rattle.srt_route.proofs.model.Found.{found_passes}
use Rattle.srt_route.proofs.model.SentEnds.{expired_sends, fed_end, took_end}

-- one more than the greatest number that a subscriber's session was sent
abbrev pub end_of : Past → ℕ
end_of (Publishes p) = 0
end_of (Subscribes m) = sent_end m.sending.marks

-- these are a subscriber's own keys, and all payloads before `end` have a key that is confirmed
abbrev pub Covers : (end : ℕ) → Option Keys → Type 0
Covers end None = ⊥
Covers end (Some keys) = end ≤ payloads_confirmed keys

abbrev pub HasOwn : (end : ℕ) → SlotKeys → Type 0
HasOwn end k = Covers end (own_keys k)

pub has_some : (end : ℕ) (k : SlotKeys) → HasOwn end k → is_some (own_keys k) ≡ true
has_some end k h = by (own_keys k) h
  where
    by : (o : Option Keys) → Covers end o → is_some o ≡ true
    by None c = absurd c
    by (Some keys) c = refl

-- each open subscriber has such keys
abbrev pub HaveOwn : List Session → (held : ℕ → SlotKeys) → Type 0
HaveOwn ss held = (k : ℕ) (s : Session) → find (is_open_in k) ss ≡ Some s → publishes s.conclusion.role ≡ false → HasOwn (end_of s.past) (held k)

-- a change sends nothing
abbrev SendsNone : (Session → Session) → Type 0
SendsNone f = (s : Session) → end_of (f s).past ≡ end_of s.past

have_mapped : (f : Session → Session) → Keeps f → SendsNone f → (places : ℕ) (ss : List Session) → AreAlone places ss → (held : ℕ → SlotKeys)
    → HaveOwn ss held → HaveOwn (map f ss) held
have_mapped f keeps sends places ss alone held h k t found reads =
    let from = changed_from f keeps k places ss alone t found in
    let same : from.0.conclusion ≡ t.conclusion = sym (keeps.conclusion from.0) ∙ ap (λ (u : Session). u.conclusion) from.3 in
    subst (λ (n : ℕ). HasOwn n (held k)) (sym (sends from.0) ∙ ap (λ (u : Session). end_of u.past) from.3)
    (h k from.0 from.1 (ap (λ (c : Conclusion). publishes c.role) same ∙ reads))

-- what each step leaves as it is
expired_end : (terms : Agreed) (time : ℕ) (past : Past) → end_of (expired_past terms time past) ≡ end_of past
expired_end terms time (Publishes p) = refl
expired_end terms time (Subscribes m) = expired_sends terms.subscriber time m

took_past_end : (terms : Agreed) (initial time stamp : ℕ) (body : Body) (past : Past) → end_of (took_past terms initial time stamp body past) ≡ end_of past
took_past_end terms initial time stamp body (Publishes p) = refl
took_past_end terms initial time stamp body (Subscribes m) = took_end time (to_subscriber.heard_from initial body) m

fed_all_end : (terms : subscriber.Terms) (time : ℕ) (xs : List (List ℕ)) (m : subscriber.Subscribing)
    → sent_end (subscriber.fed_all terms time xs m).sending.marks ≡ sent_end m.sending.marks
fed_all_end terms time [] m = refl
fed_all_end terms time (x ∷ xs) m =
    fed_all_end terms time xs (subscriber.fed terms time x m) ∙ fed_end (subscriber.fits terms.mode terms x m.sending) time x m

passed_past_end : (terms : Agreed) (time : ℕ) (room : Option ℕ) (xs : List (List ℕ)) (past : Past)
    → end_of (passed_past terms time room xs past) ≡ end_of past
passed_past_end terms time room xs (Publishes p) = refl
passed_past_end terms time room xs (Subscribes m) = fed_all_end terms.subscriber time xs m

marks_send : (ss : List Session) → SendsNone (marked ss)
marks_send ss s = by (is_publisher s)
  where
    by : (b : Bool) → end_of (cond b (record s { took_over = not (is_active ss s) }) s).past ≡ end_of s.past
    by true = refl
    by false = refl

ends_send : (end : Option Bool) → SendsNone (with_end end)
ends_send None s = refl
ends_send (Some b) s = refl

ages_send : (e : Terms) (clock : ℕ) → SendsNone (aged e clock)
ages_send e clock s = by (s.is_open && not (is_over s clock))
  where
    by : (b : Bool) → end_of (aged_at e b (time_in s clock) s).past ≡ end_of s.past
    by true = expired_end (terms_of e s) (time_in s clock) s.past
    by false = refl

settles_send : (e : Terms) (given : Bool) (clock : ℕ) → SendsNone (settled e given clock)
settles_send e given clock s = by s.drains
  where
    by : (d : Option ℕ) → end_of (settled_at d e given clock s).past ≡ end_of s.past
    by None = refl
    by (Some until) = refl

passes_send : (e : Terms) (clock : ℕ) (ss : List Session)
    → SendsNone (λ s. passed e clock (room_if (is_active ss s) (least_room e ss)) (delivery e clock (least_room e ss) ss) s)
passes_send e clock ss s = by s.is_open
  where
    by : (b : Bool)
        → end_of (passed_at e b (time_in s clock) (room_if (is_active ss s) (least_room e ss)) (delivery e clock (least_room e ss) ss) s).past
        ≡ end_of s.past
    by true =
        passed_past_end (terms_of e s) (time_in s clock) (room_if (is_active ss s) (least_room e ss)) (delivery e clock (least_room e ss) ss) s.past
    by false = refl

hears_send : (test : Session → Bool) (clock : ℕ) → SendsNone (λ s. heard_if (test s) clock s)
hears_send test clock s = by (test s)
  where
    by : (b : Bool) → end_of (heard_if b clock s).past ≡ end_of s.past
    by true = refl
    by false = refl

takes_send : (drains : Option ℕ) (end : Option Bool) (e : Terms) (index clock : ℕ) (peer : Peer) (packet : Packet)
    → SendsNone (took_packet drains end e index clock peer packet)
takes_send drains end e index clock peer packet s =
    ends_send end (took_if drains (is_for index peer packet.dest s) e clock packet s) ∙ by (is_for index peer packet.dest s)
  where
    by : (b : Bool) → end_of (took_if drains b e clock packet s).past ≡ end_of s.past
    by true = took_past_end (terms_of e s) s.conclusion.initial (time_in s clock) (stamp_in s packet.stamp) packet.body s.past
    by false = refl

gives_up_send : (own : ℕ → Option Keys) (clock : ℕ) → SendsNone (given_up own clock)
gives_up_send own clock s = by (is_late (own s.slot) clock s)
  where
    by : (b : Bool) → end_of (given_up_at b s).past ≡ end_of s.past
    by true = refl
    by false = refl

-- time, deliveries
have_marked : (due : Bool) (places : ℕ) (ss : List Session) → AreAlone places ss → (held : ℕ → SlotKeys) → HaveOwn ss held → HaveOwn (marked_if due ss) held
have_marked true places ss alone held h = have_mapped (marked ss) (marks ss) (marks_send ss) places ss alone held h
have_marked false places ss alone held h = h

have_advanced : (e : Terms) (clock : ℕ) (ss : List Session) → AreAlone e.sessions ss → (held : ℕ → SlotKeys) → HaveOwn ss held
    → HaveOwn (advanced e clock ss) held
have_advanced e clock ss alone held h =
    let later = map (aged e clock) ss in
    let due = takes_over e clock later in
    let later_alone = alone_kept (aged e clock) (ages e clock) e.sessions ss alone in
    have_mapped (with_end (time_end e ss later)) (keeps_end (time_end e ss later)) (ends_send (time_end e ss later)) e.sessions (marked_if due later)
    (marked_alone due e.sessions later later_alone) held
    (have_marked due e.sessions later later_alone held (have_mapped (aged e clock) (ages e clock) (ages_send e clock) e.sessions ss alone held h))

have_settled : (c : Callers) (e : Terms) (clock : ℕ) (given : Bool) (ss : List Session) → AreAlone e.sessions ss → (held : ℕ → SlotKeys)
    → HaveOwn ss held → HaveOwn (settled_by c e clock given ss) held
have_settled Draft e clock given ss alone held h = h
have_settled Libsrt e clock given ss alone held h =
    let later = map (settled e given clock) ss in
    let end = drain_end (open_publishers ss) (open_publishers later) in
    have_mapped (with_end end) (keeps_end end) (ends_send end) e.sessions later
    (alone_kept (settled e given clock) (settles e given clock) e.sessions ss alone) held
    (have_mapped (settled e given clock) (settles e given clock) (settles_send e given clock) e.sessions ss alone held h)

have_delivered : (e : Terms) (clock : ℕ) (ss : List Session) → AreAlone e.sessions ss → (held : ℕ → SlotKeys) → HaveOwn ss held
    → HaveOwn (after_delivery e clock ss) held
have_delivered e clock ss alone held h =
    have_settled e.rules.callers e clock (gives_some e clock ss) (delivered e clock ss) (delivered_alone e clock ss alone) held
    (have_mapped (λ s. passed e clock (room_if (is_active ss s) (least_room e ss)) (delivery e clock (least_room e ss) ss) s) (passes e clock ss)
    (passes_send e clock ss) e.sessions ss alone held h)

-- the keys of the open sessions, and what confirms
have_kept : (ss : List Session) (held : ℕ → SlotKeys) → HaveOwn ss held → HaveOwn ss (λ slot. kept_at (find (is_open_in slot) ss) (held slot))
have_kept ss held h k s found reads = subst (λ (o : Option Session). HasOwn (end_of s.past) (kept_at o (held k))) (sym found) (h k s found reads)

put_own : (end n k : ℕ) (g : SlotKeys → SlotKeys) → ((x : SlotKeys) → HasOwn end x → HasOwn end (g x)) → (held : ℕ → SlotKeys)
    → HasOwn end (held k) → HasOwn end (cond (k == n) (g (held n)) (held k))
put_own end n k g keeps held h = by (k == n) refl
  where
    by : (b : Bool) → (k == n) ≡ b → HasOwn end (cond b (g (held n)) (held k))
    by true is = keeps (held n) (subst (λ (j : ℕ). HasOwn end (held j)) (eqb-true k n is) h)
    by false is = h

-- one more key is confirmed, or none
more_confirmed : (end : ℕ) (contents : List ℕ) (keys : Keys) → end ≤ payloads_confirmed keys → end ≤ payloads_confirmed (with_response contents keys)
more_confirmed end contents keys h = by (confirms contents keys)
  where
    by : (b : Bool)
        → end ≤ payloads_confirmed (cond b (record { source = keys.source; confirmed = keys.confirmed + 1; announced = None }) keys)
    by true = omega (arith, h)
    by false = h

confirmed_own : (end : ℕ) (contents : List ℕ) (k : SlotKeys) → HasOwn end k → HasOwn end (confirmed_by contents k)
confirmed_own end contents Clear h = h
confirmed_own end contents (OfPublisher request keys) h = h
confirmed_own end contents (OfSubscriber request keys) h = more_confirmed end contents keys h

refreshed_own : (end : ℕ) (contents : List ℕ) (k : SlotKeys) → HasOwn end k → HasOwn end (refreshed contents k)
refreshed_own end contents Clear h = h
refreshed_own end contents (OfPublisher request keys) h = h
refreshed_own end contents (OfSubscriber request keys) h = h

have_confirmed_at : (contents : List ℕ) (o : Option Session) (ss : List Session) (keys : RouteKeys) → HaveOwn ss keys.held
    → HaveOwn ss (confirmed_at contents o keys).held
have_confirmed_at contents None ss keys h = h
have_confirmed_at contents (Some s) ss keys h =
    λ k t found reads. put_own (end_of t.past) s.slot k (confirmed_by contents) (confirmed_own (end_of t.past) contents) keys.held (h k t found reads)

have_confirmed_for : (index : ℕ) (peer : Peer) (o : Option Confirmation) (ss : List Session) (keys : RouteKeys) → HaveOwn ss keys.held
    → HaveOwn ss (confirmed_for index peer o ss keys).held
have_confirmed_for index peer None ss keys h = h
have_confirmed_for index peer (Some c) ss keys h = have_confirmed_at c.contents (find (is_for index peer c.dest) ss) ss keys h

have_confirmed : (index : ℕ) (item : Item) (ss : List Session) (keys : RouteKeys) → HaveOwn ss keys.held → HaveOwn ss (keys_confirmed index item ss keys).held
have_confirmed index (Received d moment) ss keys h = have_confirmed_for index d.peer (confirmation_in d.bytes) ss keys h
have_confirmed index (Tick moment) ss keys h = h
have_confirmed index (Close moment) ss keys h = h

-- what step 3 makes of a datagram, as it was judged
abbrev Goes : Terms → (index clock : ℕ) → Datagram → (moment : ℕ) → List Session → Judged → Type 0
Goes e index clock d moment ss j = HaveOwn (taken e index clock (heard_as j.verdict (Received d moment)) ss).sessions j.keys.held

-- a packet with a destination
have_arrived : (e : Terms) (index clock : ℕ) (peer : Peer) (bytes : List ℕ) (q : Packet) (ss : List Session) (held : ℕ → SlotKeys)
    → packet_in bytes ≡ Ok q → (q.dest == 0) ≡ false → AreAlone e.sessions ss → HaveOwn ss held
    → HaveOwn (read_taken e index clock peer (packet_in bytes) ss).sessions held
have_arrived e index clock peer bytes q ss held read dest alone h =
    let found = find (is_for index peer q.dest) ss in
    let drains = drain_of e clock q.body ss found in
    let end = packet_end drains e q.body found in
    subst (λ (r : Result Packet PacketFault). HaveOwn (read_taken e index clock peer r ss).sessions held) (sym read)
    (subst
    (λ (b : Bool).
    HaveOwn (cond b (without_destination e index clock peer q.stamp ss (concludes q.body)) (arrived e index clock peer q ss)).sessions held)
    (sym dest)
    (have_mapped (took_packet drains end e index clock peer q) (takes_packet drains end e index clock peer q) (takes_send drains end e index clock peer q)
    e.sessions ss alone held h))

clear_dest : (k : SlotKeys) (p : Packet) → (in_clear k p).dest ≡ p.dest
clear_dest Clear p = refl
clear_dest (OfPublisher request keys) p = refl
clear_dest (OfSubscriber request keys) p = refl

decrypted_goes : (e : Terms) (index clock : ℕ) (d : Datagram) (moment : ℕ) (p : Packet) (ss : List Session) (keys : RouteKeys) (s : Session)
    → packet_in d.bytes ≡ Ok p → (p.dest == 0) ≡ false → AreAlone e.sessions ss → HaveOwn ss keys.held
    → HaveOwn (read_taken e index clock d.peer (packet_in (clear_bytes (keys.held s.slot) p d.bytes)) ss).sessions keys.held
decrypted_goes e index clock d moment p ss keys s read dest alone h =
    have_arrived e index clock d.peer (clear_bytes (keys.held s.slot) p d.bytes) (in_clear (keys.held s.slot) p) ss keys.held
    (clear_read (keys.held s.slot) p d.bytes read) (ap (λ (n : ℕ). n == 0) (clear_dest (keys.held s.slot) p) ∙ dest) alone h

answered_goes : (a : Option KeyAnswer) (contents : List ℕ) (e : Terms) (index clock : ℕ) (d : Datagram) (moment : ℕ) (p : Packet) (ss : List Session)
    (keys : RouteKeys) (s : Session) → packet_in d.bytes ≡ Ok p → (p.dest == 0) ≡ false → AreAlone e.sessions ss → HaveOwn ss keys.held
    → Goes e index clock d moment ss (answered_judged a contents clock p d.bytes keys s)
answered_goes None contents e index clock d moment p ss keys s read dest alone h =
    decrypted_goes e index clock d moment p ss keys s read dest alone h
answered_goes (Some answer) contents e index clock d moment p ss keys s read dest alone h =
    have_arrived e index clock d.peer d.bytes p ss _ read dest alone
    (λ k t found reads. put_own (end_of t.past) s.slot k (refreshed contents) (refreshed_own (end_of t.past) contents) keys.held (h k t found reads))

session_goes : (o : Option Session) (request : Option (List ℕ)) (e : Terms) (index clock : ℕ) (d : Datagram) (moment : ℕ) (p : Packet)
    (ss : List Session) (keys : RouteKeys) → packet_in d.bytes ≡ Ok p → (p.dest == 0) ≡ false → AreAlone e.sessions ss → HaveOwn ss keys.held
    → Goes e index clock d moment ss (session_judged request clock p d.bytes keys o)
session_goes None request e index clock d moment p ss keys read dest alone h = have_arrived e index clock d.peer d.bytes p ss keys.held read dest alone h
session_goes (Some s) None e index clock d moment p ss keys read dest alone h = decrypted_goes e index clock d moment p ss keys s read dest alone h
session_goes (Some s) (Some contents) e index clock d moment p ss keys read dest alone h =
    answered_goes (answer_by contents (keys.held s.slot)) contents e index clock d moment p ss keys s read dest alone h

first_end : (role : Role) → end_of (past_of role) ≡ 0
first_end Publish = refl
first_end Request = refl

-- a session that opens in a free slot with its role's keys
opened_own : (c : Conclusion) (s : Session) (ss : List Session) (held : ℕ → SlotKeys) → s.conclusion ≡ c → end_of s.past ≡ 0
    → find (is_open_in s.slot) ss ≡ None
    → (new : SlotKeys) → (publishes c.role ≡ false → HasOwn 0 new) → HaveOwn ss held → HaveOwn (s ∷ ss) (λ k. cond (k == s.slot) new (held k))
opened_own c s ss held same none_sent free new own h k t found reads = by (k == s.slot) refl (is_open_in k s) refl found
  where
    by : (b : Bool) → (k == s.slot) ≡ b → (o : Bool) → is_open_in k s ≡ o → cond o (Some s) (find (is_open_in k) ss) ≡ Some t
        → HasOwn (end_of t.past) (cond b new (held k))
    by true is true opens there =
        let one : s ≡ t = cc in
        subst (λ (n : ℕ). HasOwn n new) (sym none_sent ∙ ap (λ (u : Session). end_of u.past) one)
        (own (ap (λ (x : Conclusion). publishes x.role) (sym same ∙ ap (λ (u : Session). u.conclusion) one) ∙ reads))
    by true is false opens there =
        let none : find (is_open_in k) ss ≡ None = subst (λ (n : ℕ). find (is_open_in n) ss ≡ None) (sym (eqb-true k s.slot is)) free in
        absurd (let bad : None ≡ Some t = sym none ∙ there in cc)
    by false is true opens there =
        absurd (let bad : false ≡ true = sym is ∙ eq-eqb k s.slot (sym (open_parts k s opens).1) in cc)
    by false is false opens there = h k t there reads

-- one of a role without keys
added_own : (s : Session) (ss : List Session) (held : ℕ → SlotKeys) → publishes s.conclusion.role ≡ true → HaveOwn ss held → HaveOwn (s ∷ ss) held
added_own s ss held role h k t found reads = by (is_open_in k s) found
  where
    by : (o : Bool) → cond o (Some s) (find (is_open_in k) ss) ≡ Some t → HasOwn (end_of t.past) (held k)
    by true there =
        let one : s ≡ t = cc in
        absurd (let bad : true ≡ false = sym role ∙ (ap (λ (u : Session). publishes u.conclusion.role) one ∙ reads) in cc)
    by false there = h k t there reads

opened_has : (role : Role) (kek : List ℕ) (b : Brought) (o : KeyOpening) (keys : RouteKeys) (new : SlotKeys)
    → keys_opened role kek b o keys.pool ≡ Some new → publishes role ≡ false → HasOwn 0 new
opened_has Publish kek b o keys new is reads = absurd (let bad : true ≡ false = reads in cc)
opened_has Request kek b o keys new is reads = by (brings kek b.message) is
  where
    by : (brought : Option StreamKeys) → subscriber_by brought kek b.contents b.message o keys.pool ≡ Some new → HasOwn 0 new
    by None k = absurd (let bad : None ≡ Some new = k in cc)
    by (Some brought) k =
        let made = OfSubscriber b.contents (subscriber_of kek b.message o keys.pool) in
        let one : made ≡ new = cc in let first : HasOwn 0 made = omega arith in subst (λ (k : SlotKeys). HasOwn 0 k) one first

-- a conclusion for a role with a passphrase, of a caller without an open session
with_goes : (new : Option SlotKeys) (e : Terms) (index clock : ℕ) (d : Datagram) (moment : ℕ) (b : Brought) (o : KeyOpening) (c : Conclusion)
    (ss : List Session) (keys : RouteKeys) (s : Session)
    → (taken e index clock (Received d moment) ss).sessions ≡ s ∷ ss → s.conclusion ≡ c → end_of s.past ≡ 0 → s.slot ≡ o.slot
    → find (is_open_in s.slot) ss ≡ None
    → ((k : SlotKeys) → new ≡ Some k → publishes c.role ≡ false → HasOwn 0 k) → HaveOwn ss keys.held
    → Goes e index clock d moment ss (judged_by d.peer c b (opened_with o keys new))
with_goes None e index clock d moment b o c ss keys s new_is same none_sent slot free own h = h
with_goes (Some k) e index clock d moment b o c ss keys s new_is same none_sent slot free own h =
    subst (λ (ts : List Session). HaveOwn ts (λ n. cond (n == o.slot) k (keys.held n))) (sym new_is)
    (subst (λ (at : ℕ). HaveOwn (s ∷ ss) (λ n. cond (n == at) k (keys.held n))) slot
    (opened_own c s ss keys.held same none_sent free k (own k refl) h))

asked_goes : (decided : Result ℕ RefusalCause) (e : Terms) (index clock : ℕ) (d : Datagram) (moment stamp : ℕ) (passphrase : List ℕ) (b : Brought)
    (cookie : ℕ) (c : Conclusion) (ss : List Session) (keys : RouteKeys)
    → decision e d.peer c ss ≡ decided
    → (taken e index clock (Received d moment) ss).sessions ≡ (considered e index clock d.peer stamp c ss decided).sessions
    → HaveOwn ss keys.held
    → Goes e index clock d moment ss (asked passphrase b index clock d.peer cookie c ss keys decided)
asked_goes (Err cause) e index clock d moment stamp passphrase b cookie c ss keys is new_is h =
    subst (λ (ts : List Session). HaveOwn ts keys.held) (sym new_is) h
asked_goes (Ok slot) e index clock d moment stamp passphrase b cookie c ss keys is new_is h = by (is_admitted keys.moments (derivation_of o))
  where
    o : KeyOpening
    o = key_opening index clock d.peer cookie c.role slot (generation_of ss slot)

    later : RouteKeys
    later = record keys { moments = moments_with (derivation_of o) keys.moments }

    by : (admitted : Bool) → Goes e index clock d moment ss (judged_by d.peer c b (opening_if admitted passphrase b o keys))
    by true =
        with_goes (keys_opened c.role (kek_for passphrase b.message) b o keys.pool) e index clock d moment b o c ss later
        (session_opened clock d.peer stamp c slot (generation_of ss slot)) new_is refl (first_end c.role) refl
        (free_is_vacant e ss slot (decided_slot e d.peer c ss slot is).free)
        (λ k made reads. opened_has c.role (kek_for passphrase b.message) b o keys k made reads) h
    by false = h

-- any conclusion
conclusion_goes : (passphrase : Option (List ℕ)) (b : Option Brought) (found : Option Session) (e : Terms) (index clock : ℕ) (d : Datagram)
    (moment stamp cookie : ℕ) (c : Conclusion) (ss : List Session) (keys : RouteKeys)
    → (passphrase ≡ None → publishes c.role ≡ true)
    → (taken e index clock (Received d moment) ss).sessions ≡ (concluded e index clock d.peer stamp c ss found).sessions
    → AreAlone e.sessions ss → HaveOwn ss keys.held
    → Goes e index clock d moment ss (conclusion_judged passphrase b e index clock d.peer cookie c ss keys found)
conclusion_goes (Some p) None found e index clock d moment stamp cookie c ss keys role new_is alone h = h
conclusion_goes (Some p) (Some b) (Some s) e index clock d moment stamp cookie c ss keys role new_is alone h =
    subst (λ (ts : List Session). HaveOwn ts keys.held) (sym new_is)
    (have_mapped (λ t. heard_if (is_of d.peer c.caller t) clock t) (hears d.peer c.caller clock) (hears_send (is_of d.peer c.caller) clock) e.sessions ss
    alone keys.held h)
conclusion_goes (Some p) (Some b) None e index clock d moment stamp cookie c ss keys role new_is alone h =
    asked_goes (decision e d.peer c ss) e index clock d moment stamp p b cookie c ss keys refl new_is h
conclusion_goes None b (Some s) e index clock d moment stamp cookie c ss keys role new_is alone h =
    subst (λ (ts : List Session). HaveOwn ts keys.held) (sym new_is)
    (have_mapped (λ t. heard_if (is_of d.peer c.caller t) clock t) (hears d.peer c.caller clock) (hears_send (is_of d.peer c.caller) clock) e.sessions ss
    alone keys.held h)
conclusion_goes None b None e index clock d moment stamp cookie c ss keys role new_is alone h =
    subst (λ (ts : List Session). HaveOwn ts keys.held) (sym new_is) (by (decision e d.peer c ss))
  where
    by : (decided : Result ℕ RefusalCause) → HaveOwn (considered e index clock d.peer stamp c ss decided).sessions keys.held
    by (Err cause) = h
    by (Ok slot) = added_own (session_opened clock d.peer stamp c slot (generation_of ss slot)) ss keys.held (role refl) h

-- without a passphrase the role isn't Request
clear_role : (e : Terms) (role : Role) → secures e Request ≡ true → passphrase_of e role ≡ None → publishes role ≡ true
clear_role e Publish secured none = refl
clear_role e Request secured none =
    absurd (let bad : is_some (passphrase_of e Request) ≡ false = ap (λ (o : Option (List ℕ)). is_some o) none in
    let worse : true ≡ false = sym secured ∙ bad in cc)

info_goes : (o : Option Conclusion) (e : Terms) (index clock : ℕ) (d : Datagram) (moment stamp : ℕ) (info : List ℕ) (ss : List Session)
    (keys : RouteKeys) → secures e Request ≡ true
    → (taken e index clock (Received d moment) ss).sessions ≡ (without_destination e index clock d.peer stamp ss o).sessions
    → AreAlone e.sessions ss → HaveOwn ss keys.held
    → Goes e index clock d moment ss (info_judged e index clock d.peer info ss keys o)
info_goes None e index clock d moment stamp info ss keys secured new_is alone h = subst (λ (ts : List Session). HaveOwn ts keys.held) (sym new_is) h
info_goes (Some c) e index clock d moment stamp info ss keys secured new_is alone h =
    conclusion_goes (passphrase_of e c.role) (brought_in info) (find (is_of d.peer c.caller) ss) e index clock d moment stamp (cookie_in info) c ss keys
    (clear_role e c.role secured) new_is alone h

packet_goes : (zero : Bool) (e : Terms) (index clock : ℕ) (d : Datagram) (moment : ℕ) (p : Packet) (ss : List Session) (keys : RouteKeys)
    → secures e Request ≡ true → packet_in d.bytes ≡ Ok p → (p.dest == 0) ≡ zero → AreAlone e.sessions ss → HaveOwn ss keys.held
    → Goes e index clock d moment ss
    (cond zero (info_judged e index clock d.peer (info_of p.body) ss keys (concludes p.body))
    (session_judged (request_in d.bytes) clock p d.bytes keys (find (is_for index d.peer p.dest) ss)))
packet_goes true e index clock d moment p ss keys secured read dest alone h =
    info_goes (concludes p.body) e index clock d moment p.stamp (info_of p.body) ss keys secured
    (ap (λ (r : Result Packet PacketFault). (read_taken e index clock d.peer r ss).sessions) read
    ∙ ap
    (λ (b : Bool). (cond b (without_destination e index clock d.peer p.stamp ss (concludes p.body)) (arrived e index clock d.peer p ss)).sessions) dest)
    alone h
packet_goes false e index clock d moment p ss keys secured read dest alone h =
    session_goes (find (is_for index d.peer p.dest) ss) (request_in d.bytes) e index clock d moment p ss keys read dest alone h

read_goes : (read : Result Packet PacketFault) (e : Terms) (index clock : ℕ) (d : Datagram) (moment : ℕ) (ss : List Session) (keys : RouteKeys)
    → secures e Request ≡ true → packet_in d.bytes ≡ read → AreAlone e.sessions ss → HaveOwn ss keys.held
    → Goes e index clock d moment ss (read_judged e index clock d.peer read d.bytes ss keys)
read_goes (Ok p) e index clock d moment ss keys secured is alone h = packet_goes (p.dest == 0) e index clock d moment p ss keys secured is refl alone h
read_goes (Err fault) e index clock d moment ss keys secured is alone h =
    subst (λ (r : Result Packet PacketFault). HaveOwn (read_taken e index clock d.peer r ss).sessions keys.held) (sym is) h

item_goes : (e : Terms) (index clock : ℕ) (item : Item) (ss : List Session) (keys : RouteKeys) → secures e Request ≡ true → AreAlone e.sessions ss
    → HaveOwn ss keys.held
    → HaveOwn (taken e index clock (heard_as (item_judged e index clock item ss keys).verdict item) ss).sessions
    (item_judged e index clock item ss keys).keys.held
item_goes e index clock (Received d moment) ss keys secured alone h = read_goes (packet_in d.bytes) e index clock d moment ss keys secured refl alone h
item_goes e index clock (Tick moment) ss keys secured alone h = h
item_goes e index clock (Close moment) ss keys secured alone h = have_mapped ended ends (λ s. refl) e.sessions ss alone keys.held h

has_role : (publish request : Bool) → request ≡ true → (publish || request) ≡ true
has_role true request h = refl
has_role false request h = h

judged_goes : (secured : Bool) (e : Terms) (index clock : ℕ) (item : Item) (ss : List Session) (keys : RouteKeys) → secured ≡ true
    → secures e Request ≡ true → AreAlone e.sessions ss → HaveOwn ss keys.held
    → HaveOwn (taken e index clock (heard_as (judged_if secured e index clock item ss keys).verdict item) ss).sessions
    (judged_if secured e index clock item ss keys).keys.held
judged_goes true e index clock item ss keys is secured alone h =
    item_goes e index clock item ss (keys_confirmed index item ss (keys_kept ss keys)) secured alone
    (have_confirmed index item ss (keys_kept ss keys) (have_kept ss keys.held h))
judged_goes false e index clock item ss keys is secured alone h = absurd (let bad : false ≡ true = is in cc)

-- at the end of an event
pub passed_own : (e : Terms) (index : ℕ) (item : Item) (m : Route) → secures e Request ≡ true → AreAlone e.sessions m.sessions → HaveOwn m.sessions m.keys.held
    → HaveOwn (passed_by e index item m) (judgement e index item m).keys.held
passed_own e index item m secured alone h =
    let clock = clock_after item m in
    let early = advanced e clock m.sessions in
    let early_alone = advanced_alone e clock m.sessions alone in
    let j = judgement e index item m in
    have_delivered e clock (taken_by e index item m).sessions (taken_alone e index clock (heard_as j.verdict item) early early_alone) j.keys.held
    (judged_goes (has_secured_role e) e index clock item early m.keys (has_role (secures e Publish) (secures e Request) secured) secured early_alone
    (have_advanced e clock m.sessions alone m.keys.held h))

-- an announcement confirms nothing
with_same : (announced : Bool) (time : ℕ) (keys : Keys) → payloads_confirmed (keys_with announced time keys) ≡ payloads_confirmed keys
with_same true time keys = refl
with_same false time keys = refl

said_own : (end time : ℕ) (past : Past) (k : SlotKeys) → HasOwn end k → HasOwn end (keys_said time past k)
said_own end time (Publishes p) k h = h
said_own end time (Subscribes s) Clear h = h
said_own end time (Subscribes s) (OfPublisher request keys) h = h
said_own end time (Subscribes s) (OfSubscriber request keys) h =
    subst (λ (n : ℕ). end ≤ n) (sym (with_same (is_announced keys time s) time keys)) h

in_slot_own : (end clock : ℕ) (o : Option Session) (k : SlotKeys) → HasOwn end k → HasOwn end (keys_in_slot clock o k)
in_slot_own end clock None k h = h
in_slot_own end clock (Some s) k h = said_own end (time_in s clock) s.past k h

-- what is sent at the end of an event has a confirmed key
reported_own : (few : Bool) (keys : Keys) (terms : subscriber.Terms) (time : ℕ) (recent : Bool) (m : subscriber.Subscribing) → has_few m ≡ few
    → sent_end m.sending.marks ≤ payloads_confirmed keys
    → sent_end (keyed.reported_if few keys terms time recent m).sending.marks ≤ payloads_confirmed keys
reported_own true keys terms time recent m is h =
    let few : length m.sending.queue < 2 ^ 64 = grind (arith, nat_tests, is) in
    stays_below_bounds.stays terms time recent (payloads_confirmed keys) m few h
reported_own false keys terms time recent m is h = h

past_own : (k : SlotKeys) (draining : Bool) (terms : Agreed) (time : ℕ) (recent : Bool) (past : Past) → HasOwn (end_of past) k
    → HasOwn (end_of (reported_past (own_keys k) draining terms time recent past)) k
past_own Clear draining terms time recent past h = absurd h
past_own (OfPublisher request keys) draining terms time recent past h = absurd h
past_own (OfSubscriber request keys) draining terms time recent (Publishes p) h = h
past_own (OfSubscriber request keys) draining terms time recent (Subscribes m) h = reported_own (has_few m) keys terms.subscriber time recent m refl h

session_own : (whole : Bool) (k : SlotKeys) (e : Terms) (clock : ℕ) (s : Session) → HasOwn (end_of s.past) k
    → HasOwn (end_of (finished_at whole (own_keys k) e clock s).past) k
session_own true k e clock s h = h
session_own false k e clock s h = by s.is_open
  where
    by : (b : Bool) → HasOwn (end_of (reported_at (own_keys k) e b clock s).past) k
    by true = past_own k (is_draining s) (terms_of e s) (time_in s clock) (is_recent s clock) s.past h
    by false = h

finished_own : (e : Terms) (clock : ℕ) (over : Bool) (ss : List Session) (keys : RouteKeys) → secures e Request ≡ true → AreAlone e.sessions ss
    → HaveOwn ss keys.held
    → HaveOwn (map (finished (own_in e keys) e clock over) ss) (keys_finished_if (secures e Request) clock ss keys).held
finished_own e clock over ss keys secured alone h k t found reads =
    subst (λ (b : Bool). HasOwn (end_of t.past) ((keys_finished_if b clock ss keys).held k)) (sym secured)
    (in_slot_own (end_of t.past) clock (find (is_open_in k) ss) (keys.held k) here)
  where
    f : Session → Session
    f = finished (own_in e keys) e clock over

    from : (s : Session) × (find (is_open_in k) ss ≡ Some s) × ((f s).is_open ≡ true) × (f s ≡ t)
    from = changed_from f (finishes (own_in e keys) e clock over) k e.sessions ss alone t found

    mine : own_in e keys from.0.slot ≡ own_keys (keys.held k)
    mine = ap (λ (n : ℕ). own_in e keys n) (open_parts k from.0 (found_passes (is_open_in k) ss from.0 from.1)).1
        ∙ ap (λ (b : Bool). own_if b keys.held k) secured

    role : publishes from.0.conclusion.role ≡ false
    role = ap (λ (c : Conclusion). publishes c.role)
        (sym ((finishes (own_in e keys) e clock over).conclusion from.0) ∙ ap (λ (u : Session). u.conclusion) from.3) ∙ reads

    here : HasOwn (end_of t.past) (keys.held k)
    here =
        subst (λ (u : Session). HasOwn (end_of u.past) (keys.held k))
        (ap (λ (o : Option Keys). finished_at (has_whole_file over from.0) o e clock from.0) (sym mine) ∙ from.3)
        (session_own (has_whole_file over from.0) (keys.held k) e clock from.0 (h k from.0 from.1 role))

event_own : (is_closed : Bool) (e : Terms) (index : ℕ) (item : Item) (m : Route) → secures e Request ≡ true → AreAlone e.sessions m.sessions
    → HaveOwn m.sessions m.keys.held → HaveOwn (sessions_at is_closed e index item m) (keys_at is_closed e index item m).held
event_own true e index item m secured alone h = h
event_own false e index item m secured alone h =
    let clock = clock_after item m in
    let ss = passed_by e index item m in
    let over = is_file_over e ss in
    let own = own_by e index item m in
    let taken_are = taken_alone e index clock (heard_as (judgement e index item m).verdict item) (advanced e clock m.sessions)
    (advanced_alone e clock m.sessions alone) in
    finished_own e clock over ss (judgement e index item m).keys secured (after_delivery_alone e clock (taken_by e index item m).sessions taken_are)
    (passed_own e index item m secured alone h)

own_before : (e : Terms) (clock : ℕ) (m : Route) → AreAlone e.sessions m.sessions → HaveOwn m.sessions m.keys.held
    → HaveOwn (giving_up e clock m).sessions m.keys.held
own_before e clock m alone h = by (secures e Request && not m.is_closed)
  where
    by : (b : Bool) → HaveOwn (given_up_if b (own_in e m.keys) clock m.sessions) m.keys.held
    by true =
        have_mapped (given_up (own_in e m.keys) clock) (gives_up (own_in e m.keys) clock) (gives_up_send (own_in e m.keys) clock) e.sessions m.sessions
        alone m.keys.held h
    by false = h

pub have_own : (e : Terms) (index : ℕ) (items : List Item) → secures e Request ≡ true → HaveOwn (after e index items).sessions (after e index items).keys.held
have_own e index [] secured = λ k s found reads. absurd (let bad : None ≡ Some s = found in cc)
have_own e index (item ∷ items) secured =
    let m = after e index items in
    event_own m.is_closed e index item (route_before e index item items) secured (before_are_alone e index items item)
    (own_before e (clock_after item m) m (are_alone e index items) (have_own e index items secured))

pub before_have_own : (e : Terms) (index : ℕ) (items : List Item) (item : Item) → secures e Request ≡ true
    → HaveOwn (route_before e index item items).sessions (after e index items).keys.held
before_have_own e index items item secured =
    let m = after e index items in own_before e (clock_after item m) m (are_alone e index items) (have_own e index items secured)
