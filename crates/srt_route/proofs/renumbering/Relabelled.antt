-- A route with the same items, but other sequence numbers, other timestamps or later times.
use Rattle.std.proofs.Common.{◌≡◌, ℕ, ◌+◌, ◌-◌, Bool, true, false, cond, ◌&&◌, ◌||◌, not, Option, None, Some, List, [], ◌∷◌, ◌++◌, map, max}
use Rattle.std.proofs.Common.{Result, Ok, Err, refl, sym, ap, subst, ◌∙◌, ◌≤◌, arith}
use Rattle.std.specs.Prelude.{⊤, find, filter, option_map, nat_le, nat_lt, fold, length, ◌==◌}
use Rattle.std.specs.List.{flat_map}
use Rattle.std.specs.Option.{is_some}
use Rattle.std.proofs.lemmas.Bool.Decides.{nat_tests}
use Rattle.std.proofs.lemmas.List.{length-map, map-append}
use Rattle.srt_types.specs.declared.shared.Callers.{Callers}
use Rattle.srt_types.specs.declared.shared.Callers.TheVariants.{Draft, Libsrt}
use Rattle.srt_types.specs.declared.shared.Mode.{Mode}
use Rattle.srt_types.specs.declared.shared.Mode.TheVariants.{Live, Buffer}
use Rattle.srt_types.specs.declared.shared.Peer.{Peer}
use Rattle.srt_types.specs.declared.shared.Role.{Role}
use Rattle.srt_types.specs.declared.shared.Role.TheVariants.{Publish, Request}
use Rattle.srt_types.specs.Lift.{stamped_from}
use Rattle.srt_types.specs.Runs.{numbers_from}
use Rattle.srt_types.specs.Terms.{Terms}
use Rattle.srt_types.specs.Items.{Datagram, Item, Received, Tick, Close, moment_of}
use Rattle.srt_packet.specs.declared.reading.PacketFault.{PacketFault}
use Rattle.srt_packet.specs.Grammar.{Packet, Body, Data, Handshake, KeepAlive, Ack, Nak, CongestionWarning, Shutdown, AckAck, DropRequest}
use Rattle.srt_packet.specs.Grammar.{PeerError, UserDefined}
use Rattle.srt_packet.specs.Reading.{packet_in}
use Rattle.srt_hs.specs.declared.writing.HsAnswer.{HsAnswer}
use Rattle.srt_route.specs.declared.refusals.RefusalCause.{RefusalCause}
use Rattle.srt_pub.specs.Heard as to_publisher
use Rattle.srt_pub.specs.Publishing as publisher
use Rattle.srt_sub.specs.Heard as to_subscriber
use Rattle.srt_sub.specs.Subscribing as subscriber
use Rattle.srt_route.specs.declared.conclusion_reading.Conclusion.{Conclusion}
use Rattle.srt_route.specs.Past.{Past, Publishes, Subscribes, Agreed, Report, ToSubscriber, took_past, is_shutdown, ends_with, answers_to}
use Rattle.srt_route.specs.Past.{has_left, reported_past, reports_of}
use Rattle.srt_route.specs.Past.{least_with, loses_window, payloads_of, publisher_end, silence_of}
use Rattle.srt_route.specs.Sessions.{Session, is_publisher, is_subscriber, open_publishers, active, is_active, is_open_in, by_slot, is_free}
use Rattle.srt_route.specs.Sessions.{free_slot, generation_of, time_in, stamp_in, is_idle, aged_at, aged, terms_of, took_at, took}
use Rattle.srt_route.specs.Sessions.{advanced, free_slots, has_failed, is_from, is_silent, is_standby, marked, marked_if, sessions_from, standby}
use Rattle.srt_route.specs.Sessions.{takeover_us, takes_over, takes_over_after, answered_at_once, passed_at, passed, reports_at, reported_at, reported}
use Rattle.srt_route.specs.KeyRefresh.{Confirmation, answer_by, confirmation_in, confirmed_by, refreshed, request_in}
use Rattle.srt_session_keys.specs.Publisher.{response_to}
use Rattle.srt_session_keys.specs.declared.publisher.KeyAnswer.{KeyAnswer}
use Rattle.srt_route.specs.Route.{Responds, answered_judged, confirmed_at, confirmed_for, decrypted_judged, keys_confirmed}
use Rattle.srt_route.specs.Route.{Route, Taken, Output, Answers, AnswersWithKeys, Says, Ends, Reply, clock_after, closes, ended, shutdown_to, closed}
use Rattle.srt_route.specs.Route.{decided, decision, idle_notified, is_crowded, is_reserved, lost_notified, notified_if}
use Rattle.srt_route.specs.Route.{session_opened, with_session, opens, considered, refused, is_of, heard_if, concluded, is_for, took_if}
use Rattle.srt_route.specs.Route.{said_by, answered_by, arrived, concludes, without_destination, packet_taken, read_taken, taken}
use Rattle.srt_route.specs.Route.{least_room, delivery_of, delivery, room_if, delivered, packets_at, packets_where, taken_by, passed_by}
use Rattle.srt_session_keys.specs.Subscriber.{Subscriber as Keys}
use Rattle.srt_route.specs.EncryptedOutput.{KeyedOutput}
use Rattle.srt_route.specs.Past.{outputs_of}
use Rattle.srt_route.specs.Sessions.{outputs_at}
use Rattle.srt_route.specs.RouteKeys.{own_if, own_keys, secures}
use Rattle.srt_route.specs.Route.{SaysWithKeys, keyed_by, keyed_packets_at, keys_finished_if, keys_in_slot, keys_said, own_by}
use Rattle.srt_route.specs.Route.{replies_at, replies_to, sessions_at, with_input, after}
use Rattle.srt_route.specs.Route.{finished, finished_at, has_whole_file, is_file_over, packet_end, sends_files, served, served_at, took_packet}
use Rattle.srt_route.specs.Sessions.{drains_open, ends_unless, is_draining, is_over, is_over_at, is_recent, is_same_peer, is_silent_at}
use Rattle.srt_route.specs.Sessions.{number_draining}
use Rattle.srt_route.specs.Sessions.{of_libsrt, renewed, session_id, settled, settled_at, silent_end, speaks, takes_over_if, time_end, with_end}
use Rattle.srt_route.specs.Route.{after_delivery, drain_end, drain_if, drain_of, gives_some, is_some_payload, settled_by}
use Rattle.srt_session_keys.specs.Limiter.{Moments, Request as Derivation, delayed, is_admitted, moments_after, moments_with}
use Rattle.srt_session_keys.specs.Source.{Pool}
use Rattle.srt_session_keys.specs.Wrapping.{StreamKeys, brings}
use Rattle.srt_session_keys.proofs.Delayed.{delays_change_nothing}
use Rattle.srt_route.specs.declared.slot_keys.KeyOpening.{KeyOpening}
use Rattle.srt_route.specs.RouteKeys.{Brought, RouteKeys, SlotKeys, brought_in, cookie_in, derivation_of, first_keys, has_secured_role, kek_for, keys_opened}
use Rattle.srt_route.specs.RouteKeys.{opened_with, opening, opening_if, passphrase_of, pool_opened, request_of, subscriber_by}
use Rattle.srt_route.specs.Route.{Judged, Verdict, Passes, Ignored, Refused, Repeats, answers_as, asked, conclusion_judged, heard_as, info_judged}
use Rattle.srt_route.specs.Route.{info_of, item_judged, judged_by, judged_if, judgement, kept_at, key_opening, keys_at, keys_kept, output_with, packet_judged}
use Rattle.srt_route.specs.Route.{read_judged, reply_with, taken_as as taken_with}
use Rattle.srt_route.specs.Route.{Decrypted, Answered, session_judged, with_bytes}
use Rattle.srt_route.specs.RouteKeys.{Clear, OfPublisher, OfSubscriber}
use Rattle.srt_route.specs.Decryption.{clear_bytes, in_clear}
use Rattle.srt_session_keys.specs.Publisher.{Publisher, decrypted_body, decrypted_data, named_key}
use Rattle.srt_route.proofs.model.Decrypting.{clear_read}
use Rattle.srt_route.proofs.model.Standbys.{publishers_through, active_through, is_active_through}
use Rattle.srt_route.proofs.model.Lists.{map_through, any_through, filter_same, filter_through, find_through, find_same, flat_through, picked_through}
use Rattle.srt_route.proofs.model.Lists.{fold_through}
use Rattle.srt_route.specs.GivingUp.{given_up, given_up_at, given_up_if, is_late, is_unconfirmed}
use Rattle.srt_route.specs.Route.{found_by, route_before}
use Rattle.srt_route.specs.RouteKeys.{own_in}
use Rattle.srt_route.specs.Route.{announced_past, announced_to}

-- the values that change: timestamps, initial numbers, times. The distance of two timestamps stays
pub record Change : Type 0 where
  pub stamp : ℕ → ℕ
  pub initial : ℕ → ℕ
  pub later : ℕ
  pub stamps_stay : (first word : ℕ) → stamped_from (stamp first) (stamp word) ≡ stamped_from first word
  -- whether packets are decrypted; then no number changes, since it is part of a key stream
  pub secured : Bool
  pub numbers_stay : secured ≡ true → (n : ℕ) → initial n ≡ n

abbrev pub changed_conclusion : Change → Conclusion → Conclusion
changed_conclusion r c = record c { initial = r.initial c.initial }

-- the time until which a session drains is later too
abbrev pub shifted : (later : ℕ) → Option ℕ → Option ℕ
shifted later None = None
shifted later (Some until) = Some (until + later)

abbrev pub changed_session : Change → Session → Session
changed_session r s =
    record s {
      stamp = r.stamp s.stamp;
      conclusion = changed_conclusion r s.conclusion;
      opening = s.opening + r.later;
      heard = s.heard + r.later;
      drains = shifted r.later s.drains;
    }

abbrev pub changed_answer : Change → HsAnswer → HsAnswer
changed_answer r a = record a { initial = r.initial a.initial }

abbrev pub changed_output : Change → Output → Output
changed_output r (Answers caller answer) = Answers caller (changed_answer r answer)
changed_output r (AnswersWithKeys caller request answer) = AnswersWithKeys caller request (changed_answer r answer)
changed_output r (Says caller initial time report) = Says caller (r.initial initial) time report
changed_output r (Ends caller time) = Ends caller time
changed_output r (Responds caller time contents) = Responds caller time contents
changed_output r (SaysWithKeys output) = SaysWithKeys output

abbrev pub changed_reply : Change → Reply → Reply
changed_reply r x = record { peer = x.peer; packet = changed_output r x.packet }

-- the other packet has the same effect on every session, and is for the same session
pub record IsChangedPacket (r : Change) (q p : Packet) : Type 0 where
  pub stamp_is : q.stamp ≡ r.stamp p.stamp
  pub dest_is : q.dest ≡ p.dest
  pub publisher_hears : (initial : ℕ) → to_publisher.heard_from (r.initial initial) q.body ≡ to_publisher.heard_from initial p.body
  pub subscriber_hears : (initial : ℕ) → to_subscriber.heard_from (r.initial initial) q.body ≡ to_subscriber.heard_from initial p.body
  pub shutdown_is : is_shutdown q.body ≡ is_shutdown p.body
  pub concludes_is : concludes q.body ≡ option_map (changed_conclusion r) (concludes p.body)
  pub brought_is : brought_in (info_of q.body) ≡ brought_in (info_of p.body)
  pub cookie_is : cookie_in (info_of q.body) ≡ cookie_in (info_of p.body)
  pub body_is : r.secured ≡ true → q.body ≡ p.body

abbrev pub IsChangedReading : Change → Result Packet PacketFault → Result Packet PacketFault → Type 0
IsChangedReading r (Ok q) (Ok p) = IsChangedPacket r q p
IsChangedReading r (Err f) (Err g) = ⊤
IsChangedReading r (Ok q) (Err g) = ⊥
IsChangedReading r (Err f) (Ok p) = ⊥

pub record IsChangedDatagram (r : Change) (d c : Datagram) : Type 0 where
  pub peer_is : d.peer ≡ c.peer
  pub reading_is : IsChangedReading r (packet_in d.bytes) (packet_in c.bytes)

abbrev pub IsChangedItem : Change → Item → Item → Type 0
IsChangedItem r (Received d n) (Received c m) = IsChangedDatagram r d c × (n ≡ m + r.later)
IsChangedItem r (Tick n) (Tick m) = n ≡ m + r.later
IsChangedItem r (Close n) (Close m) = n ≡ m + r.later
IsChangedItem r (Received d n) (Tick m) = ⊥
IsChangedItem r (Tick n) (Received c m) = ⊥
IsChangedItem r (Received d n) (Close m) = ⊥
IsChangedItem r (Tick n) (Close m) = ⊥
IsChangedItem r (Close n) (Received c m) = ⊥
IsChangedItem r (Close n) (Tick m) = ⊥

-- the contents of the KMREQ that an item is, if it is one
abbrev pub item_request : Item → Option (List ℕ)
item_request (Received d n) = request_in d.bytes
item_request (Tick n) = None
item_request (Close n) = None

-- the KMRSP that an item is, if it is one
abbrev pub item_confirmation : Item → Option Confirmation
item_confirmation (Received d n) = confirmation_in d.bytes
item_confirmation (Tick n) = None
item_confirmation (Close n) = None

pub record IsChangedInput (r : Change) (j i : Item) : Type 0 where
  pub item_is : IsChangedItem r j i
  pub asks_the_same : r.secured ≡ true → item_request j ≡ item_request i
  pub confirms_the_same : r.secured ≡ true → item_confirmation j ≡ item_confirmation i

abbrev pub AreChanged : Change → List Item → List Item → Type 0
AreChanged r [] [] = ⊤
AreChanged r (j ∷ js) (i ∷ is) = IsChangedInput r j i × AreChanged r js is
AreChanged r [] (i ∷ is) = ⊥
AreChanged r (j ∷ js) [] = ⊥

-- time advances the same
time_same : (opening clock later : ℕ) → (clock + later) - (opening + later) ≡ clock - opening
time_same opening clock later = omega arith

some_same : (later : ℕ) (o : Option ℕ) → is_some (shifted later o) ≡ is_some o
some_same later None = refl
some_same later (Some until) = refl

draining_same : (r : Change) (s : Session) → is_draining (changed_session r s) ≡ is_draining s
draining_same r s = some_same r.later s.drains

silent_at_same : (later : ℕ) (o : Option ℕ) (heard clock : ℕ) → is_silent_at (shifted later o) (heard + later) (clock + later) ≡ is_silent_at o heard clock
silent_at_same later None heard clock = ap (nat_le 5_000_000) (time_same heard clock later)
silent_at_same later (Some until) heard clock = refl

idle_same : (r : Change) (clock : ℕ) (s : Session) → is_idle (changed_session r s) (clock + r.later) ≡ is_idle s clock
idle_same r clock s = ap (λ (b : Bool). s.is_given_up || b) (silent_at_same r.later s.drains s.heard clock)

le_same : (a b later : ℕ) → nat_le (a + later) (b + later) ≡ nat_le a b
le_same a b later = by (nat_le (a + later) (b + later)) (nat_le a b) refl refl
  where
    by : (x y : Bool) → nat_le (a + later) (b + later) ≡ x → nat_le a b ≡ y → x ≡ y
    by true true h k = refl
    by false false h k = refl
    by true false h k = absurd (let l : a + later ≤ b + later = grind (arith, nat_tests, h) in
        let n : a ≤ b = omega (arith, l) in
        let m : nat_le a b ≡ true = grind (arith, nat_tests, n) in
        let bad : true ≡ false = sym m ∙ k in
        cc)
    by false true h k = absurd (let l : a ≤ b = grind (arith, nat_tests, k) in
        let n : a + later ≤ b + later = omega (arith, l) in
        let m : nat_le (a + later) (b + later) ≡ true = grind (arith, nat_tests, n) in
        let bad : true ≡ false = sym m ∙ h in
        cc)

over_at_same : (later : ℕ) (o : Option ℕ) (heard clock : ℕ) → is_over_at (shifted later o) (heard + later) (clock + later) ≡ is_over_at o heard clock
over_at_same later None heard clock = ap (nat_le 5_000_000) (time_same heard clock later)
over_at_same later (Some until) heard clock = le_same until clock later

recent_same : (r : Change) (clock : ℕ) (s : Session) → is_recent (changed_session r s) (clock + r.later) ≡ is_recent s clock
recent_same r clock s = ap (λ n. nat_lt n 1_000_000) (time_same s.heard clock r.later)

ends_over_same : (r : Change) (clock : ℕ) (s : Session) → is_over (changed_session r s) (clock + r.later) ≡ is_over s clock
ends_over_same r clock s = ap (λ (b : Bool). s.is_given_up || b) (over_at_same r.later s.drains s.heard clock)

own_time : (r : Change) (clock : ℕ) (s : Session) → time_in (changed_session r s) (clock + r.later) ≡ time_in s clock
own_time r clock s = time_same s.opening clock r.later

-- a session ages the same
aged_at_same : (e : Terms) (r : Change) (lives : Bool) (time : ℕ) (s : Session)
    → aged_at e lives time (changed_session r s) ≡ changed_session r (aged_at e lives time s)
aged_at_same e r true time s = refl
aged_at_same e r false time s = refl

aged_same : (e : Terms) (r : Change) (clock : ℕ) (s : Session) → aged e (clock + r.later) (changed_session r s) ≡ changed_session r (aged e clock s)
aged_same e r clock s =
    ap (λ over. aged_at e (s.is_open && not over) (time_in (changed_session r s) (clock + r.later)) (changed_session r s)) (ends_over_same r clock s)
    ∙ ap (λ t. aged_at e (s.is_open && not (is_over s clock)) t (changed_session r s)) (own_time r clock s)
    ∙ aged_at_same e r (s.is_open && not (is_over s clock)) (time_in s clock) s

-- the standby takes over the same
silent_same : (r : Change) (limit clock : ℕ) (s : Session) → is_silent limit (clock + r.later) (changed_session r s) ≡ is_silent limit clock s
silent_same r limit clock s = ap (λ t. nat_le limit (silence_of t s.past)) (own_time r clock s)

failed_same : (r : Change) (limit clock : ℕ) (o p : Option Session)
    → has_failed limit (clock + r.later) (option_map (changed_session r) o) (option_map (changed_session r) p) ≡ has_failed limit clock o p
failed_same r limit clock (Some s) (Some t) =
    ap (λ b. b && not (is_silent limit (clock + r.later) (changed_session r t))) (silent_same r limit clock s)
    ∙ ap (λ b. is_silent limit clock s && not b) (silent_same r limit clock t)
failed_same r limit clock (Some s) None = refl
failed_same r limit clock None p = refl

standby_same : (r : Change) (ss : List Session) → standby (map (changed_session r) ss) ≡ option_map (changed_session r) (standby ss)
standby_same r ss =
    find_through (changed_session r) (is_standby (map (changed_session r) ss)) (is_standby ss)
    (λ s. ap (λ b. is_publisher s && not b) (is_active_through (changed_session r) (λ t. refl) (λ t. refl) (λ t. refl) ss s)) ss

drains_same : (r : Change) (ss : List Session) → number_draining (map (changed_session r) ss) ≡ number_draining ss
drains_same r ss =
    ap length (filter_through (changed_session r) drains_open drains_open (λ s. ap (λ b. s.is_open && b) (draining_same r s)) ss)
    ∙ length-map (filter drains_open ss) (changed_session r)

takes_over_same : (e : Terms) (r : Change) (clock : ℕ) (ss : List Session) → takes_over e (clock + r.later) (map (changed_session r) ss) ≡ takes_over e clock ss
takes_over_same e r clock ss =
    ap (λ n. takes_over_if (not (n == 0)) (takeover_us e.mode e.rules.takeover_ms) (clock + r.later) (map (changed_session r) ss)) (drains_same r ss)
    ∙ unless (not (number_draining ss == 0)) (by (takeover_us e.mode e.rules.takeover_ms))
  where
    unless : (b : Bool)
        → takes_over_after (takeover_us e.mode e.rules.takeover_ms) (clock + r.later) (map (changed_session r) ss)
        ≡ takes_over_after (takeover_us e.mode e.rules.takeover_ms) clock ss
        → takes_over_if b (takeover_us e.mode e.rules.takeover_ms) (clock + r.later) (map (changed_session r) ss)
        ≡ takes_over_if b (takeover_us e.mode e.rules.takeover_ms) clock ss
    unless true h = refl
    unless false h = h

    by : (l : Option ℕ) → takes_over_after l (clock + r.later) (map (changed_session r) ss) ≡ takes_over_after l clock ss
    by None = refl
    by (Some limit) =
        ap (λ o. has_failed limit (clock + r.later) o (standby (map (changed_session r) ss)))
        (active_through (changed_session r) (λ s. refl) (λ s. refl) ss)
        ∙ ap (λ o. has_failed limit (clock + r.later) (option_map (changed_session r) (active ss)) o) (standby_same r ss)
        ∙ failed_same r limit clock (active ss) (standby ss)

mark_same : (r : Change) (b m : Bool) (s : Session)
    → cond b (record (changed_session r s) { took_over = m }) (changed_session r s) ≡ changed_session r (cond b (record s { took_over = m }) s)
mark_same r true m s = refl
mark_same r false m s = refl

marked_same : (r : Change) (ss : List Session) (s : Session) → marked (map (changed_session r) ss) (changed_session r s) ≡ changed_session r (marked ss s)
marked_same r ss s =
    ap (λ b. cond (is_publisher s) (record (changed_session r s) { took_over = not b }) (changed_session r s))
    (is_active_through (changed_session r) (λ t. refl) (λ t. refl) (λ t. refl) ss s)
    ∙ mark_same r (is_publisher s) (not (is_active ss s)) s

marked_if_same : (r : Change) (due : Bool) (ss : List Session) → marked_if due (map (changed_session r) ss) ≡ map (changed_session r) (marked_if due ss)
marked_if_same r true ss =
    map_through (changed_session r) (marked (map (changed_session r) ss)) (marked ss) (changed_session r) (marked_same r ss) ss
marked_if_same r false ss = refl

with_end_same : (r : Change) (end : Option Bool) (s : Session) → with_end end (changed_session r s) ≡ changed_session r (with_end end s)
with_end_same r None s = refl
with_end_same r (Some b) s = refl

time_end_same : (e : Terms) (r : Change) (before after : List Session)
    → time_end e (map (changed_session r) before) (map (changed_session r) after) ≡ time_end e before after
time_end_same e r before after =
    ap (λ n. of_libsrt e.rules.callers (silent_end n (open_publishers (map (changed_session r) after))))
    (publishers_through (changed_session r) (λ s. refl) before)
    ∙ ap (λ n. of_libsrt e.rules.callers (silent_end (open_publishers before) n)) (publishers_through (changed_session r) (λ s. refl) after)

advanced_same : (e : Terms) (r : Change) (clock : ℕ) (ss : List Session)
    → advanced e (clock + r.later) (map (changed_session r) ss) ≡ map (changed_session r) (advanced e clock ss)
advanced_same e r clock ss =
    let later = map (aged e clock) ss in
    let end = time_end e ss later in
    ap (λ ts. map (with_end (time_end e (map (changed_session r) ss) ts)) (marked_if (takes_over e (clock + r.later) ts) ts))
    (map_through (changed_session r) (aged e (clock + r.later)) (aged e clock) (changed_session r) (aged_same e r clock) ss)
    ∙ ap (λ x. map (with_end x) (marked_if (takes_over e (clock + r.later) (map (changed_session r) later)) (map (changed_session r) later)))
    (time_end_same e r ss later)
    ∙ ap (λ b. map (with_end end) (marked_if b (map (changed_session r) later))) (takes_over_same e r clock later)
    ∙ ap (map (with_end end)) (marked_if_same r (takes_over e clock later) later)
    ∙ map_through (changed_session r) (with_end end) (with_end end) (changed_session r) (with_end_same r end) (marked_if (takes_over e clock later) later)

-- a session processes a packet the same
ends_same : (r : Change) (terms : Agreed) (initial : ℕ) (q p : Packet)
    → IsChangedPacket r q p → (past : Past) → ends_with terms (r.initial initial) q.body past ≡ ends_with terms initial p.body past
ends_same r terms initial q p h (Publishes x) =
    ap (λ b. b || publisher.loses_window terms.publisher.mode terms.publisher (to_publisher.heard_from (r.initial initial) q.body) x) h.shutdown_is
    ∙ ap (λ heard. is_shutdown p.body || publisher.loses_window terms.publisher.mode terms.publisher heard x) (h.publisher_hears initial)
ends_same r terms initial q p h (Subscribes x) = ap (λ b. b || false) h.shutdown_is

past_same : (r : Change) (terms : Agreed) (initial time stamp : ℕ) (q p : Packet) → IsChangedPacket r q p → (past : Past)
    → took_past terms (r.initial initial) time stamp q.body past ≡ took_past terms initial time stamp p.body past
past_same r terms initial time stamp q p h (Publishes x) =
    ap (λ heard. Publishes (publisher.took terms.publisher time stamp heard x)) (h.publisher_hears initial)
past_same r terms initial time stamp q p h (Subscribes x) = ap (λ heard. Subscribes (subscriber.took time heard x)) (h.subscriber_hears initial)

abbrev ended_so : (drains : Option ℕ) → (clock : ℕ) → (ends : Bool) → Past → Session → Session
ended_so drains clock ends past s = record s { heard = clock; is_open = not ends; drains = drains; past = past }

unless_same : (later : ℕ) (drains : Option ℕ) (ends : Bool) → ends_unless (shifted later drains) ends ≡ ends_unless drains ends
unless_same later None ends = refl
unless_same later (Some until) ends = refl

stamp_same : (r : Change) (q p : Packet) → IsChangedPacket r q p → (s : Session) → stamp_in (changed_session r s) q.stamp ≡ stamp_in s p.stamp
stamp_same r q p h s = ap (λ w. stamped_from (r.stamp s.stamp) w) h.stamp_is ∙ r.stamps_stay s.stamp p.stamp

took_same : (e : Terms) (r : Change) (clock : ℕ) (drains : Option ℕ) (q p : Packet) → IsChangedPacket r q p → (s : Session)
    → took (shifted r.later drains) e (clock + r.later) q.stamp q.body (changed_session r s) ≡ changed_session r (took drains e clock p.stamp p.body s)
took_same e r clock drains q p h s =
    let t = changed_session r s in
    let i = s.conclusion.initial in
    let time = time_in s clock in
    let stamp = stamp_in s p.stamp in
    let d = shifted r.later drains in
    ap (λ x. took_at d e (clock + r.later) x (stamp_in t q.stamp) q.body t) (own_time r clock s)
    ∙ ap (λ x. took_at d e (clock + r.later) time x q.body t) (stamp_same r q p h s)
    ∙ ap (λ b. ended_so d (clock + r.later) (ends_unless d b) (took_past (terms_of e s) (r.initial i) time stamp q.body s.past) t)
    (ends_same r (terms_of e s) i q p h s.past)
    ∙ ap (λ b. ended_so d (clock + r.later) b (took_past (terms_of e s) (r.initial i) time stamp q.body s.past) t)
    (unless_same r.later drains (ends_with (terms_of e s) i p.body s.past))
    ∙ ap (λ past. ended_so d (clock + r.later) (ends_unless drains (ends_with (terms_of e s) i p.body s.past)) past t)
    (past_same r (terms_of e s) i time stamp q p h s.past)

-- a session sends the same, with its own numbers
map_replies : (r : Change) (time : ℕ) (s : Session) (xs : List Report)
    → map (said_by time (changed_session r s)) xs ≡ map (changed_reply r) (map (said_by time s) xs)
map_replies r time s [] = refl
map_replies r time s (x ∷ xs) = ap (λ ys. changed_reply r (said_by time s x) ∷ ys) (map_replies r time s xs)

answers_same : (r : Change) (initial : ℕ) (q p : Packet)
    → IsChangedPacket r q p → (past : Past) → answers_to (r.initial initial) q.body past ≡ answers_to initial p.body past
answers_same r initial q p h (Publishes x) = refl
answers_same r initial q p h (Subscribes x) = ap (λ heard. map ToSubscriber (subscriber.answers heard)) (h.subscriber_hears initial)

-- the same sessions are sent a SHUTDOWN when they end
shutdown_same : (r : Change) (clock : ℕ) (s : Session) → shutdown_to (clock + r.later) (changed_session r s) ≡ changed_reply r (shutdown_to clock s)
shutdown_same r clock s = ap (λ t. record { peer = s.peer; packet = Ends s.conclusion.caller t }) (own_time r clock s)

notified_if_same : (r : Change) (callers : Callers) (ends : Bool) (clock : ℕ) (s : Session)
    → notified_if callers ends (clock + r.later) (changed_session r s) ≡ map (changed_reply r) (notified_if callers ends clock s)
notified_if_same r Draft ends clock s = refl
notified_if_same r Libsrt true clock s = ap (λ x. x ∷ []) (shutdown_same r clock s)
notified_if_same r Libsrt false clock s = refl

lost_same : (r : Change) (terms : Agreed) (initial : ℕ) (q p : Packet)
    → IsChangedPacket r q p → (past : Past) → loses_window terms (r.initial initial) q.body past ≡ loses_window terms initial p.body past
lost_same r terms initial q p h (Publishes x) =
    ap (λ heard. publisher.loses_window terms.publisher.mode terms.publisher heard x) (h.publisher_hears initial)
lost_same r terms initial q p h (Subscribes x) = refl

lost_notified_same : (e : Terms) (r : Change) (clock : ℕ) (q p : Packet) → IsChangedPacket r q p → (s : Session)
    → lost_notified e (clock + r.later) q.body (changed_session r s) ≡ map (changed_reply r) (lost_notified e clock p.body s)
lost_notified_same e r clock q p h s =
    ap (λ b. notified_if e.rules.callers b (clock + r.later) (changed_session r s)) (lost_same r (terms_of e s) s.conclusion.initial q p h s.past)
    ∙ notified_if_same r e.rules.callers (loses_window (terms_of e s) s.conclusion.initial p.body s.past) clock s

answered_same : (e : Terms) (r : Change) (clock : ℕ) (q p : Packet) → IsChangedPacket r q p → (o : Option Session)
    → answered_by e (clock + r.later) q.body (option_map (changed_session r) o) ≡ map (changed_reply r) (answered_by e clock p.body o)
answered_same e r clock q p h None = refl
answered_same e r clock q p h (Some s) =
    let t = changed_session r s in
    let said = map (said_by (time_in s clock) s) (answered_at_once p.body s) in
    ap (λ x. lost_notified e (clock + r.later) q.body t ++ map (said_by x t) (answered_at_once q.body t)) (own_time r clock s)
    ∙ ap (λ xs. lost_notified e (clock + r.later) q.body t ++ map (said_by (time_in s clock) t) xs) (answers_same r s.conclusion.initial q p h s.past)
    ∙ ap (λ xs. lost_notified e (clock + r.later) q.body t ++ xs) (map_replies r (time_in s clock) s (answered_at_once p.body s))
    ∙ ap (λ xs. xs ++ map (changed_reply r) said) (lost_notified_same e r clock q p h s)
    ∙ sym (map-append (changed_reply r) (lost_notified e clock p.body s) said)

took_if_same : (e : Terms) (r : Change) (clock : ℕ) (drains : Option ℕ) (q p : Packet) → IsChangedPacket r q p → (s : Session) (mine : Bool)
    → took_if (shifted r.later drains) mine e (clock + r.later) q (changed_session r s) ≡ changed_session r (took_if drains mine e clock p s)
took_if_same e r clock drains q p h s true = took_same e r clock drains q p h s
took_if_same e r clock drains q p h s false = refl

-- the same sessions that don't drain are found
of_same : (r : Change) (peer : Peer) (caller : ℕ) (s : Session) → is_of peer caller (changed_session r s) ≡ is_of peer caller s
of_same r peer caller s = ap (λ b. s.is_open && is_same_peer s.peer peer && s.conclusion.caller == caller && not b) (draining_same r s)

for_same : (r : Change) (index : ℕ) (peer : Peer) (dest : ℕ) (s : Session) → is_for index peer dest (changed_session r s) ≡ is_for index peer dest s
for_same r index peer dest s = ap (λ b. s.is_open && is_same_peer s.peer peer && session_id index s == dest && not b) (draining_same r s)

heard_if_same : (r : Change) (clock : ℕ) (s : Session) (mine : Bool)
    → heard_if mine (clock + r.later) (changed_session r s) ≡ changed_session r (heard_if mine clock s)
heard_if_same r clock s true = refl
heard_if_same r clock s false = refl

-- the same slots are in use
free_slot_same : (e : Terms) (r : Change) (ss : List Session) → free_slot e (map (changed_session r) ss) ≡ free_slot e ss
free_slot_same e r ss =
    find_same (is_free (map (changed_session r) ss)) (is_free ss)
    (λ n. ap not (any_through (changed_session r) (is_open_in n) (is_open_in n) (λ s. refl) ss)) (numbers_from 0 e.sessions)

by_slot_same : (e : Terms) (r : Change) (ss : List Session) → by_slot e (map (changed_session r) ss) ≡ map (changed_session r) (by_slot e ss)
by_slot_same e r ss =
    picked_through (changed_session r) (λ n. find (is_open_in n) (map (changed_session r) ss)) (λ n. find (is_open_in n) ss)
    (λ n. find_through (changed_session r) (is_open_in n) (is_open_in n) (λ s. refl) ss) (numbers_from 0 e.sessions)

generation_same : (r : Change) (ss : List Session) (slot : ℕ) → generation_of (map (changed_session r) ss) slot ≡ generation_of ss slot
generation_same r [] slot = refl
generation_same r (s ∷ ss) slot = ap (λ n. cond (s.slot == slot) (n + 1) n) (generation_same r ss slot)

-- the effect of a datagram
abbrev changed_taken : Change → Taken → Taken
changed_taken r t = record { sessions = map (changed_session r) t.sessions; answers = map (changed_reply r) t.answers }

abbrev taken_as : List Session → List Reply → Taken
taken_as sessions answers = record { sessions = sessions; answers = answers }

publisher_end_same : (r : Change) (terms : Agreed) (initial : ℕ) (q p : Packet)
    → IsChangedPacket r q p → (past : Past) → publisher_end terms (r.initial initial) q.body past ≡ publisher_end terms initial p.body past
publisher_end_same r terms initial q p h (Publishes x) =
    ap (λ b. cond b (Some (is_shutdown q.body)) None) (ends_same r terms initial q p h (Publishes x))
    ∙ ap (λ d. cond (ends_with terms initial p.body (Publishes x)) (Some d) None) h.shutdown_is
publisher_end_same r terms initial q p h (Subscribes x) = refl

packet_end_same : (e : Terms) (r : Change) (drains : Option ℕ) (q p : Packet) → IsChangedPacket r q p → (o : Option Session)
    → packet_end (shifted r.later drains) e q.body (option_map (changed_session r) o) ≡ packet_end drains e p.body o
packet_end_same e r (Some until) q p h o = refl
packet_end_same e r None q p h None = refl
packet_end_same e r None q p h (Some s) =
    ap (of_libsrt e.rules.callers) (publisher_end_same r (terms_of e s) s.conclusion.initial q p h s.past)

-- a session drains the same
drain_if_same : (callers : Callers) (left : Bool) (later clock delay : ℕ)
    → drain_if callers left (clock + later + delay + 5_000_000) ≡ shifted later (drain_if callers left (clock + delay + 5_000_000))
drain_if_same Draft left later clock delay = refl
drain_if_same Libsrt true later clock delay =
    let same : clock + later + delay + 5_000_000 ≡ clock + delay + 5_000_000 + later = omega arith in ap (λ n. Some n) same
drain_if_same Libsrt false later clock delay = refl

drain_same : (e : Terms) (r : Change) (clock : ℕ) (q p : Packet) → IsChangedPacket r q p → (ss : List Session) (o : Option Session)
    → drain_of e (clock + r.later) q.body (map (changed_session r) ss) (option_map (changed_session r) o)
    ≡ shifted r.later (drain_of e clock p.body ss o)
drain_same e r clock q p h ss None = refl
drain_same e r clock q p h ss (Some s) =
    let until = clock + r.later + (terms_of e s).publisher.delay + 5_000_000 in
    ap
    (λ b. drain_if e.rules.callers (b && is_active (map (changed_session r) ss) (changed_session r s) && has_left (terms_of e s) s.past) until)
    h.shutdown_is
    ∙ ap (λ b. drain_if e.rules.callers (is_shutdown p.body && b && has_left (terms_of e s) s.past) until)
    (is_active_through (changed_session r) (λ t. refl) (λ t. refl) (λ t. refl) ss s)
    ∙ drain_if_same e.rules.callers (is_shutdown p.body && is_active ss s && has_left (terms_of e s) s.past) r.later clock
    (terms_of e s).publisher.delay

-- the effect of a packet, by the session that it is for
abbrev arrived_at : (e : Terms) (index clock : ℕ) → Peer → Packet → (dest : ℕ) → (drains : Option ℕ) → (end : Option Bool) → Option Session
    → List Session → Taken
arrived_at e index clock peer packet dest drains end o ss =
    taken_as (map (λ s. with_end end (took_if drains (is_for index peer dest s) e clock packet s)) ss) (answered_by e clock packet.body o)

arrived_same : (e : Terms) (index : ℕ) (r : Change) (clock : ℕ) (peer : Peer) (dest : ℕ) (q p : Packet) → IsChangedPacket r q p
    → (ss : List Session)
    → arrived e index (clock + r.later) peer q (map (changed_session r) ss) ≡ changed_taken r (arrived e index clock peer p ss)
arrived_same e index r clock peer dest q p h ss =
    let others = map (changed_session r) ss in
    let late = clock + r.later in
    let f = find (is_for index peer p.dest) ss in
    let drains = drain_of e clock p.body ss f in
    let end = packet_end drains e p.body f in
    let found = find_through (changed_session r) (is_for index peer p.dest) (is_for index peer p.dest) (for_same r index peer p.dest) ss in
    ap
    (λ d. let o = find (is_for index peer d) others in
    arrived_at e index late peer q d (drain_of e late q.body others o) (packet_end (drain_of e late q.body others o) e q.body o) o others)
    h.dest_is
    ∙ ap
    (λ o. arrived_at e index late peer q p.dest (drain_of e late q.body others o) (packet_end (drain_of e late q.body others o) e q.body o) o others)
    found
    ∙ ap
    (λ d. arrived_at e index late peer q p.dest d (packet_end d e q.body (option_map (changed_session r) f)) (option_map (changed_session r) f) others)
    (drain_same e r clock q p h ss f)
    ∙ ap (λ x. arrived_at e index late peer q p.dest (shifted r.later drains) x (option_map (changed_session r) f) others)
    (packet_end_same e r drains q p h f)
    ∙ ap (λ ys. taken_as ys (answered_by e late q.body (option_map (changed_session r) f)))
    (map_through (changed_session r) (λ s. with_end end (took_if (shifted r.later drains) (is_for index peer p.dest s) e late q s))
    (took_packet drains end e index clock peer p) (changed_session r)
    (λ s. ap (λ b. with_end end (took_if (shifted r.later drains) b e late q (changed_session r s))) (for_same r index peer p.dest s)
    ∙ ap (with_end end) (took_if_same e r clock drains q p h s (is_for index peer p.dest s))
    ∙ with_end_same r end (took_if drains (is_for index peer p.dest s) e clock p s)) ss)
    ∙ ap (λ xs. taken_as (map (changed_session r) (arrived e index clock peer p ss).sessions) xs) (answered_same e r clock q p h f)

opens_same : (e : Terms) (index : ℕ) (r : Change) (clock : ℕ) (peer : Peer) (stamp : ℕ) (x : Conclusion) (ss : List Session)
    (slot : ℕ)
    → opens e index (clock + r.later) peer (r.stamp stamp) (changed_conclusion r x) (map (changed_session r) ss) slot
    ≡ changed_taken r (opens e index clock peer stamp x ss slot)
opens_same e index r clock peer stamp x ss slot =
    ap
    (λ g. with_session e index (session_opened (clock + r.later) peer (r.stamp stamp) (changed_conclusion r x) slot g)
    (map (changed_session r) ss))
    (generation_same r ss slot)

considered_same : (e : Terms) (index : ℕ) (r : Change) (clock : ℕ) (peer : Peer) (stamp : ℕ) (x : Conclusion) (ss : List Session)
    (answer : Result ℕ RefusalCause)
    → considered e index (clock + r.later) peer (r.stamp stamp) (changed_conclusion r x) (map (changed_session r) ss) answer
    ≡ changed_taken r (considered e index clock peer stamp x ss answer)
considered_same e index r clock peer stamp x ss (Err cause) = refl
considered_same e index r clock peer stamp x ss (Ok slot) = opens_same e index r clock peer stamp x ss slot

-- a conclusion is answered the same
free_slots_same : (e : Terms) (r : Change) (ss : List Session) → free_slots e (map (changed_session r) ss) ≡ free_slots e ss
free_slots_same e r ss =
    ap length
    (filter_same (is_free (map (changed_session r) ss)) (is_free ss)
    (λ n. ap not (any_through (changed_session r) (is_open_in n) (is_open_in n) (λ s. refl) ss)) (numbers_from 0 e.sessions))

sessions_from_same : (r : Change) (ip : List ℕ) (ss : List Session) → sessions_from ip (map (changed_session r) ss) ≡ sessions_from ip ss
sessions_from_same r ip ss =
    ap length (filter_through (changed_session r) (is_from ip) (is_from ip) (λ s. refl) ss) ∙ length-map (filter (is_from ip) ss) (changed_session r)

decision_same : (e : Terms) (r : Change) (peer : Peer) (x : Conclusion) (ss : List Session)
    → decision e peer (changed_conclusion r x) (map (changed_session r) ss) ≡ decision e peer x ss
decision_same e r peer x ss =
    let ts = map (changed_session r) ss in
    let kept = λ (free publishers : ℕ). is_reserved e.rules.reserved free publishers x.role in
    ap
    (λ n.
    decided (refused e.mode n x) (is_crowded e.rules.sessions_per_address (sessions_from peer.ip ts)) (free_slot e ts) (kept (free_slots e ts) n))
    (publishers_through (changed_session r) (λ s. refl) ss)
    ∙ ap
    (λ n.
    decided (refused e.mode (open_publishers ss) x) (is_crowded e.rules.sessions_per_address n) (free_slot e ts)
    (kept (free_slots e ts) (open_publishers ss)))
    (sessions_from_same r peer.ip ss)
    ∙ ap
    (λ slot.
    decided (refused e.mode (open_publishers ss) x) (is_crowded e.rules.sessions_per_address (sessions_from peer.ip ss)) slot
    (kept (free_slots e ts) (open_publishers ss)))
    (free_slot_same e r ss)
    ∙ ap
    (λ n.
    decided (refused e.mode (open_publishers ss) x) (is_crowded e.rules.sessions_per_address (sessions_from peer.ip ss)) (free_slot e ss)
    (kept n (open_publishers ss)))
    (free_slots_same e r ss)

concluded_same : (e : Terms) (index : ℕ) (r : Change) (clock : ℕ) (peer : Peer) (stamp : ℕ) (x : Conclusion) (ss : List Session)
    (found : Option Session)
    → concluded e index (clock + r.later) peer (r.stamp stamp) (changed_conclusion r x) (map (changed_session r) ss)
    (option_map (changed_session r) found)
    ≡ changed_taken r (concluded e index clock peer stamp x ss found)
concluded_same e index r clock peer stamp x ss (Some s) =
    ap (λ ys. taken_as ys (map (changed_reply r) (concluded e index clock peer stamp x ss (Some s)).answers))
    (map_through (changed_session r) (λ t. heard_if (is_of peer x.caller t) (clock + r.later) t)
    (λ t. heard_if (is_of peer x.caller t) clock t) (changed_session r)
    (λ t. ap (λ b. heard_if b (clock + r.later) (changed_session r t)) (of_same r peer x.caller t)
    ∙ heard_if_same r clock t (is_of peer x.caller t)) ss)
concluded_same e index r clock peer stamp x ss None =
    ap
    (λ answer.
    considered e index (clock + r.later) peer (r.stamp stamp) (changed_conclusion r x) (map (changed_session r) ss) answer)
    (decision_same e r peer x ss)
    ∙ considered_same e index r clock peer stamp x ss (decision e peer x ss)

without_same : (e : Terms) (index : ℕ) (r : Change) (clock : ℕ) (peer : Peer) (stamp : ℕ) (ss : List Session) (c : Option Conclusion)
    → without_destination e index (clock + r.later) peer (r.stamp stamp) (map (changed_session r) ss) (option_map (changed_conclusion r) c)
    ≡ changed_taken r (without_destination e index clock peer stamp ss c)
without_same e index r clock peer stamp ss None = refl
without_same e index r clock peer stamp ss (Some x) =
    ap (λ found. concluded e index (clock + r.later) peer (r.stamp stamp) (changed_conclusion r x) (map (changed_session r) ss) found)
    (find_through (changed_session r) (is_of peer x.caller) (is_of peer x.caller) (of_same r peer x.caller) ss)
    ∙ concluded_same e index r clock peer stamp x ss (find (is_of peer x.caller) ss)

packet_same : (e : Terms) (index : ℕ) (r : Change) (clock : ℕ) (peer : Peer) (q p : Packet) → IsChangedPacket r q p → (ss : List Session)
    → packet_taken e index (clock + r.later) peer q (map (changed_session r) ss) ≡ changed_taken r (packet_taken e index clock peer p ss)
packet_same e index r clock peer q p h ss =
    ap
    (λ d. cond (d == 0) (without_destination e index (clock + r.later) peer q.stamp (map (changed_session r) ss) (concludes q.body))
    (arrived e index (clock + r.later) peer q (map (changed_session r) ss)))
    h.dest_is
    ∙ by (p.dest == 0)
  where
    by : (b : Bool)
        → cond b (without_destination e index (clock + r.later) peer q.stamp (map (changed_session r) ss) (concludes q.body))
        (arrived e index (clock + r.later) peer q (map (changed_session r) ss))
        ≡ changed_taken r (cond b (without_destination e index clock peer p.stamp ss (concludes p.body)) (arrived e index clock peer p ss))
    by true =
        ap (λ stamp. without_destination e index (clock + r.later) peer stamp (map (changed_session r) ss) (concludes q.body)) h.stamp_is
        ∙ ap (λ c. without_destination e index (clock + r.later) peer (r.stamp p.stamp) (map (changed_session r) ss) c) h.concludes_is
        ∙ without_same e index r clock peer p.stamp ss (concludes p.body)
    by false = arrived_same e index r clock peer p.dest q p h ss

read_same : (e : Terms) (index : ℕ) (r : Change) (clock : ℕ) (peer : Peer) (q p : Result Packet PacketFault) → IsChangedReading r q p
    → (ss : List Session)
    → read_taken e index (clock + r.later) peer q (map (changed_session r) ss) ≡ changed_taken r (read_taken e index clock peer p ss)
read_same e index r clock peer (Ok q) (Ok p) h ss = packet_same e index r clock peer q p h ss
read_same e index r clock peer (Err f) (Err g) h ss = refl
read_same e index r clock peer (Ok q) (Err g) h ss = absurd h
read_same e index r clock peer (Err f) (Ok p) h ss = absurd h

-- the effect of a Close
closed_same : (e : Terms) (r : Change) (clock : ℕ) (ss : List Session)
    → closed e (clock + r.later) (map (changed_session r) ss) ≡ changed_taken r (closed e clock ss)
closed_same e r clock ss =
    ap (λ xs. taken_as xs (map (shutdown_to (clock + r.later)) (by_slot e (map (changed_session r) ss))))
    (map_through (changed_session r) ended ended (changed_session r) (λ s. refl) ss)
    ∙ ap (λ xs. taken_as (map (changed_session r) (map ended ss)) (map (shutdown_to (clock + r.later)) xs)) (by_slot_same e r ss)
    ∙ ap (λ xs. taken_as (map (changed_session r) (map ended ss)) xs)
    (map_through (changed_session r) (shutdown_to (clock + r.later)) (shutdown_to clock) (changed_reply r) (shutdown_same r clock)
    (by_slot e ss))

taken_same : (e : Terms) (index : ℕ) (r : Change) (clock : ℕ) (j i : Item) → IsChangedItem r j i → (ss : List Session)
    → taken e index (clock + r.later) j (map (changed_session r) ss) ≡ changed_taken r (taken e index clock i ss)
taken_same e index r clock (Received d n) (Received c m) h ss =
    ap (λ peer. read_taken e index (clock + r.later) peer (packet_in d.bytes) (map (changed_session r) ss)) h.0.peer_is
    ∙ read_same e index r clock c.peer (packet_in d.bytes) (packet_in c.bytes) h.0.reading_is ss
taken_same e index r clock (Tick n) (Tick m) h ss = refl
taken_same e index r clock (Close n) (Close m) h ss = closed_same e r clock ss
taken_same e index r clock (Received d n) (Tick m) h ss = absurd h
taken_same e index r clock (Tick n) (Received c m) h ss = absurd h
taken_same e index r clock (Received d n) (Close m) h ss = absurd h
taken_same e index r clock (Tick n) (Close m) h ss = absurd h
taken_same e index r clock (Close n) (Received c m) h ss = absurd h
taken_same e index r clock (Close n) (Tick m) h ss = absurd h

-- deliveries
room_same : (e : Terms) (r : Change) (ss : List Session) → least_room e (map (changed_session r) ss) ≡ least_room e ss
room_same e r ss =
    ap (λ xs. fold (λ found (s : Session). least_with e.buffer found s.past) None xs) (by_slot_same e r ss)
    ∙ fold_through (changed_session r) (λ found (s : Session). least_with e.buffer found s.past)
    (λ found (s : Session). least_with e.buffer found s.past) (λ found s. refl) (by_slot e ss) None

delivery_by : (e : Terms) (r : Change) (clock : ℕ) (room : Option ℕ) (o : Option Session)
    → delivery_of e (clock + r.later) room (option_map (changed_session r) o) ≡ delivery_of e clock room o
delivery_by e r clock room None = refl
delivery_by e r clock room (Some s) = ap (λ t. payloads_of (terms_of e s) t room s.past) (own_time r clock s)

delivery_same : (e : Terms) (r : Change) (clock : ℕ) (room : Option ℕ) (ss : List Session)
    → delivery e (clock + r.later) room (map (changed_session r) ss) ≡ delivery e clock room ss
delivery_same e r clock room ss =
    ap (λ o. delivery_of e (clock + r.later) room o) (active_through (changed_session r) (λ s. refl) (λ s. refl) ss)
    ∙ delivery_by e r clock room (active ss)

passed_here : (e : Terms) (r : Change) (here : Bool) (time : ℕ) (room : Option ℕ) (xs : List (List ℕ)) (s : Session)
    → passed_at e here time room xs (changed_session r s) ≡ changed_session r (passed_at e here time room xs s)
passed_here e r true time room xs s = refl
passed_here e r false time room xs s = refl

passed_same : (e : Terms) (r : Change) (clock : ℕ) (room : Option ℕ) (xs : List (List ℕ)) (s : Session)
    → passed e (clock + r.later) room xs (changed_session r s) ≡ changed_session r (passed e clock room xs s)
passed_same e r clock room xs s =
    ap (λ t. passed_at e s.is_open t room xs (changed_session r s)) (own_time r clock s)
    ∙ passed_here e r s.is_open (time_in s clock) room xs s

delivered_same : (e : Terms) (r : Change) (clock : ℕ) (ss : List Session)
    → delivered e (clock + r.later) (map (changed_session r) ss) ≡ map (changed_session r) (delivered e clock ss)
delivered_same e r clock ss =
    let ts = map (changed_session r) ss in
    let room = least_room e ss in
    let fed = delivery e clock room ss in
    ap (λ x. map (λ s. passed e (clock + r.later) (room_if (is_active ts s) x) (delivery e (clock + r.later) x ts) s) ts) (room_same e r ss)
    ∙ ap (λ xs. map (λ s. passed e (clock + r.later) (room_if (is_active ts s) room) xs s) ts) (delivery_same e r clock room ss)
    ∙ map_through (changed_session r) (λ s. passed e (clock + r.later) (room_if (is_active ts s) room) fed s)
    (λ s. passed e clock (room_if (is_active ss s) room) fed s) (changed_session r)
    (λ s. ap (λ b. passed e (clock + r.later) (room_if b room) fed (changed_session r s))
    (is_active_through (changed_session r) (λ t. refl) (λ t. refl) (λ t. refl) ss s)
    ∙ passed_same e r clock (room_if (is_active ss s) room) fed s) ss

-- the sessions after the deliveries
renewed_same : (mode : Mode) (given : Bool) (clock until later : ℕ)
    → renewed mode given (clock + later) (until + later) ≡ renewed mode given clock until + later
renewed_same Live given clock until later = refl
renewed_same Buffer true clock until later = omega arith
renewed_same Buffer false clock until later = refl

settled_at_same : (e : Terms) (r : Change) (given : Bool) (clock : ℕ) (s : Session) (d : Option ℕ)
    → settled_at (shifted r.later d) e given (clock + r.later) (changed_session r s) ≡ changed_session r (settled_at d e given clock s)
settled_at_same e r given clock s None = refl
settled_at_same e r given clock s (Some until) =
    ap (λ n. record (changed_session r s) { is_open = s.is_open && has_left (terms_of e s) s.past; drains = Some n })
    (renewed_same e.mode given clock until r.later)

drain_end_same : (r : Change) (before after : List Session)
    → drain_end (open_publishers (map (changed_session r) before)) (open_publishers (map (changed_session r) after))
    ≡ drain_end (open_publishers before) (open_publishers after)
drain_end_same r before after =
    ap (λ n. drain_end n (open_publishers (map (changed_session r) after))) (publishers_through (changed_session r) (λ s. refl) before)
    ∙ ap (λ n. drain_end (open_publishers before) n) (publishers_through (changed_session r) (λ s. refl) after)

settled_by_same : (c : Callers) (e : Terms) (r : Change) (clock : ℕ) (given : Bool) (ss : List Session)
    → settled_by c e (clock + r.later) given (map (changed_session r) ss) ≡ map (changed_session r) (settled_by c e clock given ss)
settled_by_same Draft e r clock given ss = refl
settled_by_same Libsrt e r clock given ss =
    let later = map (settled e given clock) ss in
    let end = drain_end (open_publishers ss) (open_publishers later) in
    ap (λ ts. map (with_end (drain_end (open_publishers (map (changed_session r) ss)) (open_publishers ts))) ts)
    (map_through (changed_session r) (settled e given (clock + r.later)) (settled e given clock) (changed_session r)
    (λ s. settled_at_same e r given clock s s.drains) ss)
    ∙ ap (λ x. map (with_end x) (map (changed_session r) later)) (drain_end_same r ss later)
    ∙ map_through (changed_session r) (with_end end) (with_end end) (changed_session r) (with_end_same r end) later

gives_same : (e : Terms) (r : Change) (clock : ℕ) (ss : List Session) → gives_some e (clock + r.later) (map (changed_session r) ss) ≡ gives_some e clock ss
gives_same e r clock ss =
    ap (λ x. is_some_payload (delivery e (clock + r.later) x (map (changed_session r) ss))) (room_same e r ss)
    ∙ ap (λ xs. is_some_payload xs) (delivery_same e r clock (least_room e ss) ss)

after_delivery_same : (e : Terms) (r : Change) (clock : ℕ) (ss : List Session)
    → after_delivery e (clock + r.later) (map (changed_session r) ss) ≡ map (changed_session r) (after_delivery e clock ss)
after_delivery_same e r clock ss =
    ap (λ b. settled_by e.rules.callers e (clock + r.later) b (delivered e (clock + r.later) (map (changed_session r) ss))) (gives_same e r clock ss)
    ∙ ap (λ ts. settled_by e.rules.callers e (clock + r.later) (gives_some e clock ss) ts) (delivered_same e r clock ss)
    ∙ settled_by_same e.rules.callers e r clock (gives_some e clock ss) (delivered e clock ss)

-- packets
reported_here : (keys : Option Keys) (e : Terms) (r : Change) (here : Bool) (clock : ℕ) (s : Session)
    → reported_at keys e here (clock + r.later) (changed_session r s) ≡ changed_session r (reported_at keys e here clock s)
reported_here keys e r true clock s =
    let t = changed_session r s in
    let later = clock + r.later in
    ap (λ b. record t { past = reported_past keys b (terms_of e s) (time_in t later) (is_recent t later) s.past }) (draining_same r s)
    ∙ ap (λ n. record t { past = reported_past keys (is_draining s) (terms_of e s) n (is_recent t later) s.past }) (own_time r clock s)
    ∙ ap (λ b. record t { past = reported_past keys (is_draining s) (terms_of e s) (time_in s clock) b s.past }) (recent_same r clock s)
reported_here keys e r false clock s = refl

reported_same : (keys : Option Keys) (e : Terms) (r : Change) (clock : ℕ) (s : Session)
    → reported keys e (clock + r.later) (changed_session r s) ≡ changed_session r (reported keys e clock s)
reported_same keys e r clock s = reported_here keys e r s.is_open clock s

reports_here : (e : Terms) (r : Change) (here : Bool) (clock : ℕ) (s : Session)
    → reports_at e here (clock + r.later) (changed_session r s) ≡ reports_at e here clock s
reports_here e r here clock s =
    let t = changed_session r s in
    ap (λ n. cond here (reports_of (terms_of e s) n (is_recent t (clock + r.later)) s.past) []) (own_time r clock s)
    ∙ ap (λ b. cond here (reports_of (terms_of e s) (time_in s clock) b s.past) []) (recent_same r clock s)

packets_here : (e : Terms) (r : Change) (here : Bool) (clock : ℕ) (s : Session)
    → packets_at e here (clock + r.later) (changed_session r s) ≡ map (changed_reply r) (packets_at e here clock s)
packets_here e r here clock s =
    let t = changed_session r s in
    ap (λ n. map (said_by n t) (reports_at e here (clock + r.later) t)) (own_time r clock s)
    ∙ ap (λ xs. map (said_by (time_in s clock) t) xs) (reports_here e r here clock s)
    ∙ map_replies r (time_in s clock) s (reports_at e here clock s)

packets_same : (e : Terms) (r : Change) (clock : ℕ) (test : Session → Bool) → ((s : Session) → test (changed_session r s) ≡ test s)
    → (ss : List Session)
    → packets_where e (clock + r.later) test (map (changed_session r) ss) ≡ map (changed_reply r) (packets_where e clock test ss)
packets_same e r clock test same ss =
    ap (λ xs. flat_map (λ s. packets_at e (test s) (clock + r.later) s) xs) (by_slot_same e r ss)
    ∙ flat_through (changed_session r) (λ s. packets_at e (test s) (clock + r.later) s)
    (λ s. packets_at e (test s) clock s) (changed_reply r)
    (λ s. ap (λ b. packets_at e b (clock + r.later) (changed_session r s)) (same s) ∙ packets_here e r (test s) clock s) (by_slot e ss)

speaks_same : (r : Change) (s : Session) → speaks (changed_session r s) ≡ speaks s
speaks_same r s = ap (λ b. is_publisher s && not b) (draining_same r s)

-- a complete file
over_same : (e : Terms) (r : Change) (ss : List Session) → is_file_over e (map (changed_session r) ss) ≡ is_file_over e ss
over_same e r ss = ap (λ n. sends_files e.rules.callers e.mode && n == 0) (publishers_through (changed_session r) (λ s. refl) ss)

-- under keys of a session's own; then no number changes
same_keyed : (r : Change) (s : Session) (os : List KeyedOutput) → map (keyed_by s) os ≡ map (changed_reply r) (map (keyed_by s) os)
same_keyed r s [] = refl
same_keyed r s (o ∷ os) = ap (λ (xs : List Reply). keyed_by s o ∷ xs) (same_keyed r s os)

outputs_here : (keys : Keys) (e : Terms) (r : Change) (here : Bool) (clock : ℕ) (s : Session) → r.secured ≡ true
    → outputs_at keys e here (clock + r.later) (changed_session r s) ≡ outputs_at keys e here clock s
outputs_here keys e r here clock s secured =
    let t = changed_session r s in
    let caller = s.conclusion.caller in
    ap (λ n. cond here (outputs_of keys (terms_of e s) caller n (time_in t (clock + r.later)) (is_recent t (clock + r.later)) s.past) [])
    (r.numbers_stay secured s.conclusion.initial)
    ∙ ap (λ n. cond here (outputs_of keys (terms_of e s) caller s.conclusion.initial n (is_recent t (clock + r.later)) s.past) []) (own_time r clock s)
    ∙ ap (λ b. cond here (outputs_of keys (terms_of e s) caller s.conclusion.initial (time_in s clock) b s.past) []) (recent_same r clock s)

keyed_here : (keys : Keys) (e : Terms) (r : Change) (here : Bool) (clock : ℕ) (s : Session) → r.secured ≡ true
    → keyed_packets_at keys e here (clock + r.later) (changed_session r s) ≡ map (changed_reply r) (keyed_packets_at keys e here clock s)
keyed_here keys e r here clock s secured =
    ap (λ (os : List KeyedOutput). map (keyed_by s) os) (outputs_here keys e r here clock s secured) ∙ same_keyed r s (outputs_at keys e here clock s)

announced_here : (keys : Keys) (r : Change) (clock : ℕ) (s : Session)
    → announced_to (Some keys) (clock + r.later) (changed_session r s) ≡ map (changed_reply r) (announced_to (Some keys) clock s)
announced_here keys r clock s =
    ap (λ (t : ℕ). map (keyed_by s) (announced_past keys s.conclusion.caller t s.past)) (own_time r clock s)
    ∙ same_keyed r s (announced_past keys s.conclusion.caller (time_in s clock) s.past)

-- only a secured route has keys
abbrev AreSecured : Change → (keys : Option Keys) → Type 0
AreSecured r keys = is_some keys ≡ true → r.secured ≡ true

served_here : (e : Terms) (r : Change) (clock : ℕ) (whole : Bool) (keys : Option Keys) (s : Session) → AreSecured r keys
    → served_at whole keys e (clock + r.later) (changed_session r s) ≡ map (changed_reply r) (served_at whole keys e clock s)
served_here e r clock true None s secured = ap (λ x. x ∷ []) (shutdown_same r clock s)
served_here e r clock true (Some keys) s secured =
    ap (λ (xs : List Reply). xs ++ shutdown_to (clock + r.later) (changed_session r s) ∷ []) (announced_here keys r clock s)
    ∙ ap (λ x. map (changed_reply r) (announced_to (Some keys) clock s) ++ x ∷ []) (shutdown_same r clock s)
    ∙ sym (map-append (changed_reply r) (announced_to (Some keys) clock s) (shutdown_to clock s ∷ []))
served_here e r clock false None s secured = packets_here e r (is_subscriber s) clock s
served_here e r clock false (Some keys) s secured = keyed_here keys e r (is_subscriber s) clock s (secured refl)

served_same : (other own : ℕ → Option Keys) (e : Terms) (r : Change) (clock : ℕ) (over : Bool) (ss : List Session)
    → ((slot : ℕ) → other slot ≡ own slot) → ((slot : ℕ) → AreSecured r (own slot))
    → served other e (clock + r.later) over (map (changed_session r) ss) ≡ map (changed_reply r) (served own e clock over ss)
served_same other own e r clock over ss same secured =
    ap (λ xs. flat_map (λ s. served_at (has_whole_file over s) (other s.slot) e (clock + r.later) s) xs) (by_slot_same e r ss)
    ∙ flat_through (changed_session r) (λ s. served_at (has_whole_file over s) (other s.slot) e (clock + r.later) s)
    (λ s. served_at (has_whole_file over s) (own s.slot) e clock s) (changed_reply r)
    (λ s. ap (λ (keys : Option Keys). served_at (has_whole_file over s) keys e (clock + r.later) (changed_session r s)) (same s.slot)
    ∙ served_here e r clock (has_whole_file over s) (own s.slot) s (secured s.slot)) (by_slot e ss)

finished_here : (e : Terms) (r : Change) (clock : ℕ) (whole : Bool) (keys : Option Keys) (s : Session)
    → finished_at whole keys e (clock + r.later) (changed_session r s) ≡ changed_session r (finished_at whole keys e clock s)
finished_here e r clock true keys s = refl
finished_here e r clock false keys s = reported_same keys e r clock s

-- the packets sent as time advances
idle_notified_same : (e : Terms) (r : Change) (clock : ℕ) (ss : List Session)
    → idle_notified e (clock + r.later) (map (changed_session r) ss) ≡ map (changed_reply r) (idle_notified e clock ss)
idle_notified_same e r clock ss =
    ap (λ xs. flat_map (λ s. notified_if e.rules.callers (is_idle s (clock + r.later)) (clock + r.later) s) xs) (by_slot_same e r ss)
    ∙ flat_through (changed_session r) (λ s. notified_if e.rules.callers (is_idle s (clock + r.later)) (clock + r.later) s)
    (λ s. notified_if e.rules.callers (is_idle s clock) clock s) (changed_reply r)
    (λ s. ap (λ b. notified_if e.rules.callers b (clock + r.later) (changed_session r s)) (idle_same r clock s)
    ∙ notified_if_same r e.rules.callers (is_idle s clock) clock s) (by_slot e ss)

-- the limit on derivations has the same requests, later
record AreDelayed (later : ℕ) (n m : Moments) : Type 0 where
  requests : List Derivation
  first_is : m ≡ moments_after requests
  later_is : n ≡ moments_after (map (delayed later) requests)

same_admitted : (later : ℕ) (n m : Moments) (q : Derivation) → AreDelayed later n m → is_admitted n (delayed later q) ≡ is_admitted m q
same_admitted later n m q h =
    ap (λ x. is_admitted x (delayed later q)) h.later_is ∙ delays_change_nothing later h.requests q ∙ ap (λ x. is_admitted x q) (sym h.first_is)

still_delayed : (later : ℕ) (n m : Moments) (q : Derivation) → AreDelayed later n m → AreDelayed later (moments_with (delayed later q) n) (moments_with q m)
unfolding moments_after
still_delayed later n m q h =
    record {
      requests = q ∷ h.requests;
      first_is = ap (moments_with q) h.first_is;
      later_is = ap (moments_with (delayed later q)) h.later_is;
    }

not_delayed : (later : ℕ) (m : Moments) → m ≡ moments_after [] → AreDelayed later m m
not_delayed later m is = record { requests = []; first_is = is; later_is = is }

-- the same keys in each slot
record AreChangedKeys (r : Change) (n m : RouteKeys) : Type 0 where
  moments_are : AreDelayed r.later n.moments m.moments
  pool_is : n.pool ≡ m.pool
  held_is : (slot : ℕ) → n.held slot ≡ m.held slot

record HasReading (r : Change) (w : Verdict) (bytes : List ℕ) : Type 0 where
  other : List ℕ
  verdict_is : w ≡ Decrypted other
  reading_is : IsChangedReading r (packet_in other) (packet_in bytes)

abbrev IsChangedVerdict : Change → (w v : Verdict) → Type 0
IsChangedVerdict r w Passes = w ≡ Passes
IsChangedVerdict r w Ignored = w ≡ Ignored
IsChangedVerdict r w (Refused peer c) = w ≡ Refused peer (changed_conclusion r c)
IsChangedVerdict r w (Repeats request) = w ≡ Repeats request
IsChangedVerdict r w (Decrypted bytes) = HasReading r w bytes
IsChangedVerdict r w (Answered answer) = w ≡ Answered (changed_reply r answer)

record IsChangedJudged (r : Change) (k j : Judged) : Type 0 where
  verdict_is : IsChangedVerdict r k.verdict j.verdict
  keys_are : AreChangedKeys r k.keys j.keys

-- the keys of a session that opens don't depend on the time
abbrev later_opening : Change → KeyOpening → KeyOpening
later_opening r o = record o { clock = o.clock + r.later }

same_subscriber : (r : Change) (brought : Option StreamKeys) (kek : List ℕ) (b : Brought) (o : KeyOpening) (pool : Pool)
    → subscriber_by brought kek b.contents b.message (later_opening r o) pool ≡ subscriber_by brought kek b.contents b.message o pool
same_subscriber r None kek b o pool = refl
same_subscriber r (Some brought) kek b o pool = refl

same_opened : (r : Change) (role : Role) (kek : List ℕ) (b : Brought) (o : KeyOpening) (pool : Pool)
    → keys_opened role kek b (later_opening r o) pool ≡ keys_opened role kek b o pool
same_opened r Publish kek b o pool = refl
same_opened r Request kek b o pool = same_subscriber r (brings kek b.message) kek b o pool

same_pool : (r : Change) (role : Role) (o : KeyOpening) (pool : Pool) → pool_opened role (later_opening r o) pool ≡ pool_opened role o pool
same_pool r Publish o pool = refl
same_pool r Request o pool = refl

with_same : (r : Change) (peer : Peer) (c : Conclusion) (b : Brought) (o : KeyOpening) (n m : RouteKeys) (new : Option SlotKeys) → AreChangedKeys r n m
    → IsChangedJudged r (judged_by peer (changed_conclusion r c) b (opened_with (later_opening r o) n new)) (judged_by peer c b (opened_with o m new))
with_same r peer c b o n m None h = record { verdict_is = refl; keys_are = h }
with_same r peer c b o n m (Some new) h =
    record {
      verdict_is = refl;
      keys_are = record {
        moments_are = h.moments_are;
        pool_is = same_pool r o.role o n.pool ∙ ap (pool_opened o.role o) h.pool_is;
        held_is = λ slot. ap (λ (old : SlotKeys). cond (slot == o.slot) new old) (h.held_is slot);
      };
    }

opening_same : (r : Change) (admitted : Bool) (passphrase : List ℕ) (peer : Peer) (c : Conclusion) (b : Brought) (o : KeyOpening) (n m : RouteKeys)
    → AreChangedKeys r n m
    → IsChangedJudged r (judged_by peer (changed_conclusion r c) b (opening_if admitted passphrase b (later_opening r o) n))
    (judged_by peer c b (opening_if admitted passphrase b o m))
opening_same r true passphrase peer c b o n m h =
    let q = derivation_of o in
    let kek = kek_for passphrase b.message in
    let after : RouteKeys = record n { moments = moments_with (delayed r.later q) n.moments } in
    let before : RouteKeys = record m { moments = moments_with q m.moments } in
    let changed : AreChangedKeys r after before =
    record { moments_are = still_delayed r.later n.moments m.moments q h.moments_are; pool_is = h.pool_is; held_is = h.held_is } in
    let same : keys_opened o.role kek b (later_opening r o) n.pool ≡ keys_opened o.role kek b o m.pool =
    same_opened r o.role kek b o n.pool ∙ ap (λ (pool : Pool). keys_opened o.role kek b o pool) h.pool_is in
    subst
    (λ (x : Option SlotKeys). IsChangedJudged r (judged_by peer (changed_conclusion r c) b (opened_with (later_opening r o) after x))
    (judged_by peer c b (opened_with o before (keys_opened o.role kek b o m.pool))))
    (sym same) (with_same r peer c b o after before (keys_opened o.role kek b o m.pool) changed)
opening_same r false passphrase peer c b o n m h = record { verdict_is = refl; keys_are = h }

asked_same : (e : Terms) (index : ℕ) (r : Change) (clock : ℕ) (passphrase : List ℕ) (b : Brought) (peer : Peer) (cookie : ℕ) (c : Conclusion)
    (ss : List Session) (n m : RouteKeys) (d : Result ℕ RefusalCause) → AreChangedKeys r n m
    → IsChangedJudged r (asked passphrase b index (clock + r.later) peer cookie (changed_conclusion r c) (map (changed_session r) ss) n d)
    (asked passphrase b index clock peer cookie c ss m d)
asked_same e index r clock passphrase b peer cookie c ss n m (Err cause) h = record { verdict_is = refl; keys_are = h }
asked_same e index r clock passphrase b peer cookie c ss n m (Ok slot) h =
    let o = key_opening index clock peer cookie c.role slot (generation_of ss slot) in
    let is = judged_by peer c b (opening passphrase b o m) in
    subst
    (λ (g : ℕ). IsChangedJudged r
    (judged_by peer (changed_conclusion r c) b (opening passphrase b (key_opening index (clock + r.later) peer cookie c.role slot g) n)) is)
    (sym (generation_same r ss slot))
    (subst
    (λ (admitted : Bool). IsChangedJudged r (judged_by peer (changed_conclusion r c) b (opening_if admitted passphrase b (later_opening r o) n)) is)
    (sym (same_admitted r.later n.moments m.moments (derivation_of o) h.moments_are))
    (opening_same r (is_admitted m.moments (derivation_of o)) passphrase peer c b o n m h))

conclusion_same : (e : Terms) (index : ℕ) (r : Change) (clock : ℕ) (passphrase : Option (List ℕ)) (b : Option Brought) (peer : Peer) (cookie : ℕ)
    (c : Conclusion) (ss : List Session) (n m : RouteKeys) (found : Option Session) → AreChangedKeys r n m
    → IsChangedJudged r
    (conclusion_judged passphrase b e index (clock + r.later) peer cookie (changed_conclusion r c) (map (changed_session r) ss) n
    (option_map (changed_session r) found))
    (conclusion_judged passphrase b e index clock peer cookie c ss m found)
conclusion_same e index r clock (Some p) None peer cookie c ss n m found h = record { verdict_is = refl; keys_are = h }
conclusion_same e index r clock (Some p) (Some b) peer cookie c ss n m (Some s) h =
    record { verdict_is = ap (λ (k : SlotKeys). Repeats (request_of k)) (h.held_is s.slot); keys_are = h }
conclusion_same e index r clock (Some p) (Some b) peer cookie c ss n m None h =
    subst
    (λ (d : Result ℕ RefusalCause).
    IsChangedJudged r (asked p b index (clock + r.later) peer cookie (changed_conclusion r c) (map (changed_session r) ss) n d)
    (asked p b index clock peer cookie c ss m (decision e peer c ss)))
    (sym (decision_same e r peer c ss)) (asked_same e index r clock p b peer cookie c ss n m (decision e peer c ss) h)
conclusion_same e index r clock None b peer cookie c ss n m (Some s) h =
    record { verdict_is = ap (λ (k : SlotKeys). Repeats (request_of k)) (h.held_is s.slot); keys_are = h }
conclusion_same e index r clock None b peer cookie c ss n m None h = record { verdict_is = refl; keys_are = h }

info_same : (e : Terms) (index : ℕ) (r : Change) (clock : ℕ) (peer : Peer) (other info : List ℕ) (ss : List Session) (n m : RouteKeys)
    (o : Option Conclusion) → brought_in other ≡ brought_in info → cookie_in other ≡ cookie_in info → AreChangedKeys r n m
    → IsChangedJudged r (info_judged e index (clock + r.later) peer other (map (changed_session r) ss) n (option_map (changed_conclusion r) o))
    (info_judged e index clock peer info ss m o)
info_same e index r clock peer other info ss n m None brought cookie h = record { verdict_is = refl; keys_are = h }
info_same e index r clock peer other info ss n m (Some c) brought cookie h =
    let ts = map (changed_session r) ss in
    let is = conclusion_judged (passphrase_of e c.role) (brought_in info) e index clock peer (cookie_in info) c ss m (find (is_of peer c.caller) ss) in
    subst
    (λ (b : Option Brought). IsChangedJudged r
    (conclusion_judged (passphrase_of e c.role) b e index (clock + r.later) peer (cookie_in other) (changed_conclusion r c) ts n
    (find (is_of peer c.caller) ts))
    is)
    (sym brought)
    (subst
    (λ (x : ℕ). IsChangedJudged r
    (conclusion_judged (passphrase_of e c.role) (brought_in info) e index (clock + r.later) peer x (changed_conclusion r c) ts n
    (find (is_of peer c.caller) ts))
    is)
    (sym cookie)
    (subst
    (λ (found : Option Session). IsChangedJudged r
    (conclusion_judged (passphrase_of e c.role) (brought_in info) e index (clock + r.later) peer (cookie_in info) (changed_conclusion r c) ts n found)
    is)
    (sym (find_through (changed_session r) (is_of peer c.caller) (is_of peer c.caller) (of_same r peer c.caller) ss))
    (conclusion_same e index r clock (passphrase_of e c.role) (brought_in info) peer (cookie_in info) c ss n m (find (is_of peer c.caller) ss) h)))

-- a packet in clear
clear_concludes : (r : Change) (k : Publisher) (q b : Body) → q ≡ b → concludes q ≡ option_map (changed_conclusion r) (concludes b)
    → concludes (decrypted_body k.keys k.salt q) ≡ option_map (changed_conclusion r) (concludes (decrypted_body k.keys k.salt b))
clear_concludes r k q (Data number encryption payload) is h =
    ap (λ (x : Body). concludes (decrypted_body k.keys k.salt x)) is ∙ by (named_key encryption k.keys)
  where
    by : (o : Option (List ℕ)) → concludes (decrypted_data o k.salt number payload)
        ≡ option_map (changed_conclusion r) (concludes (decrypted_data o k.salt number payload))
    by None = refl
    by (Some key) = refl
clear_concludes r k q (Handshake info) is h = ap (λ (x : Body). concludes (decrypted_body k.keys k.salt x)) is ∙ sym (ap concludes is) ∙ h
clear_concludes r k q KeepAlive is h = ap (λ (x : Body). concludes (decrypted_body k.keys k.salt x)) is
clear_concludes r k q (Ack number info) is h = ap (λ (x : Body). concludes (decrypted_body k.keys k.salt x)) is
clear_concludes r k q (Nak info) is h = ap (λ (x : Body). concludes (decrypted_body k.keys k.salt x)) is
clear_concludes r k q CongestionWarning is h = ap (λ (x : Body). concludes (decrypted_body k.keys k.salt x)) is
clear_concludes r k q Shutdown is h = ap (λ (x : Body). concludes (decrypted_body k.keys k.salt x)) is
clear_concludes r k q (AckAck number) is h = ap (λ (x : Body). concludes (decrypted_body k.keys k.salt x)) is
clear_concludes r k q (DropRequest message first last) is h = ap (λ (x : Body). concludes (decrypted_body k.keys k.salt x)) is
clear_concludes r k q PeerError is h = ap (λ (x : Body). concludes (decrypted_body k.keys k.salt x)) is
clear_concludes r k q UserDefined is h = ap (λ (x : Body). concludes (decrypted_body k.keys k.salt x)) is

clear_same : (r : Change) (k : SlotKeys) (q p : Packet) → r.secured ≡ true → IsChangedPacket r q p → IsChangedPacket r (in_clear k q) (in_clear k p)
clear_same r Clear q p secured h = h
clear_same r (OfSubscriber request keys) q p secured h = h
clear_same r (OfPublisher request keys) q p secured h =
    let same = h.body_is secured in
    let body : decrypted_body keys.keys keys.salt q.body ≡ decrypted_body keys.keys keys.salt p.body = ap (decrypted_body keys.keys keys.salt) same in
    record {
      stamp_is = h.stamp_is;
      dest_is = h.dest_is;
      publisher_hears = λ initial. ap (λ (n : ℕ). to_publisher.heard_from n (decrypted_body keys.keys keys.salt q.body)) (r.numbers_stay secured initial)
          ∙ ap (to_publisher.heard_from initial) body;
      subscriber_hears = λ initial. ap (λ (n : ℕ). to_subscriber.heard_from n (decrypted_body keys.keys keys.salt q.body)) (r.numbers_stay secured initial)
          ∙ ap (to_subscriber.heard_from initial) body;
      shutdown_is = ap is_shutdown body;
      concludes_is = clear_concludes r keys q.body p.body same h.concludes_is;
      brought_is = ap (λ (b : Body). brought_in (info_of b)) body;
      cookie_is = ap (λ (b : Body). cookie_in (info_of b)) body;
      body_is = λ also. body;
    }

decrypted_same : (r : Change) (q p : Packet) (others bytes : List ℕ) (n m : RouteKeys) (s : Session) → r.secured ≡ true
    → packet_in others ≡ Ok q → packet_in bytes ≡ Ok p → IsChangedPacket r q p → AreChangedKeys r n m
    → IsChangedJudged r (decrypted_judged q others n (changed_session r s)) (decrypted_judged p bytes m s)
decrypted_same r q p others bytes n m s secured theirs ours h k =
    let key = m.held s.slot in
    record {
      verdict_is = record {
        other = clear_bytes key q others;
        verdict_is = ap (λ (x : SlotKeys). Decrypted (clear_bytes x q others)) (k.held_is s.slot);
        reading_is = rw (clear_read key q others theirs, clear_read key p bytes ours) (clear_same r key q p secured h);
      };
      keys_are = k;
    }

-- a KMREQ
request_answered_same : (a : Option KeyAnswer) (contents : List ℕ) (r : Change) (clock : ℕ) (q p : Packet) (others bytes : List ℕ) (n m : RouteKeys)
    (s : Session)
    → r.secured ≡ true → packet_in others ≡ Ok q → packet_in bytes ≡ Ok p → IsChangedPacket r q p → AreChangedKeys r n m
    → IsChangedJudged r (answered_judged a contents (clock + r.later) q others n (changed_session r s)) (answered_judged a contents clock p bytes m s)
request_answered_same None contents r clock q p others bytes n m s secured theirs ours h k = decrypted_same r q p others bytes n m s secured theirs ours h k
request_answered_same (Some a) contents r clock q p others bytes n m s secured theirs ours h k =
    record {
      verdict_is = ap (λ (t : ℕ). Answered (record { peer = s.peer; packet = Responds s.conclusion.caller t (response_to a contents) })) (own_time r clock s);
      keys_are = record {
        moments_are = k.moments_are;
        pool_is = k.pool_is;
        held_is = λ slot. ap (λ (x : SlotKeys). cond (slot == s.slot) (refreshed contents x) (n.held slot)) (k.held_is s.slot)
            ∙ ap (λ (x : SlotKeys). cond (slot == s.slot) (refreshed contents (m.held s.slot)) x) (k.held_is slot);
      };
    }

session_judged_same : (r : Change) (request : Option (List ℕ)) (clock : ℕ) (q p : Packet) (others bytes : List ℕ) (n m : RouteKeys) (o : Option Session)
    → r.secured ≡ true → packet_in others ≡ Ok q → packet_in bytes ≡ Ok p → IsChangedPacket r q p → AreChangedKeys r n m
    → IsChangedJudged r (session_judged request (clock + r.later) q others n (option_map (changed_session r) o)) (session_judged request clock p bytes m o)
session_judged_same r request clock q p others bytes n m None secured theirs ours h k = record { verdict_is = refl; keys_are = k }
session_judged_same r None clock q p others bytes n m (Some s) secured theirs ours h k = decrypted_same r q p others bytes n m s secured theirs ours h k
session_judged_same r (Some contents) clock q p others bytes n m (Some s) secured theirs ours h k =
    subst
    (λ (x : SlotKeys). IsChangedJudged r (answered_judged (answer_by contents x) contents (clock + r.later) q others n (changed_session r s))
    (answered_judged (answer_by contents (m.held s.slot)) contents clock p bytes m s))
    (sym (k.held_is s.slot))
    (request_answered_same (answer_by contents (m.held s.slot)) contents r clock q p others bytes n m s secured theirs ours h k)

packet_judged_same : (e : Terms) (index : ℕ) (r : Change) (clock : ℕ) (peer : Peer) (request : Option (List ℕ)) (q p : Packet)
    (theirs bytes : List ℕ) (ss : List Session) (n m : RouteKeys) → r.secured ≡ true → packet_in theirs ≡ Ok q → packet_in bytes ≡ Ok p
    → IsChangedPacket r q p → AreChangedKeys r n m
    → IsChangedJudged r (packet_judged e index (clock + r.later) peer request q theirs (map (changed_session r) ss) n)
    (packet_judged e index clock peer request p bytes ss m)
packet_judged_same e index r clock peer request q p theirs bytes ss n m secured reads read h k =
    subst
    (λ (d : ℕ). IsChangedJudged r
    (cond (d == 0) (others (concludes q.body)) (session_judged request (clock + r.later) q theirs n (find (is_for index peer d) (map (changed_session r) ss))))
    (packet_judged e index clock peer request p bytes ss m))
    (sym h.dest_is) (by (p.dest == 0))
  where
    others : Option Conclusion → Judged
    others o = info_judged e index (clock + r.later) peer (info_of q.body) (map (changed_session r) ss) n o

    by : (b : Bool)
        → IsChangedJudged r
        (cond b (others (concludes q.body))
        (session_judged request (clock + r.later) q theirs n (find (is_for index peer p.dest) (map (changed_session r) ss))))
        (cond b (info_judged e index clock peer (info_of p.body) ss m (concludes p.body))
        (session_judged request clock p bytes m (find (is_for index peer p.dest) ss)))
    by true =
        subst (λ (o : Option Conclusion). IsChangedJudged r (others o) (info_judged e index clock peer (info_of p.body) ss m (concludes p.body)))
        (sym h.concludes_is)
        (info_same e index r clock peer (info_of q.body) (info_of p.body) ss n m (concludes p.body) h.brought_is h.cookie_is k)
    by false =
        subst
        (λ (o : Option Session). IsChangedJudged r (session_judged request (clock + r.later) q theirs n o)
        (session_judged request clock p bytes m (find (is_for index peer p.dest) ss)))
        (sym (find_through (changed_session r) (is_for index peer p.dest) (is_for index peer p.dest) (for_same r index peer p.dest) ss))
        (session_judged_same r request clock q p theirs bytes n m (find (is_for index peer p.dest) ss) secured reads read h k)

read_judged_same : (e : Terms) (index : ℕ) (r : Change) (clock : ℕ) (peer : Peer) (q p : Result Packet PacketFault) (theirs bytes : List ℕ)
    (ss : List Session) (n m : RouteKeys) → r.secured ≡ true → packet_in theirs ≡ q → packet_in bytes ≡ p → IsChangedReading r q p
    → request_in theirs ≡ request_in bytes → AreChangedKeys r n m
    → IsChangedJudged r (read_judged e index (clock + r.later) peer q theirs (map (changed_session r) ss) n) (read_judged e index clock peer p bytes ss m)
read_judged_same e index r clock peer (Ok q) (Ok p) theirs bytes ss n m secured reads read h asks k =
    subst
    (λ (request : Option (List ℕ)). IsChangedJudged r (packet_judged e index (clock + r.later) peer request q theirs (map (changed_session r) ss) n)
    (packet_judged e index clock peer (request_in bytes) p bytes ss m))
    (sym asks) (packet_judged_same e index r clock peer (request_in bytes) q p theirs bytes ss n m secured reads read h k)
read_judged_same e index r clock peer (Err f) (Err g) theirs bytes ss n m secured reads read h asks k = record { verdict_is = refl; keys_are = k }
read_judged_same e index r clock peer (Ok q) (Err g) theirs bytes ss n m secured reads read h asks k = absurd h
read_judged_same e index r clock peer (Err f) (Ok p) theirs bytes ss n m secured reads read h asks k = absurd h

item_judged_same : (e : Terms) (index : ℕ) (r : Change) (clock : ℕ) (j i : Item) (ss : List Session) (n m : RouteKeys) → r.secured ≡ true
    → IsChangedInput r j i → AreChangedKeys r n m
    → IsChangedJudged r (item_judged e index (clock + r.later) j (map (changed_session r) ss) n) (item_judged e index clock i ss m)
item_judged_same e index r clock (Received d y) (Received c x) ss n m secured h k =
    subst
    (λ (peer : Peer). IsChangedJudged r (read_judged e index (clock + r.later) peer (packet_in d.bytes) d.bytes (map (changed_session r) ss) n)
    (read_judged e index clock c.peer (packet_in c.bytes) c.bytes ss m))
    (sym h.item_is.0.peer_is)
    (read_judged_same e index r clock c.peer (packet_in d.bytes) (packet_in c.bytes) d.bytes c.bytes ss n m secured refl refl h.item_is.0.reading_is
    (h.asks_the_same secured) k)
item_judged_same e index r clock (Tick y) (Tick x) ss n m secured h k = record { verdict_is = refl; keys_are = k }
item_judged_same e index r clock (Close y) (Close x) ss n m secured h k = record { verdict_is = refl; keys_are = k }
item_judged_same e index r clock (Received d y) (Tick x) ss n m secured h k = absurd h.item_is
item_judged_same e index r clock (Tick y) (Received c x) ss n m secured h k = absurd h.item_is
item_judged_same e index r clock (Received d y) (Close x) ss n m secured h k = absurd h.item_is
item_judged_same e index r clock (Tick y) (Close x) ss n m secured h k = absurd h.item_is
item_judged_same e index r clock (Close y) (Received c x) ss n m secured h k = absurd h.item_is
item_judged_same e index r clock (Close y) (Tick x) ss n m secured h k = absurd h.item_is

kept_here : (r : Change) (o : Option Session) (k : SlotKeys) → kept_at (option_map (changed_session r) o) k ≡ kept_at o k
kept_here r None k = refl
kept_here r (Some s) k = refl

kept_same : (r : Change) (ss : List Session) (n m : RouteKeys) → AreChangedKeys r n m
    → AreChangedKeys r (keys_kept (map (changed_session r) ss) n) (keys_kept ss m)
kept_same r ss n m h =
    record {
      moments_are = h.moments_are;
      pool_is = h.pool_is;
      held_is = λ slot. ap (λ (o : Option Session). kept_at o (n.held slot))
          (find_through (changed_session r) (is_open_in slot) (is_open_in slot) (λ s. refl) ss)
          ∙ kept_here r (find (is_open_in slot) ss) (n.held slot)
          ∙ ap (λ (k : SlotKeys). kept_at (find (is_open_in slot) ss) k) (h.held_is slot);
    }

-- a KMRSP
session_confirmed_same : (r : Change) (contents : List ℕ) (o : Option Session) (n m : RouteKeys) → AreChangedKeys r n m
    → AreChangedKeys r (confirmed_at contents (option_map (changed_session r) o) n) (confirmed_at contents o m)
session_confirmed_same r contents None n m k = k
session_confirmed_same r contents (Some s) n m k =
    record {
      moments_are = k.moments_are;
      pool_is = k.pool_is;
      held_is = λ slot. ap (λ (x : SlotKeys). cond (slot == s.slot) (confirmed_by contents x) (n.held slot)) (k.held_is s.slot)
          ∙ ap (λ (x : SlotKeys). cond (slot == s.slot) (confirmed_by contents (m.held s.slot)) x) (k.held_is slot);
    }

response_confirmed_same : (r : Change) (index : ℕ) (peer : Peer) (o : Option Confirmation) (ss : List Session) (n m : RouteKeys) → AreChangedKeys r n m
    → AreChangedKeys r (confirmed_for index peer o (map (changed_session r) ss) n) (confirmed_for index peer o ss m)
response_confirmed_same r index peer None ss n m k = k
response_confirmed_same r index peer (Some c) ss n m k =
    subst (λ (o : Option Session). AreChangedKeys r (confirmed_at c.contents o n) (confirmed_at c.contents (find (is_for index peer c.dest) ss) m))
    (sym (find_through (changed_session r) (is_for index peer c.dest) (is_for index peer c.dest) (for_same r index peer c.dest) ss))
    (session_confirmed_same r c.contents (find (is_for index peer c.dest) ss) n m k)

confirmed_same : (r : Change) (index : ℕ) (j i : Item) (ss : List Session) (n m : RouteKeys) → r.secured ≡ true → IsChangedInput r j i → AreChangedKeys r n m
    → AreChangedKeys r (keys_confirmed index j (map (changed_session r) ss) n) (keys_confirmed index i ss m)
confirmed_same r index (Received d y) (Received c x) ss n m secured h k =
    subst
    (λ (peer : Peer). AreChangedKeys r (confirmed_for index peer (confirmation_in d.bytes) (map (changed_session r) ss) n)
    (confirmed_for index c.peer (confirmation_in c.bytes) ss m))
    (sym h.item_is.0.peer_is)
    (subst
    (λ (o : Option Confirmation). AreChangedKeys r (confirmed_for index c.peer o (map (changed_session r) ss) n)
    (confirmed_for index c.peer (confirmation_in c.bytes) ss m))
    (sym (h.confirms_the_same secured)) (response_confirmed_same r index c.peer (confirmation_in c.bytes) ss n m k))
confirmed_same r index (Tick y) (Tick x) ss n m secured h k = k
confirmed_same r index (Close y) (Close x) ss n m secured h k = k
confirmed_same r index (Received d y) (Tick x) ss n m secured h k = absurd h.item_is
confirmed_same r index (Tick y) (Received c x) ss n m secured h k = absurd h.item_is
confirmed_same r index (Received d y) (Close x) ss n m secured h k = absurd h.item_is
confirmed_same r index (Tick y) (Close x) ss n m secured h k = absurd h.item_is
confirmed_same r index (Close y) (Received c x) ss n m secured h k = absurd h.item_is
confirmed_same r index (Close y) (Tick x) ss n m secured h k = absurd h.item_is

judged_same : (secured : Bool) (e : Terms) (index : ℕ) (r : Change) (clock : ℕ) (j i : Item) (ss : List Session) (n m : RouteKeys)
    → (secured ≡ true → r.secured ≡ true)
    → IsChangedInput r j i → AreChangedKeys r n m
    → IsChangedJudged r (judged_if secured e index (clock + r.later) j (map (changed_session r) ss) n) (judged_if secured e index clock i ss m)
judged_same false e index r clock j i ss n m fits h k = record { verdict_is = refl; keys_are = k }
judged_same true e index r clock j i ss n m fits h k =
    item_judged_same e index r clock j i ss (keys_confirmed index j (map (changed_session r) ss) (keys_kept (map (changed_session r) ss) n))
    (keys_confirmed index i ss (keys_kept ss m)) (fits refl) h
    (confirmed_same r index j i ss (keys_kept (map (changed_session r) ss) n) (keys_kept ss m) (fits refl) h (kept_same r ss n m k))

-- the item as the sessions process it, and the answers to it
moment_same : (r : Change) (j i : Item) → IsChangedItem r j i → moment_of j ≡ moment_of i + r.later
moment_same r (Received d y) (Received c x) h = h.1
moment_same r (Tick y) (Tick x) h = h
moment_same r (Close y) (Close x) h = h
moment_same r (Received d y) (Tick x) h = absurd h
moment_same r (Tick y) (Received c x) h = absurd h
moment_same r (Received d y) (Close x) h = absurd h
moment_same r (Tick y) (Close x) h = absurd h
moment_same r (Close y) (Received c x) h = absurd h
moment_same r (Close y) (Tick x) h = absurd h

bytes_same : (r : Change) (others bytes : List ℕ) (j i : Item) → IsChangedReading r (packet_in others) (packet_in bytes) → IsChangedItem r j i
    → IsChangedItem r (with_bytes others j) (with_bytes bytes i)
bytes_same r others bytes (Received d y) (Received c x) reading h = (record { peer_is = h.0.peer_is; reading_is = reading }, h.1)
bytes_same r others bytes (Tick y) (Tick x) reading h = h
bytes_same r others bytes (Close y) (Close x) reading h = h
bytes_same r others bytes (Received d y) (Tick x) reading h = absurd h
bytes_same r others bytes (Tick y) (Received c x) reading h = absurd h
bytes_same r others bytes (Received d y) (Close x) reading h = absurd h
bytes_same r others bytes (Tick y) (Close x) reading h = absurd h
bytes_same r others bytes (Close y) (Received c x) reading h = absurd h
bytes_same r others bytes (Close y) (Tick x) reading h = absurd h

heard_same : (r : Change) (w v : Verdict) (j i : Item) → IsChangedVerdict r w v → IsChangedItem r j i → IsChangedItem r (heard_as w j) (heard_as v i)
heard_same r w Passes j i is h = subst (λ (x : Verdict). IsChangedItem r (heard_as x j) i) (sym is) h
heard_same r w Ignored j i is h = subst (λ (x : Verdict). IsChangedItem r (heard_as x j) (Tick (moment_of i))) (sym is) (moment_same r j i h)
heard_same r w (Refused peer c) j i is h = subst (λ (x : Verdict). IsChangedItem r (heard_as x j) (Tick (moment_of i))) (sym is) (moment_same r j i h)
heard_same r w (Repeats request) j i is h = subst (λ (x : Verdict). IsChangedItem r (heard_as x j) i) (sym is) h
heard_same r w (Answered answer) j i is h = subst (λ (x : Verdict). IsChangedItem r (heard_as x j) i) (sym is) h
heard_same r w (Decrypted bytes) j i is h =
    subst (λ (x : Verdict). IsChangedItem r (heard_as x j) (with_bytes bytes i)) (sym is.verdict_is)
    (bytes_same r is.other bytes j i is.reading_is h)

with_keys_same : (r : Change) (request : List ℕ) (o : Output) → output_with request (changed_output r o) ≡ changed_output r (output_with request o)
with_keys_same r request (Answers caller answer) = refl
with_keys_same r request (AnswersWithKeys caller other answer) = refl
with_keys_same r request (Says caller initial time report) = refl
with_keys_same r request (Ends caller time) = refl
with_keys_same r request (Responds caller time contents) = refl
with_keys_same r request (SaysWithKeys output) = refl

answers_with_same : (r : Change) (w v : Verdict) (xs : List Reply) → IsChangedVerdict r w v
    → answers_as w (map (changed_reply r) xs) ≡ map (changed_reply r) (answers_as v xs)
answers_with_same r w Passes xs is = ap (λ (x : Verdict). answers_as x (map (changed_reply r) xs)) is
answers_with_same r w Ignored xs is = ap (λ (x : Verdict). answers_as x (map (changed_reply r) xs)) is
answers_with_same r w (Refused peer c) xs is = ap (λ (x : Verdict). answers_as x (map (changed_reply r) xs)) is
answers_with_same r w (Repeats None) xs is = ap (λ (x : Verdict). answers_as x (map (changed_reply r) xs)) is
answers_with_same r w (Repeats (Some request)) xs is =
    ap (λ (x : Verdict). answers_as x (map (changed_reply r) xs)) is
    ∙ map_through (changed_reply r) (reply_with request) (reply_with request) (changed_reply r)
    (λ x. ap (λ (o : Output). record { peer = x.peer; packet = o }) (with_keys_same r request x.packet)) xs
answers_with_same r w (Answered answer) xs is = ap (λ (x : Verdict). answers_as x (map (changed_reply r) xs)) is
answers_with_same r w (Decrypted bytes) xs is = ap (λ (x : Verdict). answers_as x (map (changed_reply r) xs)) is.verdict_is

-- before the first item the clock is 0 in both
record IsChangedRoute (r : Change) (n m : Route) : Type 0 where
  clock_is : (moment : ℕ) → max n.clock (moment + r.later) ≡ max m.clock moment + r.later
  sessions_are : n.sessions ≡ map (changed_session r) m.sessions
  closed_is : n.is_closed ≡ m.is_closed
  keys_are : AreChangedKeys r n.keys m.keys

clock_same : (r : Change) (j i : Item) (n m : Route) → IsChangedItem r j i → IsChangedRoute r n m → clock_after j n ≡ clock_after i m + r.later
clock_same r (Received d y) (Received c x) n m h k = ap (λ z. max n.clock z) h.1 ∙ k.clock_is x
clock_same r (Tick y) (Tick x) n m h k = ap (λ z. max n.clock z) h ∙ k.clock_is x
clock_same r (Close y) (Close x) n m h k = ap (λ z. max n.clock z) h ∙ k.clock_is x
clock_same r (Received d y) (Tick x) n m h k = absurd h
clock_same r (Tick y) (Received c x) n m h k = absurd h
clock_same r (Received d y) (Close x) n m h k = absurd h
clock_same r (Tick y) (Close x) n m h k = absurd h
clock_same r (Close y) (Received c x) n m h k = absurd h
clock_same r (Close y) (Tick x) n m h k = absurd h

closes_same : (r : Change) (j i : Item) → IsChangedItem r j i → closes j ≡ closes i
closes_same r (Received d y) (Received c x) h = refl
closes_same r (Tick y) (Tick x) h = refl
closes_same r (Close y) (Close x) h = refl
closes_same r (Received d y) (Tick x) h = absurd h
closes_same r (Tick y) (Received c x) h = absurd h
closes_same r (Received d y) (Close x) h = absurd h
closes_same r (Tick y) (Close x) h = absurd h
closes_same r (Close y) (Received c x) h = absurd h
closes_same r (Close y) (Tick x) h = absurd h

judgement_same : (e : Terms) (index : ℕ) (r : Change) (fits : has_secured_role e ≡ true → r.secured ≡ true) (j i : Item) (n m : Route)
    → IsChangedInput r j i → IsChangedRoute r n m → IsChangedJudged r (judgement e index j n) (judgement e index i m)
judgement_same e index r fits j i n m h k =
    let clock = clock_after i m in
    let is = judgement e index i m in
    subst (λ (t : ℕ). IsChangedJudged r (judged_if (has_secured_role e) e index t j (advanced e t n.sessions) n.keys) is)
    (sym (clock_same r j i n m h.item_is k))
    (subst (λ (ss : List Session). IsChangedJudged r (judged_if (has_secured_role e) e index (clock + r.later) j ss n.keys) is)
    (sym (ap (λ ss. advanced e (clock + r.later) ss) k.sessions_are ∙ advanced_same e r clock m.sessions))
    (judged_same (has_secured_role e) e index r clock j i (advanced e clock m.sessions) n.keys m.keys fits h k.keys_are))

taken_by_same : (e : Terms) (index : ℕ) (r : Change) (fits : has_secured_role e ≡ true → r.secured ≡ true) (j i : Item) (n m : Route)
    → IsChangedInput r j i → IsChangedRoute r n m → taken_by e index j n ≡ changed_taken r (taken_by e index i m)
taken_by_same e index r fits j i n m h k =
    let clock = clock_after i m in
    let ss = advanced e clock m.sessions in
    let v = (judgement e index i m).verdict in
    let w = (judgement e index j n).verdict in
    let is = (judgement_same e index r fits j i n m h k).verdict_is in
    ap (λ t. taken_with w (taken e index t (heard_as w j) (advanced e t n.sessions))) (clock_same r j i n m h.item_is k)
    ∙ ap (λ xs. taken_with w (taken e index (clock + r.later) (heard_as w j) (advanced e (clock + r.later) xs))) k.sessions_are
    ∙ ap (λ xs. taken_with w (taken e index (clock + r.later) (heard_as w j) xs)) (advanced_same e r clock m.sessions)
    ∙ ap (taken_with w) (taken_same e index r clock (heard_as w j) (heard_as v i) (heard_same r w v j i is h.item_is) ss)
    ∙ ap (λ (xs : List Reply). taken_as (map (changed_session r) (taken e index clock (heard_as v i) ss).sessions) xs)
    (answers_with_same r w v (taken e index clock (heard_as v i) ss).answers is)

passed_by_same : (e : Terms) (index : ℕ) (r : Change) (fits : has_secured_role e ≡ true → r.secured ≡ true) (j i : Item) (n m : Route)
    → IsChangedInput r j i → IsChangedRoute r n m → passed_by e index j n ≡ map (changed_session r) (passed_by e index i m)
passed_by_same e index r fits j i n m h k =
    let clock = clock_after i m in
    ap (λ t. after_delivery e t (taken_by e index j n).sessions) (clock_same r j i n m h.item_is k)
    ∙ ap (λ (t : Taken). after_delivery e (clock + r.later) t.sessions) (taken_by_same e index r fits j i n m h k)
    ∙ after_delivery_same e r clock (taken_by e index i m).sessions

goes_on : (a b later moment : ℕ) → a ≡ b + later → max a (moment + later) ≡ max b moment + later
goes_on a b later moment same = omega (arith, same)

-- sessions have the same keys of their own
own_same : (e : Terms) (index : ℕ) (r : Change) (fits : has_secured_role e ≡ true → r.secured ≡ true) (j i : Item) (n m : Route)
    → IsChangedInput r j i → IsChangedRoute r n m → (slot : ℕ) → own_by e index j n slot ≡ own_by e index i m slot
own_same e index r fits j i n m h k slot = by (secures e Request)
  where
    by : (b : Bool) → own_if b (judgement e index j n).keys.held slot ≡ own_if b (judgement e index i m).keys.held slot
    by true = ap own_keys ((judgement_same e index r fits j i n m h k).keys_are.held_is slot)
    by false = refl

own_secured : (e : Terms) (index : ℕ) (r : Change) (fits : has_secured_role e ≡ true → r.secured ≡ true) (i : Item) (m : Route) (slot : ℕ)
    → AreSecured r (own_by e index i m slot)
own_secured e index r fits i m slot = by (secures e Publish) (secures e Request) fits
  where
    by : (a b : Bool) → ((a || b) ≡ true → r.secured ≡ true) → AreSecured r (own_if b (judgement e index i m).keys.held slot)
    by true true h some = h refl
    by false true h some = h refl
    by a false h some = absurd (let bad : false ≡ true = some in cc)

sessions_same : (is_closed : Bool) (e : Terms) (index : ℕ) (r : Change) (fits : has_secured_role e ≡ true → r.secured ≡ true) (j i : Item)
    (n m : Route) → IsChangedInput r j i
    → IsChangedRoute r n m
    → sessions_at is_closed e index j n ≡ map (changed_session r) (sessions_at is_closed e index i m)
sessions_same true e index r fits j i n m h k = k.sessions_are
sessions_same false e index r fits j i n m h k =
    let clock = clock_after i m in
    let others = passed_by e index j n in
    let ss = passed_by e index i m in
    let over = is_file_over e ss in
    let other = own_by e index j n in
    let own = own_by e index i m in
    ap (λ t. map (finished other e t (is_file_over e others)) others) (clock_same r j i n m h.item_is k)
    ∙ ap (λ xs. map (finished other e (clock + r.later) (is_file_over e xs)) xs) (passed_by_same e index r fits j i n m h k)
    ∙ ap (λ b. map (finished other e (clock + r.later) b) (map (changed_session r) ss)) (over_same e r ss)
    ∙ map_through (changed_session r) (finished other e (clock + r.later) over) (finished own e clock over) (changed_session r)
    (λ s. ap (λ (keys : Option Keys). finished_at (has_whole_file over s) keys e (clock + r.later) (changed_session r s))
    (own_same e index r fits j i n m h k s.slot) ∙ finished_here e r clock (has_whole_file over s) (own s.slot) s) ss

-- the keys after the end of an event
same_in_slot : (r : Change) (clock : ℕ) (o : Option Session) (n m : SlotKeys) → n ≡ m
    → keys_in_slot (clock + r.later) (option_map (changed_session r) o) n ≡ keys_in_slot clock o m
same_in_slot r clock None n m same = same
same_in_slot r clock (Some s) n m same =
    ap (λ (t : ℕ). keys_said t s.past n) (own_time r clock s) ∙ ap (keys_said (time_in s clock) s.past) same

keys_finished_same : (secured : Bool) (r : Change) (clock : ℕ) (ss : List Session) (n m : RouteKeys) → AreChangedKeys r n m
    → AreChangedKeys r (keys_finished_if secured (clock + r.later) (map (changed_session r) ss) n) (keys_finished_if secured clock ss m)
keys_finished_same true r clock ss n m h =
    record {
      moments_are = h.moments_are;
      pool_is = h.pool_is;
      held_is = λ slot.
          ap (λ (o : Option Session). keys_in_slot (clock + r.later) o (n.held slot))
          (find_through (changed_session r) (is_open_in slot) (is_open_in slot) (λ s. refl) ss)
          ∙ same_in_slot r clock (find (is_open_in slot) ss) (n.held slot) (m.held slot) (h.held_is slot);
    }
keys_finished_same false r clock ss n m h = h

keys_same : (is_closed : Bool) (e : Terms) (index : ℕ) (r : Change) (fits : has_secured_role e ≡ true → r.secured ≡ true) (j i : Item)
    (n m : Route) → IsChangedInput r j i → IsChangedRoute r n m
    → AreChangedKeys r (keys_at is_closed e index j n) (keys_at is_closed e index i m)
keys_same true e index r fits j i n m h k = k.keys_are
keys_same false e index r fits j i n m h k =
    let clock = clock_after i m in
    let others = passed_by e index j n in
    let ss = passed_by e index i m in
    let secured = secures e Request in
    let later = (judgement e index j n).keys in
    let earlier = keys_finished_if secured clock ss (judgement e index i m).keys in
    subst (λ (t : ℕ). AreChangedKeys r (keys_finished_if secured t others later) earlier) (sym (clock_same r j i n m h.item_is k))
    (subst (λ (xs : List Session). AreChangedKeys r (keys_finished_if secured (clock + r.later) xs later) earlier)
    (sym (passed_by_same e index r fits j i n m h k))
    (keys_finished_same secured r clock ss later (judgement e index i m).keys
    (judgement_same e index r fits j i n m h k).keys_are))

notified_same : (e : Terms) (index : ℕ) (r : Change) (fits : has_secured_role e ≡ true → r.secured ≡ true) (j i : Item) (n m : Route)
    → IsChangedInput r j i → IsChangedRoute r n m → IsChangedRoute r (with_input e index j n) (with_input e index i m)
notified_same e index r fits j i n m h k =
    record {
      clock_is = λ moment. goes_on (clock_after j n) (clock_after i m) r.later moment (clock_same r j i n m h.item_is k);
      sessions_are = ap (λ b. sessions_at b e index j n) k.closed_is ∙ sessions_same m.is_closed e index r fits j i n m h k;
      closed_is = ap (λ b. b || closes j) k.closed_is ∙ ap (λ b. m.is_closed || b) (closes_same r j i h.item_is);
      keys_are = subst (λ (b : Bool). AreChangedKeys r (keys_at b e index j n) (keys_at m.is_closed e index i m)) (sym k.closed_is)
          (keys_same m.is_closed e index r fits j i n m h k);
    }

replies_at_same : (is_closed : Bool) (e : Terms) (index : ℕ) (r : Change) (fits : has_secured_role e ≡ true → r.secured ≡ true) (j i : Item)
    (n m : Route) → IsChangedInput r j i
    → IsChangedRoute r n m
    → replies_at is_closed e index j n ≡ map (changed_reply r) (replies_at is_closed e index i m)
replies_at_same true e index r fits j i n m h k = refl
replies_at_same false e index r fits j i n m h k =
    let clock = clock_after i m in
    let others = passed_by e index j n in
    let ss = passed_by e index i m in
    let over = is_file_over e ss in
    let other = own_by e index j n in
    let own = own_by e index i m in
    let idle = idle_notified e clock m.sessions in
    let first = (taken_by e index i m).answers in
    let second = packets_where e clock speaks ss in
    let third = served own e clock over ss in
    ap
    (λ t.
    idle_notified e t n.sessions ++ (taken_by e index j n).answers ++ packets_where e t speaks others ++ served other e t (is_file_over e others) others)
    (clock_same r j i n m h.item_is k)
    ∙ ap
    (λ xs.
    idle_notified e (clock + r.later) xs ++ (taken_by e index j n).answers ++ packets_where e (clock + r.later) speaks others
    ++ served other e (clock + r.later) (is_file_over e others) others)
    k.sessions_are
    ∙ ap
    (λ xs.
    xs ++ (taken_by e index j n).answers ++ packets_where e (clock + r.later) speaks others
    ++ served other e (clock + r.later) (is_file_over e others) others)
    (idle_notified_same e r clock m.sessions)
    ∙ ap
    (λ (t : Taken).
    map (changed_reply r) idle ++ t.answers ++ packets_where e (clock + r.later) speaks others
    ++ served other e (clock + r.later) (is_file_over e others) others)
    (taken_by_same e index r fits j i n m h k)
    ∙ ap
    (λ xs.
    map (changed_reply r) idle ++ map (changed_reply r) first ++ packets_where e (clock + r.later) speaks xs
    ++ served other e (clock + r.later) (is_file_over e xs) xs)
    (passed_by_same e index r fits j i n m h k)
    ∙ ap
    (λ x.
    map (changed_reply r) idle ++ map (changed_reply r) first ++ packets_where e (clock + r.later) speaks (map (changed_session r) ss)
    ++ served other e (clock + r.later) x (map (changed_session r) ss))
    (over_same e r ss)
    ∙ ap
    (λ xs.
    map (changed_reply r) idle ++ map (changed_reply r) first ++ xs ++ served other e (clock + r.later) over (map (changed_session r) ss))
    (packets_same e r clock speaks (speaks_same r) ss)
    ∙ ap (λ xs. map (changed_reply r) idle ++ map (changed_reply r) first ++ map (changed_reply r) second ++ xs)
    (served_same other own e r clock over ss (own_same e index r fits j i n m h k) (own_secured e index r fits i m))
    ∙ ap (λ xs. xs ++ map (changed_reply r) second ++ map (changed_reply r) third) (sym (map-append (changed_reply r) idle first))
    ∙ ap (λ xs. xs ++ map (changed_reply r) third) (sym (map-append (changed_reply r) (idle ++ first) second))
    ∙ sym (map-append (changed_reply r) (idle ++ first ++ second) third)

replies_same : (e : Terms) (index : ℕ) (r : Change) (fits : has_secured_role e ≡ true → r.secured ≡ true) (j i : Item) (n m : Route)
    → IsChangedInput r j i → IsChangedRoute r n m → replies_to e index j n ≡ map (changed_reply r) (replies_to e index i m)
replies_same e index r fits j i n m h k = ap (λ b. replies_at b e index j n) k.closed_is ∙ replies_at_same m.is_closed e index r fits j i n m h k

at_first : (later moment : ℕ) → max 0 (moment + later) ≡ max 0 moment + later
at_first later moment = omega arith

none_requested : first_keys.moments ≡ moments_after []
unfolding moments_after
none_requested = refl

-- the same sessions are given up
late_same : (r : Change) (clock : ℕ) (keys : Option Keys) (s : Session) → is_late keys (clock + r.later) (changed_session r s) ≡ is_late keys clock s
late_same r clock keys s = ap (λ (t : ℕ). is_subscriber s && is_unconfirmed keys t) (own_time r clock s)

given_up_as_same : (r : Change) (late : Bool) (s : Session) → given_up_at late (changed_session r s) ≡ changed_session r (given_up_at late s)
given_up_as_same r true s = refl
given_up_as_same r false s = refl

given_up_same : (r : Change) (other own : ℕ → Option Keys) → ((slot : ℕ) → other slot ≡ own slot) → (clock : ℕ) (s : Session)
    → given_up other (clock + r.later) (changed_session r s) ≡ changed_session r (given_up own clock s)
given_up_same r other own same clock s =
    ap (λ (keys : Option Keys). given_up_at (is_late keys (clock + r.later) (changed_session r s)) (changed_session r s)) (same s.slot)
    ∙ ap (λ (late : Bool). given_up_at late (changed_session r s)) (late_same r clock (own s.slot) s)
    ∙ given_up_as_same r (is_late (own s.slot) clock s) s

gives_up_same : (encrypted : Bool) (r : Change) (other own : ℕ → Option Keys) → ((slot : ℕ) → other slot ≡ own slot) → (clock : ℕ) (ss : List Session)
    → given_up_if encrypted other (clock + r.later) (map (changed_session r) ss) ≡ map (changed_session r) (given_up_if encrypted own clock ss)
gives_up_same true r other own same clock ss =
    map_through (changed_session r) (given_up other (clock + r.later)) (given_up own clock) (changed_session r) (given_up_same r other own same clock) ss
gives_up_same false r other own same clock ss = refl

own_before_same : (secured : Bool) (n m : ℕ → SlotKeys) → ((slot : ℕ) → n slot ≡ m slot) → (slot : ℕ) → own_if secured n slot ≡ own_if secured m slot
own_before_same true n m same slot = ap own_keys (same slot)
own_before_same false n m same slot = refl

before_same : (e : Terms) (r : Change) (j i : Item) (n m : Route) → IsChangedInput r j i → IsChangedRoute r n m
    → IsChangedRoute r (found_by e j n) (found_by e i m)
before_same e r j i n m h k =
    record {
      clock_is = k.clock_is;
      sessions_are =
          ap (λ (t : ℕ). given_up_if (secures e Request && not n.is_closed) (own_in e n.keys) t n.sessions) (clock_same r j i n m h.item_is k)
          ∙ ap (λ (b : Bool). given_up_if (secures e Request && not b) (own_in e n.keys) (clock + r.later) n.sessions) k.closed_is
          ∙ ap (λ (xs : List Session). given_up_if (secures e Request && not m.is_closed) (own_in e n.keys) (clock + r.later) xs) k.sessions_are
          ∙ gives_up_same (secures e Request && not m.is_closed) r (own_in e n.keys) (own_in e m.keys)
          (own_before_same (secures e Request) n.keys.held m.keys.held k.keys_are.held_is) clock m.sessions;
      closed_is = k.closed_is;
      keys_are = k.keys_are;
    }
  where
    clock : ℕ
    clock = clock_after i m

after_same : (e : Terms) (index : ℕ) (r : Change) (fits : has_secured_role e ≡ true → r.secured ≡ true) (js is : List Item) → AreChanged r js is
    → IsChangedRoute r (after e index js) (after e index is)
after_same e index r fits [] [] h =
    record {
      clock_is = at_first r.later;
      sessions_are = refl;
      closed_is = refl;
      keys_are = record { moments_are = not_delayed r.later first_keys.moments none_requested; pool_is = refl; held_is = λ slot. refl };
    }
after_same e index r fits (j ∷ js) (i ∷ is) h =
    notified_same e index r fits j i (route_before e index j js) (route_before e index i is) h.0
    (before_same e r j i (after e index js) (after e index is) h.0 (after_same e index r fits js is h.1))
after_same e index r fits [] (i ∷ is) h = absurd h
after_same e index r fits (j ∷ js) [] h = absurd h

-- all replies of a route so far, before their encoding
abbrev pub all_replies : Terms → (index : ℕ) → List Item → List Reply
all_replies e index [] = []
all_replies e index (item ∷ items) = all_replies e index items ++ replies_to e index item (route_before e index item items)

pub all_same : (e : Terms) (index : ℕ) (r : Change) (fits : has_secured_role e ≡ true → r.secured ≡ true) (js is : List Item)
    → AreChanged r js is → all_replies e index js ≡ map (changed_reply r) (all_replies e index is)
all_same e index r fits [] [] h = refl
all_same e index r fits (j ∷ js) (i ∷ is) h =
    ap (λ xs. xs ++ replies_to e index j (route_before e index j js)) (all_same e index r fits js is h.1)
    ∙ ap (λ xs. map (changed_reply r) (all_replies e index is) ++ xs)
    (replies_same e index r fits j i (route_before e index j js) (route_before e index i is) h.0
    (before_same e r j i (after e index js) (after e index is) h.0 (after_same e index r fits js is h.1)))
    ∙ sym (map-append (changed_reply r) (all_replies e index is) (replies_to e index i (route_before e index i is)))
all_same e index r fits [] (i ∷ is) h = absurd h
all_same e index r fits (j ∷ js) [] h = absurd h
