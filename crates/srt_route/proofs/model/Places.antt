-- The most replies to one item: a session that ends by silence leaves its slot, and at most one opens.
use Rattle.std.proofs.Common.{◌≡◌, ℕ, zero, suc, ◌+◌, ◌*◌, ◌<◌, ◌≤◌, ◌==◌, ◌&&◌, not, Bool, true, false, cond, Option, None, Some, List, []}
use Rattle.std.proofs.Common.{◌∷◌, ◌++◌, ◌||◌, ◌≢◌, map, length, find, refl, sym, ap, subst, ◌∙◌, inl, inr, arith}
use Rattle.std.specs.Prelude.{filter_map}
use Rattle.std.specs.List.{flat_map, cons_option}
use Rattle.std.proofs.lemmas.Bool.{cases_eq, eqb-true, false_from_ne_true}
use Rattle.std.proofs.lemmas.List.{length-map, length-append}
use Rattle.srt_types.specs.declared.shared.Callers.{Callers}
use Rattle.srt_types.specs.declared.shared.Callers.TheVariants.{Draft, Libsrt}
use Rattle.srt_types.specs.Runs.{numbers_from}
use Rattle.srt_types.specs.Terms.{Terms}
use Rattle.srt_types.specs.Items.{Item, Received, Tick, Close, moment_of}
use Rattle.srt_packet.specs.Reading.{packet_in}
use Rattle.srt_session_keys.specs.Subscriber.{Subscriber as Keys}
use Rattle.srt_route.specs.Sessions.{Session, advanced, aged, aged_at, by_slot, is_idle, is_open_in, is_over_at, is_silent_at, marked, marked_if}
use Rattle.srt_route.specs.Sessions.{is_active, open_publishers, passed, settled, speaks, takes_over, time_end, time_in, with_end}
use Rattle.srt_route.specs.Route.{Reply, Route, Verdict, Passes, Ignored, Refused, Repeats, Decrypted, Answered, RepliesHavePlaces, after_delivery}
use Rattle.srt_route.specs.Route.{answers_as, clock_after, delivered, delivery, drain_end, ended, gives_some, heard_as, idle_notified, is_file_over}
use Rattle.srt_route.specs.Route.{judgement, least_room, notified_if, own_by, packets_where, passed_by, read_taken, replies_at, route_before}
use Rattle.srt_route.specs.Route.{reply_with, room_if, sent, served}
use Rattle.srt_route.specs.Route.{settled_by, shutdown_to, taken, taken_by, with_bytes}
use Rattle.srt_route.specs.Tables.{AreAlone}
use Rattle.srt_route.proofs.model.Alone.{before_are_alone, passes}
use Rattle.srt_route.proofs.model.Closed.{after_delivery_none, each_ended, none_open}
use Rattle.srt_route.proofs.model.Counts.{all_said, few_by_slot, none_lost, notified_few, read_brief}
use Rattle.srt_route.proofs.model.FileEnds.{keeps_end, settles}
use Rattle.srt_route.proofs.model.Following.{TakesOn, taken_is}
use Rattle.srt_route.proofs.model.Found.{Keeps, changed as becomes, none_kept, open_kept, place_kept}
use Rattle.srt_route.proofs.model.Marking.{marks}
use Rattle.srt_route.proofs.steps.Aging.{ages}

-- as many are picked at most, if nothing is picked where nothing was
picked_fewer : {A : Type 0} (f g : ℕ → Option A) → ((k : ℕ) → f k ≡ None → g k ≡ None) → (ks : List ℕ)
    → length (filter_map g ks) ≤ length (filter_map f ks)
picked_fewer f g none [] = omega arith
picked_fewer {A} f g none (k ∷ ks) = by (f k) refl (g k) refl (picked_fewer f g none ks)
  where
    by : (o : Option A) → f k ≡ o → (p : Option A) → g k ≡ p → length (filter_map g ks) ≤ length (filter_map f ks)
        → length (cons_option p (filter_map g ks)) ≤ length (cons_option o (filter_map f ks))
    by None was None is rest = rest
    by None was (Some y) is rest = absurd (let bad : Some y ≡ None = sym is ∙ none k was in cc)
    by (Some x) was None is rest = omega (arith, rest)
    by (Some x) was (Some y) is rest = omega (arith, rest)

-- a change that opens no session
fewer_open : (f : Session → Session) → Keeps f → (e : Terms) (ss : List Session) → length (by_slot e (map f ss)) ≤ length (by_slot e ss)
fewer_open f keeps e ss =
    picked_fewer (λ k. find (is_open_in k) ss) (λ k. find (is_open_in k) (map f ss))
    (λ k none. none_kept (is_open_in k) f (open_kept f keeps k) ss none) (numbers_from 0 e.sessions)

-- one more session
abbrev found_in : List Session → ℕ → Option Session
found_in ss k = find (is_open_in k) ss

elsewhere : (s : Session) (k : ℕ) → s.slot ≢ k → is_open_in k s ≡ false
elsewhere s k apart = by s.is_open
  where
    off : s.slot == k ≡ false
    off = false_from_ne_true (s.slot == k) (λ same. apart (eqb-true s.slot k same))

    by : (b : Bool) → (b && s.slot == k) ≡ false
    by true = off
    by false = refl

beyond : (s : Session) (ss : List Session) (from count : ℕ) → s.slot < from
    → length (filter_map (found_in (s ∷ ss)) (numbers_from from count)) ≡ length (filter_map (found_in ss) (numbers_from from count))
beyond s ss from zero past = refl
beyond s ss from (suc count) past =
    ap (λ (b : Bool). length (cons_option (cond b (Some s) (found_in ss from)) (filter_map (found_in (s ∷ ss)) (numbers_from (from + 1) count))))
    (elsewhere s from (λ same. omega (arith, past, same)))
    ∙ one (found_in ss from) (beyond s ss (from + 1) count (omega (arith, past)))
  where
    one : (o : Option Session)
        → length (filter_map (found_in (s ∷ ss)) (numbers_from (from + 1) count)) ≡ length (filter_map (found_in ss) (numbers_from (from + 1) count))
        → length (cons_option o (filter_map (found_in (s ∷ ss)) (numbers_from (from + 1) count)))
        ≡ length (cons_option o (filter_map (found_in ss) (numbers_from (from + 1) count)))
    one None rest = rest
    one (Some t) rest = ap suc rest

one_more_from : (s : Session) (ss : List Session) (from count : ℕ)
    → length (filter_map (found_in (s ∷ ss)) (numbers_from from count)) ≤ length (filter_map (found_in ss) (numbers_from from count)) + 1
one_more_from s ss from zero = omega arith
one_more_from s ss from (suc count) = elim (cases_eq s.slot from) [
  | inl here ↦ at_most (is_open_in from s) (found_in ss from) (beyond s ss (from + 1) count (omega (arith, here)))
  | inr apart ↦ subst
      (λ (b : Bool).
      length (cons_option (cond b (Some s) (found_in ss from)) (filter_map (found_in (s ∷ ss)) (numbers_from (from + 1) count)))
      ≤ length (cons_option (found_in ss from) (filter_map (found_in ss) (numbers_from (from + 1) count))) + 1)
      (sym (elsewhere s from apart)) (one (found_in ss from) (one_more_from s ss (from + 1) count))
]
  where
    at_most : (b : Bool) (o : Option Session)
        → length (filter_map (found_in (s ∷ ss)) (numbers_from (from + 1) count)) ≡ length (filter_map (found_in ss) (numbers_from (from + 1) count))
        → length (cons_option (cond b (Some s) o) (filter_map (found_in (s ∷ ss)) (numbers_from (from + 1) count)))
        ≤ length (cons_option o (filter_map (found_in ss) (numbers_from (from + 1) count))) + 1
    at_most true None rest = omega (arith, rest)
    at_most true (Some t) rest = omega (arith, rest)
    at_most false None rest = omega (arith, rest)
    at_most false (Some t) rest = omega (arith, rest)

    one : (o : Option Session)
        → length (filter_map (found_in (s ∷ ss)) (numbers_from (from + 1) count)) ≤ length (filter_map (found_in ss) (numbers_from (from + 1) count)) + 1
        → length (cons_option o (filter_map (found_in (s ∷ ss)) (numbers_from (from + 1) count)))
        ≤ length (cons_option o (filter_map (found_in ss) (numbers_from (from + 1) count))) + 1
    one None rest = rest
    one (Some t) rest = omega (arith, rest)

-- an item
takes_few : (e : Terms) (ss new : List Session) → TakesOn ss new → length (by_slot e new) ≤ length (by_slot e ss) + 1
takes_few e ss new (inl h) =
    let few = fewer_open h.by h.calm.keeps e ss in
    let same : length (by_slot e new) ≡ length (by_slot e (map h.by ss)) = ap (λ (ts : List Session). length (by_slot e ts)) h.new_is in
    omega (arith, few, same)
takes_few e ss new (inr h) =
    let few = one_more_from h.session ss 0 e.sessions in
    let same : length (by_slot e new) ≡ length (by_slot e (h.session ∷ ss)) = ap (λ (ts : List Session). length (by_slot e ts)) h.new_is in
    omega (arith, few, same)

-- the deliveries
settled_fewer : (c : Callers) (e : Terms) (clock : ℕ) (given : Bool) (ss : List Session)
    → length (by_slot e (settled_by c e clock given ss)) ≤ length (by_slot e ss)
settled_fewer Draft e clock given ss = omega arith
settled_fewer Libsrt e clock given ss =
    let later = map (settled e given clock) ss in
    let end = drain_end (open_publishers ss) (open_publishers later) in
    omega (arith, fewer_open (with_end end) (keeps_end end) e later, fewer_open (settled e given clock) (settles e given clock) e ss)

delivery_fewer : (e : Terms) (clock : ℕ) (ss : List Session) → length (by_slot e (after_delivery e clock ss)) ≤ length (by_slot e ss)
delivery_fewer e clock ss =
    omega (
      arith,
      settled_fewer e.rules.callers e clock (gives_some e clock ss) (delivered e clock ss),
      fewer_open (λ s. passed e clock (room_if (is_active ss s) (least_room e ss)) (delivery e clock (least_room e ss) ss) s) (passes e clock ss) e ss,
    )

-- time: each session that ends by silence leaves its slot, and is sent at most one SHUTDOWN
silent_is_over : (drains : Option ℕ) (heard clock : ℕ) → is_silent_at drains heard clock ≡ true → is_over_at drains heard clock ≡ true
silent_is_over None heard clock h = h
silent_is_over (Some until) heard clock h = absurd (let bad : false ≡ true = h in cc)

idle_is_over : (late : Bool) (drains : Option ℕ) (heard clock : ℕ) → (late || is_silent_at drains heard clock) ≡ true
    → (late || is_over_at drains heard clock) ≡ true
idle_is_over true drains heard clock h = refl
idle_is_over false drains heard clock h = silent_is_over drains heard clock h

silent_ends : (e : Terms) (clock : ℕ) (s : Session) → is_idle s clock ≡ true → (aged e clock s).is_open ≡ false
silent_ends e clock s idle =
    ap (λ (b : Bool). (aged_at e (s.is_open && not b) (time_in s clock) s).is_open) (idle_is_over s.is_given_up s.drains s.heard clock idle) ∙ by s.is_open
  where
    by : (b : Bool) → (aged_at e (b && false) (time_in s clock) s).is_open ≡ false
    by true = refl
    by false = refl

abbrev notified : Terms → (clock : ℕ) → Session → List Reply
notified e clock s = notified_if e.rules.callers (is_idle s clock) clock s

slot_aged : (e : Terms) (clock : ℕ) (s : Session) (more later before : ℕ) (ts us : List Session)
    → more + length ts ≤ length us
    → length (notified e clock s) + more + length (cons_option (becomes (aged e clock) (Some s)) ts) ≤ suc (length us)
slot_aged e clock s more later before ts us rest = by (is_idle s clock) refl
  where
    left : (b : Bool) → length (cons_option (cond b (Some (aged e clock s)) None) ts) ≤ suc (length ts)
    left true = omega arith
    left false = omega arith

    by : (b : Bool) → is_idle s clock ≡ b
        → length (notified_if e.rules.callers b clock s) + more + length (cons_option (becomes (aged e clock) (Some s)) ts) ≤ suc (length us)
    by true idle =
        let gone : length (cons_option (cond (aged e clock s).is_open (Some (aged e clock s)) None) ts) ≡ length ts =
        ap (λ (b : Bool). length (cons_option (cond b (Some (aged e clock s)) None) ts)) (silent_ends e clock s idle) in
        omega (arith, rest, gone, notified_few e.rules.callers true clock s)
    by false idle = omega (arith, rest, none_lost e.rules.callers clock s, left (aged e clock s).is_open)

abbrev idle_in : Terms → (clock : ℕ) → List Session → List Reply
idle_in e clock ss = flat_map (notified e clock) ss

aged_from : (e : Terms) (clock : ℕ) (ss : List Session) → AreAlone e.sessions ss → (ks : List ℕ)
    → length (idle_in e clock (filter_map (found_in ss) ks)) + length (filter_map (found_in (map (aged e clock) ss)) ks)
    ≤ length (filter_map (found_in ss) ks)
aged_from e clock ss alone [] = omega arith
aged_from e clock ss alone (k ∷ ks) =
    subst
    (λ (o : Option Session).
    length (idle_in e clock (cons_option (found_in ss k) before)) + length (cons_option o later) ≤ length (cons_option (found_in ss k) before))
    (sym (place_kept (aged e clock) (ages e clock) k e.sessions ss alone)) (by (found_in ss k) (aged_from e clock ss alone ks))
  where
    before : List Session
    before = filter_map (found_in ss) ks

    later : List Session
    later = filter_map (found_in (map (aged e clock) ss)) ks

    by : (o : Option Session) → length (idle_in e clock before) + length later ≤ length before
        → length (idle_in e clock (cons_option o before)) + length (cons_option (becomes (aged e clock) o) later) ≤ length (cons_option o before)
    by None rest = rest
    by (Some s) rest =
        omega (
          arith,
          slot_aged e clock s (length (idle_in e clock before)) 0 0 later before rest,
          length-append (notified e clock s) (idle_in e clock before),
        )

marked_fewer : (due : Bool) (e : Terms) (ss : List Session) → length (by_slot e (marked_if due ss)) ≤ length (by_slot e ss)
marked_fewer true e ss = fewer_open (marked ss) (marks ss) e ss
marked_fewer false e ss = omega arith

pub idle_leave : (e : Terms) (clock : ℕ) (ss : List Session) → AreAlone e.sessions ss
    → length (idle_notified e clock ss) + length (by_slot e (advanced e clock ss)) ≤ e.sessions
idle_leave e clock ss alone =
    let later = map (aged e clock) ss in
    let end = time_end e ss later in
    omega (
      arith,
      aged_from e clock ss alone (numbers_from 0 e.sessions),
      fewer_open (with_end end) (keeps_end end) e (marked_if (takes_over e clock later) later),
      marked_fewer (takes_over e clock later) e later,
      few_by_slot e ss,
    )

-- if the route is closed, each open session is sent a SHUTDOWN
abbrev packets_after : (own : ℕ → Option Keys) → Terms → (clock : ℕ) → List Session → ℕ
packets_after own e clock ss = length (packets_where e clock speaks ss) + length (served own e clock (is_file_over e ss) ss)

vacant : (ss : List Session) (at : ℕ) → none_open ss ≡ false → find (is_open_in at) ss ≡ None
vacant [] at h = refl
vacant (s ∷ ss) at h = by (λ k. vacant ss at k) s.is_open h
  where
    by : (none_open ss ≡ false → find (is_open_in at) ss ≡ None) → (b : Bool) → (b || none_open ss) ≡ false
        → cond (b && s.slot == at) (Some s) (find (is_open_in at) ss) ≡ None
    by rest true k = absurd (let bad : true ≡ false = k in cc)
    by rest false k = rest k

none_picked : (ss : List Session) (places : List ℕ) → none_open ss ≡ false → length (filter_map (λ slot. find (is_open_in slot) ss) places) ≡ 0
none_picked ss [] h = refl
none_picked ss (at ∷ places) h =
    ap (λ (o : Option Session). length (cons_option o (filter_map (λ slot. find (is_open_in slot) ss) places))) (vacant ss at h)
    ∙ none_picked ss places h

-- the answers to an item, and the packets after it, where so many sessions were sent a SHUTDOWN before
abbrev Few : (silent answers packets : ℕ) → Terms → Type 0
Few silent answers packets e = silent + (answers + packets) ≤ 4 + 66 * e.sessions

said_after : (own : ℕ → Option Keys) (e : Terms) (clock silent answers : ℕ) (ss new : List Session) → silent + length (by_slot e ss) ≤ e.sessions
    → answers ≤ 1 → TakesOn ss new → Few silent answers (packets_after own e clock (after_delivery e clock new)) e
said_after own e clock silent answers ss new room brief takes =
    let ts = after_delivery e clock new in
    omega (
      arith,
      room,
      brief,
      takes_few e ss new takes,
      delivery_fewer e clock new,
      few_by_slot e ts,
      all_said own e clock (is_file_over e ts) (by_slot e ts),
    )

taken_few : (own : ℕ → Option Keys) (e : Terms) (index clock silent : ℕ) (item : Item) (ss : List Session)
    → silent + length (by_slot e ss) ≤ e.sessions
    → Few silent (length (taken e index clock item ss).answers)
    (packets_after own e clock (after_delivery e clock (taken e index clock item ss).sessions)) e
taken_few own e index clock silent (Received d moment) ss room =
    said_after own e clock silent (length (read_taken e index clock d.peer (packet_in d.bytes) ss).answers) ss
    (read_taken e index clock d.peer (packet_in d.bytes) ss).sessions room (read_brief e index clock d.peer (packet_in d.bytes) ss)
    (taken_is e index clock (Received d moment) ss)
taken_few own e index clock silent (Tick moment) ss room =
    said_after own e clock silent 0 ss ss room (omega arith) (taken_is e index clock (Tick moment) ss)
taken_few own e index clock silent (Close moment) ss room =
    let ts = after_delivery e clock (map ended ss) in
    omega (
      arith,
      room,
      length-map (by_slot e ss) (shutdown_to clock),
      all_said own e clock (is_file_over e ts) (by_slot e ts),
      none_picked ts (numbers_from 0 e.sessions) (after_delivery_none e clock (map ended ss) (each_ended ss)),
    )

-- the same of the answers as keys have them: a refusal is one where the sessions have none
answers_few : (v : Verdict) (own : ℕ → Option Keys) (e : Terms) (index clock silent : ℕ) (item : Item) (ss : List Session)
    → silent + length (by_slot e ss) ≤ e.sessions
    → Few silent (length (answers_as v (taken e index clock (heard_as v item) ss).answers))
    (packets_after own e clock (after_delivery e clock (taken e index clock (heard_as v item) ss).sessions)) e
answers_few Passes own e index clock silent item ss room = taken_few own e index clock silent item ss room
answers_few Ignored own e index clock silent item ss room = taken_few own e index clock silent (Tick (moment_of item)) ss room
answers_few (Refused peer c) own e index clock silent item ss room =
    said_after own e clock silent 1 ss ss room (omega arith) (taken_is e index clock (Tick (moment_of item)) ss)
answers_few (Repeats None) own e index clock silent item ss room = taken_few own e index clock silent item ss room
answers_few (Decrypted bytes) own e index clock silent item ss room = taken_few own e index clock silent (with_bytes bytes item) ss room
answers_few (Answered answer) own e index clock silent item ss room =
    said_after own e clock silent 1 ss (taken e index clock item ss).sessions room (omega arith) (taken_is e index clock item ss)
answers_few (Repeats (Some request)) own e index clock silent item ss room =
    omega (arith, length-map (taken e index clock item ss).answers (reply_with request), taken_few own e index clock silent item ss room)

replies_few : (is_closed : Bool) (e : Terms) (index : ℕ) (item : Item) (m : Route) → AreAlone e.sessions m.sessions
    → length (map sent (replies_at is_closed e index item m)) ≤ 4 + 66 * e.sessions
replies_few true e index item m alone = omega arith
replies_few false e index item m alone =
    let clock = clock_after item m in
    let ss = passed_by e index item m in
    let own = own_by e index item m in
    let idle = idle_notified e clock m.sessions in
    let answers = (taken_by e index item m).answers in
    let first = packets_where e clock speaks ss in
    let second = served own e clock (is_file_over e ss) ss in
    omega (
      arith,
      length-map (replies_at false e index item m) sent,
      length-append (idle ++ answers ++ first) second,
      length-append (idle ++ answers) first,
      length-append idle answers,
      answers_few (judgement e index item m).verdict own e index clock (length idle) item (advanced e clock m.sessions)
          (idle_leave e clock m.sessions alone),
    )

pub replies_have_places : RepliesHavePlaces
replies_have_places e index [] = omega arith
replies_have_places e index (item ∷ items) =
    let m = route_before e index item items in replies_few m.is_closed e index item m (before_are_alone e index items item)
