-- The active publisher over a whole event.
use Rattle.std.proofs.Common.{◌≡◌, ◌⊎◌, inl, inr, ℕ, ◌+◌, ◌<◌, ◌==◌, ◌&&◌, not, Bool, true, false, cond, Option, None, Some, List, [], ◌∷◌, map, find}
use Rattle.std.proofs.Common.{Result, Ok, Err, refl, sym, ap, subst, ◌∙◌, arith}
use Rattle.std.specs.Prelude.{⊤}
use Rattle.std.proofs.lemmas.Bool.{and_from, and_parts, eqb-true}
use Rattle.srt_types.specs.declared.shared.Peer.{Peer}
use Rattle.srt_types.specs.declared.shared.Callers.{Callers}
use Rattle.srt_types.specs.declared.shared.Callers.TheVariants.{Draft, Libsrt}
use Rattle.srt_types.specs.Terms.{Terms}
use Rattle.srt_types.specs.Items.{Item, Received, Tick, Close}
use Rattle.srt_packet.specs.declared.reading.PacketFault.{PacketFault}
use Rattle.srt_packet.specs.Grammar.{Packet}
use Rattle.srt_packet.specs.Reading.{packet_in}
use Rattle.srt_session_keys.specs.Subscriber.{Subscriber as Keys}
use Rattle.srt_route.specs.Route.{own_by}
use Rattle.srt_route.specs.declared.refusals.RefusalCause.{RefusalCause}
use Rattle.srt_route.specs.declared.conclusion_reading.Conclusion.{Conclusion}
use Rattle.srt_route.specs.Activity.{ActiveGoesOn}
use Rattle.srt_route.specs.Sessions.{Session, active, advanced, aged, generation_of, is_active, is_open_in, is_publisher, leads, marked, marked_if, passed}
use Rattle.srt_route.specs.Sessions.{passed_at, publishes, takes_over, time_end, time_in, with_end}
use Rattle.srt_route.specs.Route.{Route, after, arrived, clock_after, concluded, concludes, considered, decision, delivery, ended, heard_if}
use Rattle.srt_route.specs.Route.{is_for, is_of, least_room, packet_taken, passed_by, read_taken, room_if, session_opened, sessions_at, taken, taken_by}
use Rattle.srt_route.specs.Route.{heard_by}
use Rattle.srt_route.specs.Route.{delivered, drain_end, drain_of, finished, gives_some, is_file_over, packet_end, settled_by, took_packet}
use Rattle.srt_route.specs.Route.{without_destination}
use Rattle.srt_route.specs.Sessions.{open_publishers, settled}
use Rattle.srt_route.specs.Tables.{AreAlone}
use Rattle.srt_route.proofs.model.Found.{Keeps, changed_from, counted_kept, found_passes, open_parts}
use Rattle.srt_route.proofs.model.TakeOver.{KeepsMarks, active_in_slot, active_publishes, opens_behind, stays_active}
use Rattle.srt_route.proofs.model.Marking.{marks}
use Rattle.srt_route.proofs.model.Ending.{ends, ends_marks}
use Rattle.srt_route.proofs.model.Alone.{advanced_alone, after_delivery_alone, before_are_alone, delivered_alone, passes, taken_alone}
use Rattle.srt_route.proofs.model.FileEnds.{finishes, finishes_marks, keeps_end, settles, settles_marks, takes_packet, takes_packet_marks}
use Rattle.srt_route.proofs.model.Lists.{map_twice}
use Rattle.srt_route.proofs.model.Queues.{ages_queues, end_queues, ends_queues, finishes_queues, hears_queues, marks_queues, settles_queues}
use Rattle.srt_route.proofs.model.Queues.{takes_packet_queues}
use Rattle.srt_route.proofs.stored.Stored.{alone_apart, hears, hears_marks}
use Rattle.srt_route.proofs.stored.Kept.{no_opening}
use Rattle.srt_route.proofs.steps.Aging.{ages, ages_marks}
use Rattle.std.specs.Option.{option_map}
use Rattle.srt_types.specs.declared.shared.Role.TheVariants.{Request}
use Rattle.srt_route.specs.GivingUp.{given_up, given_up_if}
use Rattle.srt_route.specs.Route.{giving_up, route_before}
use Rattle.srt_route.specs.RouteKeys.{own_in, secures}
use Rattle.srt_route.proofs.model.GivingUp.{all_before, gives_up, gives_up_generations, gives_up_marks, gives_up_publishers}
use Rattle.srt_route.proofs.model.Standbys.{active_through}

-- a change that keeps the sessions and their marks
pub record Calm (f : Session → Session) : Type 0 where
  pub keeps : Keeps f
  pub marks : KeepsMarks f
  pub generation : (s : Session) → (f s).generation ≡ s.generation

-- the generation of a session is the number of older sessions of its slot
abbrev AreNumbered : List Session → Type 0
AreNumbered [] = ⊤
AreNumbered (s ∷ older) = (s.generation ≡ generation_of older s.slot) × AreNumbered older

numbered_on : (f : Session → Session) → Keeps f → ((s : Session) → (f s).generation ≡ s.generation) → (ss : List Session)
    → AreNumbered ss → AreNumbered (map f ss)
numbered_on f keeps same [] h = tt
numbered_on f keeps same (s ∷ ss) h = (
  same s ∙ (h.0 ∙ (sym (counted_kept f keeps s.slot ss) ∙ ap (generation_of (map f ss)) (sym (keeps.slot s)))),
  numbered_on f keeps same ss h.1,
)

-- so it is below the generation of the slot's next session
earlier : (ss : List Session) (at : ℕ) (s : Session) → AreNumbered ss → find (is_open_in at) ss ≡ Some s → s.generation < generation_of ss at
earlier [] at s h found = absurd (let bad : None ≡ Some s = found in cc)
earlier (t ∷ ts) at s h found = by (λ k. earlier ts at s h.1 k) (is_open_in at t) refl found (t.slot == at) refl
  where
    by : (find (is_open_in at) ts ≡ Some s → s.generation < generation_of ts at) → (b : Bool) → is_open_in at t ≡ b
        → cond b (Some t) (find (is_open_in at) ts) ≡ Some s
        → (d : Bool) → t.slot == at ≡ d → s.generation < cond d (generation_of ts at + 1) (generation_of ts at)
    by rest true is k true there =
        let one : t ≡ s = cc in
        let mine : s.generation ≡ generation_of ts at =
        ap (λ (u : Session). u.generation) (sym one) ∙ (h.0 ∙ ap (generation_of ts) (eqb-true t.slot at there)) in
        omega (arith, mine)
    by rest true is k false there =
        absurd (let bad : true ≡ false = sym (and_parts t.is_open (t.slot == at) is).1 ∙ there in cc)
    by rest false is k true there = omega (arith, rest k)
    by rest false is k false there = rest k

-- an item changes the sessions by a calm change, or opens one more
pub record Opened (ss new : List Session) : Type 0 where
  pub session : Session
  pub new_is : new ≡ session ∷ ss
  pub unmarked : session.took_over ≡ false
  pub numbered : session.generation ≡ generation_of ss session.slot

pub record Changed (ss new : List Session) : Type 0 where
  pub by : Session → Session
  pub calm : Calm by
  pub new_is : new ≡ map by ss

abbrev pub TakesOn : (ss new : List Session) → Type 0
TakesOn ss new = Changed ss new ⊎ Opened ss new

same : (ss : List Session) → ss ≡ map (λ s. s) ss
same [] = refl
same (s ∷ ss) = ap (λ (ts : List Session). s ∷ ts) (same ss)

nothing : (ss : List Session) → TakesOn ss ss
nothing ss =
    inl (record {
      by = λ s. s;
      calm = record {
        keeps = record { slot = λ s. refl; peer = λ s. refl; conclusion = λ s. refl; opens_none = λ s h. h; drains_on = λ s h. h };
        marks = λ s. refl;
        generation = λ s. refl;
      };
      new_is = same ss;
    })

considered_is : (e : Terms) (index clock : ℕ) (peer : Peer) (stamp : ℕ) (c : Conclusion) (ss : List Session) (answer : Result ℕ RefusalCause)
    → TakesOn ss (considered e index clock peer stamp c ss answer).sessions
considered_is e index clock peer stamp c ss (Err cause) = nothing ss
considered_is e index clock peer stamp c ss (Ok slot) =
    inr (record {
      session = session_opened clock peer stamp c slot (generation_of ss slot);
      new_is = refl;
      unmarked = refl;
      numbered = refl;
    })

concluded_is : (e : Terms) (index clock : ℕ) (peer : Peer) (stamp : ℕ) (c : Conclusion) (ss : List Session) (found : Option Session)
    → TakesOn ss (concluded e index clock peer stamp c ss found).sessions
concluded_is e index clock peer stamp c ss (Some s) =
    inl (record {
      by = λ t. heard_if (is_of peer c.caller t) clock t;
      calm = record {
        keeps = hears peer c.caller clock;
        marks = hears_marks peer c.caller clock;
        generation = (hears_queues peer c.caller clock).generation;
      };
      new_is = refl;
    })
concluded_is e index clock peer stamp c ss None = considered_is e index clock peer stamp c ss (decision e peer c ss)

without_is : (e : Terms) (index clock : ℕ) (peer : Peer) (stamp : ℕ) (ss : List Session) (o : Option Conclusion)
    → TakesOn ss (without_destination e index clock peer stamp ss o).sessions
without_is e index clock peer stamp ss None = nothing ss
without_is e index clock peer stamp ss (Some c) = concluded_is e index clock peer stamp c ss (find (is_of peer c.caller) ss)

packet_is : (e : Terms) (index clock : ℕ) (peer : Peer) (packet : Packet) (ss : List Session) → TakesOn ss (packet_taken e index clock peer packet ss).sessions
packet_is e index clock peer packet ss = by (packet.dest == 0)
  where
    by : (b : Bool)
        → TakesOn ss
        (cond b (without_destination e index clock peer packet.stamp ss (concludes packet.body)) (arrived e index clock peer packet ss)).sessions
    by true = without_is e index clock peer packet.stamp ss (concludes packet.body)
    by false =
        let found = find (is_for index peer packet.dest) ss in
        let drains = drain_of e clock packet.body ss found in
        let end = packet_end drains e packet.body found in
        inl (record {
          by = took_packet drains end e index clock peer packet;
          calm = record {
            keeps = takes_packet drains end e index clock peer packet;
            marks = takes_packet_marks drains end e index clock peer packet;
            generation = (takes_packet_queues drains end e index clock peer packet).generation;
          };
          new_is = refl;
        })

read_is : (e : Terms) (index clock : ℕ) (peer : Peer) (read : Result Packet PacketFault) (ss : List Session)
    → TakesOn ss (read_taken e index clock peer read ss).sessions
read_is e index clock peer (Ok packet) ss = packet_is e index clock peer packet ss
read_is e index clock peer (Err fault) ss = nothing ss

pub taken_is : (e : Terms) (index clock : ℕ) (item : Item) (ss : List Session) → TakesOn ss (taken e index clock item ss).sessions
taken_is e index clock (Received d moment) ss = read_is e index clock d.peer (packet_in d.bytes) ss
taken_is e index clock (Tick moment) ss = nothing ss
taken_is e index clock (Close moment) ss =
    inl (record { by = ended; calm = record { keeps = ends; marks = ends_marks; generation = ends_queues.generation }; new_is = refl })

passes_calmly : (e : Terms) (clock : ℕ) (ss : List Session)
    → Calm (λ s. passed e clock (room_if (is_active ss s) (least_room e ss)) (delivery e clock (least_room e ss) ss) s)
passes_calmly e clock ss =
    record {
      keeps = passes e clock ss;
      marks = λ s. mark_of s s.is_open (room_if (is_active ss s) (least_room e ss)) (delivery e clock (least_room e ss) ss);
      generation = λ s. number_of s s.is_open (room_if (is_active ss s) (least_room e ss)) (delivery e clock (least_room e ss) ss);
    }
  where
    mark_of : (s : Session) (b : Bool) (room : Option ℕ) (fed : List (List ℕ))
        → (passed_at e b (time_in s clock) room fed s).took_over ≡ s.took_over
    mark_of s true room fed = refl
    mark_of s false room fed = refl

    number_of : (s : Session) (b : Bool) (room : Option ℕ) (fed : List (List ℕ))
        → (passed_at e b (time_in s clock) room fed s).generation ≡ s.generation
    number_of s true room fed = refl
    number_of s false room fed = refl

-- the steps after the item, as one change
abbrev settling : (c : Callers) → (end : Option Bool) → Terms → (given : Bool) → (clock : ℕ) → Session → Session
settling Draft end e given clock s = s
settling Libsrt end e given clock s = with_end end (settled e given clock s)

settles_calmly : (c : Callers) (end : Option Bool) (e : Terms) (given : Bool) (clock : ℕ) → Calm (settling c end e given clock)
settles_calmly Draft end e given clock =
    record {
      keeps = record { slot = λ s. refl; peer = λ s. refl; conclusion = λ s. refl; opens_none = λ s h. h; drains_on = λ s h. h };
      marks = λ s. refl;
      generation = λ s. refl;
    }
settles_calmly Libsrt None e given clock =
    record { keeps = settles e given clock; marks = settles_marks e given clock; generation = (settles_queues e given clock).generation }
settles_calmly Libsrt (Some b) e given clock =
    let k = settles e given clock in
    record {
      keeps = record { slot = k.slot; peer = k.peer; conclusion = k.conclusion; opens_none = k.opens_none; drains_on = k.drains_on };
      marks = λ s. settles_marks e given clock s;
      generation = λ s. (settles_queues e given clock).generation s;
    }

abbrev end_in : Terms → (given : Bool) → (clock : ℕ) → List Session → Option Bool
end_in e given clock ss = drain_end (open_publishers ss) (open_publishers (map (settled e given clock) ss))

settling_is : (c : Callers) (e : Terms) (given : Bool) (clock : ℕ) (ss : List Session)
    → settled_by c e clock given ss ≡ map (settling c (end_in e given clock ss) e given clock) ss
settling_is Draft e given clock ss = same ss
settling_is Libsrt e given clock ss = map_twice (settled e given clock) (with_end (end_in e given clock ss)) ss

finishes_calmly : (own : ℕ → Option Keys) (e : Terms) (clock : ℕ) (over : Bool) → Calm (finished own e clock over)
finishes_calmly own e clock over =
    record { keeps = finishes own e clock over; marks = finishes_marks own e clock over; generation = (finishes_queues own e clock over).generation }

-- time, without a take-over
abbrev timed : (end : Option Bool) → Terms → (clock : ℕ) → Session → Session
timed end e clock s = with_end end (aged e clock s)

times_calmly : (end : Option Bool) (e : Terms) (clock : ℕ) → Calm (timed end e clock)
times_calmly None e clock = record { keeps = ages e clock; marks = ages_marks e clock; generation = (ages_queues e clock).generation }
times_calmly (Some b) e clock =
    let k = ages e clock in
    record {
      keeps = record { slot = k.slot; peer = k.peer; conclusion = k.conclusion; opens_none = k.opens_none; drains_on = k.drains_on };
      marks = λ s. ages_marks e clock s;
      generation = λ s. (ages_queues e clock).generation s;
    }

-- the session before a calm change
record Before (f : Session → Session) (ss : List Session) (at : ℕ) (t : Session) : Type 0 where
  session : Session
  found : find (is_open_in at) ss ≡ Some session
  now : f session ≡ t
  generation_is : session.generation ≡ t.generation

back : (f : Session → Session) → Calm f → (places at : ℕ) (ss : List Session) (t : Session)
    → AreAlone places ss → find (is_open_in at) (map f ss) ≡ Some t → Before f ss at t
back f calm places at ss t alone h =
    let from = changed_from f calm.keeps at places ss alone t h in
    record {
      session = from.0;
      found = from.1;
      now = from.3;
      generation_is = sym (calm.generation from.0) ∙ ap (λ (u : Session). u.generation) from.3;
    }

forth : (f : Session → Session) → Calm f → (ss : List Session) (s t : Session)
    → active ss ≡ Some s → f s ≡ t → t.is_open ≡ true → active (map f ss) ≡ Some t
forth f calm ss s t is now lives =
    let role = (and_parts s.is_open (publishes s.conclusion.role) (active_publishes ss s is)).1 in
    let opens : (f s).is_open ≡ true = ap (λ (u : Session). u.is_open) now ∙ lives in
    stays_active f (no_opening f calm.keeps) calm.marks ss s is
    (and_from (f s).is_open (publishes (f s).conclusion.role) opens (rw (calm.keeps.conclusion s) role))
    ∙ ap (λ (u : Session). Some u) now

is_there : (at : ℕ) (ss : List Session) (t : Session) → find (is_open_in at) ss ≡ Some t → (t.is_open ≡ true) × (t.slot ≡ at)
is_there at ss t h = open_parts at t (found_passes (is_open_in at) ss t h)

one_there : (ss : List Session) (at : ℕ) (s t : Session) → find (is_open_in at) ss ≡ Some s → find (is_open_in at) ss ≡ Some t → s ≡ t
one_there ss at s t first second = let both : Some s ≡ Some t = sym first ∙ second in cc

-- the same over the item
over_item : (places : ℕ) (ss new : List Session) (s t : Session) → TakesOn ss new → AreAlone places ss → AreNumbered ss → active ss ≡ Some s
    → find (is_open_in s.slot) new ≡ Some t → t.generation ≡ s.generation → active new ≡ Some t
over_item places ss new s t (inl change) alone numbered is found generation =
    let there = subst (λ (ts : List Session). find (is_open_in s.slot) ts ≡ Some t) change.new_is found in
    let from = back change.by change.calm places s.slot ss t alone there in
    let one : s ≡ from.session = one_there ss s.slot s from.session (active_in_slot ss s (alone_apart places ss alone).0 is) from.found in
    subst (λ (ts : List Session). active ts ≡ Some t) (sym change.new_is)
    (forth change.by change.calm ss s t is (ap change.by one ∙ from.now) (is_there s.slot (map change.by ss) t there).0)
over_item places ss new s t (inr opening) alone numbered is found generation =
    subst (λ (ts : List Session). active ts ≡ Some t) (sym opening.new_is)
    (by (is_open_in s.slot opening.session) refl (subst (λ (ts : List Session). find (is_open_in s.slot) ts ≡ Some t) opening.new_is found))
  where
    mine : find (is_open_in s.slot) ss ≡ Some s
    mine = active_in_slot ss s (alone_apart places ss alone).0 is

    unmarked : leads opening.session ≡ false
    unmarked = ap (λ (b : Bool). is_publisher opening.session && b) opening.unmarked ∙ never (is_publisher opening.session)
      where
        never : (b : Bool) → (b && false) ≡ false
        never true = refl
        never false = refl

    by : (b : Bool) → is_open_in s.slot opening.session ≡ b → cond b (Some opening.session) (find (is_open_in s.slot) ss) ≡ Some t
        → active (opening.session ∷ ss) ≡ Some t
    by true place k =
        let one : opening.session ≡ t = cc in
        let slot : opening.session.slot ≡ s.slot = (open_parts s.slot opening.session place).1 in
        let number : t.generation ≡ generation_of ss s.slot =
        ap (λ (u : Session). u.generation) (sym one) ∙ (opening.numbered ∙ ap (generation_of ss) slot) in
        absurd (omega (arith, number, generation, earlier ss s.slot s numbered mine))
    by false place k =
        opens_behind opening.session ss t unmarked (is ∙ ap (λ (u : Session). Some u) (one_there ss s.slot s t mine k))

-- a session with the generation of an older one was open before the item
record StillThere (ss : List Session) (at : ℕ) : Type 0 where
  session : Session
  found : find (is_open_in at) ss ≡ Some session

still_there : (places : ℕ) (ss new : List Session) (at : ℕ) (t : Session) → TakesOn ss new → AreAlone places ss
    → find (is_open_in at) new ≡ Some t → t.generation < generation_of ss at → StillThere ss at
still_there places ss new at t (inl change) alone found number =
    let from = back change.by change.calm places at ss t alone
    (subst (λ (ts : List Session). find (is_open_in at) ts ≡ Some t) change.new_is found) in
    record { session = from.session; found = from.found }
still_there places ss new at t (inr opening) alone found number =
    by (is_open_in at opening.session) refl (subst (λ (ts : List Session). find (is_open_in at) ts ≡ Some t) opening.new_is found)
  where
    by : (b : Bool) → is_open_in at opening.session ≡ b → cond b (Some opening.session) (find (is_open_in at) ss) ≡ Some t → StillThere ss at
    by true place k =
        let one : opening.session ≡ t = cc in
        let same_number : t.generation ≡ generation_of ss at =
        ap (λ (u : Session). u.generation) (sym one) ∙ (opening.numbered ∙ ap (generation_of ss) (open_parts at opening.session place).1) in
        absurd (omega (arith, same_number, number))
    by false place k = record { session = t; found = k }

-- generations after each event
numbered_taken : (ss new : List Session) → TakesOn ss new → AreNumbered ss → AreNumbered new
numbered_taken ss new (inl change) h =
    subst AreNumbered (sym change.new_is) (numbered_on change.by change.calm.keeps change.calm.generation ss h)
numbered_taken ss new (inr opening) h = subst AreNumbered (sym opening.new_is) (opening.numbered, h)

numbered_marked : (due : Bool) (ss : List Session) → AreNumbered ss → AreNumbered (marked_if due ss)
numbered_marked true ss h = numbered_on (marked ss) (marks ss) (marks_queues ss).generation ss h
numbered_marked false ss h = h

numbered_advanced : (e : Terms) (clock : ℕ) (ss : List Session) → AreNumbered ss → AreNumbered (advanced e clock ss)
numbered_advanced e clock ss h =
    let later = map (aged e clock) ss in
    let end = time_end e ss later in
    numbered_on (with_end end) (keeps_end end) (end_queues end).generation (marked_if (takes_over e clock later) later)
    (numbered_marked (takes_over e clock later) later (numbered_on (aged e clock) (ages e clock) (ages_queues e clock).generation ss h))

numbered_event : (is_closed : Bool) (e : Terms) (index : ℕ) (item : Item) (m : Route)
    → AreNumbered m.sessions → AreNumbered (sessions_at is_closed e index item m)
numbered_event true e index item m h = h
numbered_event false e index item m h =
    let clock = clock_after item m in
    let ss = (taken_by e index item m).sessions in
    let taken_are =
    numbered_taken (advanced e clock m.sessions) ss (taken_is e index clock (heard_by e index item m) (advanced e clock m.sessions))
    (numbered_advanced e clock m.sessions h) in
    let passing = passes_calmly e clock ss in
    let over = is_file_over e (passed_by e index item m) in
    let given = gives_some e clock ss in
    let fed = delivered e clock ss in
    let settling_calmly = settles_calmly e.rules.callers (end_in e given clock fed) e given clock in
    let own = own_by e index item m in
    numbered_on (finished own e clock over) (finishes own e clock over) (finishes_queues own e clock over).generation (passed_by e index item m)
    (subst AreNumbered (sym (settling_is e.rules.callers e given clock fed))
    (numbered_on (settling e.rules.callers (end_in e given clock fed) e given clock) settling_calmly.keeps settling_calmly.generation fed
    (numbered_on (λ s. passed e clock (room_if (is_active ss s) (least_room e ss)) (delivery e clock (least_room e ss) ss) s) passing.keeps
    passing.generation ss taken_are)))

numbered_before : (e : Terms) (clock : ℕ) (m : Route) → AreNumbered m.sessions → AreNumbered (giving_up e clock m).sessions
numbered_before e clock m h =
    all_before AreNumbered (λ own t ss k. numbered_on (given_up own t) (gives_up own t) (gives_up_generations own t) ss k) e clock m h

are_numbered : (e : Terms) (index : ℕ) (items : List Item) → AreNumbered (after e index items).sessions
are_numbered e index [] = tt
are_numbered e index (item ∷ items) =
    let m = route_before e index item items in
    numbered_event m.is_closed e index item m (numbered_before e (clock_after item m) (after e index items) (are_numbered e index items))

-- over an event: time, the item, the delivery, the end
over_event : (e : Terms) (index : ℕ) (item : Item) (m : Route) (s t : Session) → AreAlone e.sessions m.sessions → AreNumbered m.sessions
    → active m.sessions ≡ Some s → takes_over e (clock_after item m) (map (aged e (clock_after item m)) m.sessions) ≡ false
    → find (is_open_in s.slot) (sessions_at false e index item m) ≡ Some t → t.generation ≡ s.generation
    → active (sessions_at false e index item m) ≡ Some t
over_event e index item m s t alone numbered is none found generation =
    forth (finished own e clock over) (finishes_calmly own e clock over) (passed_by e index item m) last.session t
    (subst (λ (ts : List Session). active ts ≡ Some last.session) (sym passed_is)
    (forth settle (settles_calmly e.rules.callers (end_in e given clock fed) e given clock) fed next.session last.session
    (forth pass (passes_calmly e clock ss) ss middle.session next.session
    (over_item e.sessions early ss first middle.session (taken_is e index clock (heard_by e index item m) early) early_alone
    (numbered_advanced e clock m.sessions numbered) early_active
    (subst (λ (n : ℕ). find (is_open_in n) ss ≡ Some middle.session) (sym slot) middle.found)
    (middle.generation_is ∙ (next.generation_is ∙ (last.generation_is ∙ (generation ∙ sym ((times_calmly end e clock).generation s))))))
    middle.now (is_there s.slot fed next.session next.found).0)
    next.now (is_there s.slot (passed_by e index item m) last.session last.found).0))
    last.now (is_there s.slot (sessions_at false e index item m) t found).0
  where
    clock : ℕ
    clock = clock_after item m

    over : Bool
    over = is_file_over e (passed_by e index item m)

    own : ℕ → Option Keys
    own = own_by e index item m

    end : Option Bool
    end = time_end e m.sessions (map (aged e clock) m.sessions)

    early : List Session
    early = advanced e clock m.sessions

    ss : List Session
    ss = (taken_by e index item m).sessions

    pass : Session → Session
    pass u = passed e clock (room_if (is_active ss u) (least_room e ss)) (delivery e clock (least_room e ss) ss) u

    given : Bool
    given = gives_some e clock ss

    fed : List Session
    fed = delivered e clock ss

    settle : Session → Session
    settle u = settling e.rules.callers (end_in e given clock fed) e given clock u

    passed_is : passed_by e index item m ≡ map settle fed
    passed_is = settling_is e.rules.callers e given clock fed

    early_alone : AreAlone e.sessions early
    early_alone = advanced_alone e clock m.sessions alone

    taken_are : AreAlone e.sessions ss
    taken_are = taken_alone e index clock (heard_by e index item m) early early_alone

    last : Before (finished own e clock over) (passed_by e index item m) s.slot t
    last =
        back (finished own e clock over) (finishes_calmly own e clock over) e.sessions s.slot (passed_by e index item m) t
        (after_delivery_alone e clock ss taken_are) found

    next : Before settle fed s.slot last.session
    next = back settle (settles_calmly e.rules.callers (end_in e given clock fed) e given clock) e.sessions s.slot fed last.session
        (delivered_alone e clock ss taken_are)
        (subst (λ (ts : List Session). find (is_open_in s.slot) ts ≡ Some last.session) passed_is last.found)

    middle : Before pass ss s.slot next.session
    middle = back pass (passes_calmly e clock ss) e.sessions s.slot ss next.session taken_are next.found

    first : Session
    first = timed end e clock s

    slot : first.slot ≡ s.slot
    slot = (times_calmly end e clock).keeps.slot s

    early_is : early ≡ map (timed end e clock) m.sessions
    early_is = ap (λ (b : Bool). map (with_end end) (marked_if b (map (aged e clock) m.sessions))) none ∙ map_twice (aged e clock) (with_end end) m.sessions

    -- the session is open after step 2 too
    mine : find (is_open_in s.slot) m.sessions ≡ Some s
    mine = active_in_slot m.sessions s (alone_apart e.sessions m.sessions alone).0 is

    number : middle.session.generation < generation_of early s.slot
    number = omega (
      arith,
      middle.generation_is,
      next.generation_is,
      last.generation_is,
      generation,
      earlier m.sessions s.slot s numbered mine,
      counted_kept (timed end e clock) (times_calmly end e clock).keeps s.slot m.sessions,
      ap (λ (ts : List Session). generation_of ts s.slot) early_is,
    )

    stays : StillThere early s.slot
    stays = still_there e.sessions early ss s.slot middle.session (taken_is e index clock (heard_by e index item m) early) early_alone middle.found number

    then_open : first.is_open ≡ true
    then_open =
        let there = subst (λ (ts : List Session). find (is_open_in s.slot) ts ≡ Some stays.session) early_is stays.found in
        let from = back (timed end e clock) (times_calmly end e clock) e.sessions s.slot m.sessions stays.session alone there in
        let one : s ≡ from.session = one_there m.sessions s.slot s from.session mine from.found in
        ap (λ (u : Session). u.is_open) (ap (timed end e clock) one ∙ from.now) ∙ (is_there s.slot early stays.session stays.found).0

    early_active : active early ≡ Some first
    early_active = subst (λ (ts : List Session). active ts ≡ Some first) (sym early_is)
        (forth (timed end e clock) (times_calmly end e clock) m.sessions s first is refl then_open)

-- the active publisher before an item
record IsActiveBefore (ss : List Session) (s : Session) : Type 0 where
  session : Session
  active_is : active ss ≡ Some session
  slot_is : session.slot ≡ s.slot
  generation_is : session.generation ≡ s.generation

active_before : (b : Bool) (own : ℕ → Option Keys) (clock : ℕ) (ss : List Session) (s : Session) → active ss ≡ Some s
    → IsActiveBefore (given_up_if b own clock ss) s
active_before true own clock ss s is =
    record {
      session = given_up own clock s;
      active_is = active_through (given_up own clock) (gives_up_publishers own clock) (gives_up_marks own clock) ss
          ∙ ap (option_map (given_up own clock)) is;
      slot_is = (gives_up own clock).slot s;
      generation_is = gives_up_generations own clock s;
    }
active_before false own clock ss s is = record { session = s; active_is = is; slot_is = refl; generation_is = refl }

pub active_goes_on : ActiveGoesOn
active_goes_on e index items item s t is none lives found generation =
    let m = route_before e index item items in
    let was = after e index items in
    let first = active_before (secures e Request && not was.is_closed) (own_in e was.keys) (clock_after item was) was.sessions s is in
    subst (λ (b : Bool). active (sessions_at b e index item m) ≡ Some t) (sym lives)
    (over_event e index item m first.session t (before_are_alone e index items item) (numbered_before e (clock_after item was) was (are_numbered e index items))
    first.active_is none
    (subst (λ (k : ℕ). find (is_open_in k) (sessions_at false e index item m) ≡ Some t) (sym first.slot_is)
    (subst (λ (b : Bool). find (is_open_in s.slot) (sessions_at b e index item m) ≡ Some t) lives found)) (generation ∙ sym first.generation_is))
