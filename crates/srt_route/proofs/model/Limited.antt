-- A bound on the open sessions that pass a test holds if every opening keeps it.
use Rattle.std.proofs.Common.{◌≡◌, ℕ, zero, suc, ◌+◌, ◌-◌, ◌<◌, ◌≤◌, ◌==◌, ◌&&◌, ◌||◌, not, nat_le, nat_lt, Bool, true, false, cond, Option, None, Some}
use Rattle.std.proofs.Common.{List, [], ◌∷◌, length, filter, map, find, Result, Ok, Err, refl, sym, ap, ◌∙◌, arith}
use Rattle.std.specs.Option.{is_some}
use Rattle.std.specs.Str.{bytes_eq}
use Rattle.std.proofs.lemmas.Bool.{and_from, and_parts}
use Rattle.std.proofs.lemmas.Bool.Decides.{nat_tests}
use Rattle.std.proofs.lemmas.Slice.Eq.{bytes_eq-Decides}
use Rattle.srt_types.specs.declared.shared.Peer.{Peer}
use Rattle.srt_types.specs.Access.{site, is_same_site}
use Rattle.srt_types.specs.Runs.{numbers_from}
use Rattle.srt_types.specs.declared.shared.Callers.{Callers}
use Rattle.srt_types.specs.declared.shared.Callers.TheVariants.{Draft, Libsrt}
use Rattle.srt_types.specs.Terms.{Terms}
use Rattle.srt_types.specs.Items.{Item, Received, Tick, Close}
use Rattle.srt_packet.specs.declared.reading.PacketFault.{PacketFault}
use Rattle.srt_packet.specs.Grammar.{Packet}
use Rattle.srt_packet.specs.Reading.{packet_in}
use Rattle.srt_route.specs.Route.{own_by}
use Rattle.srt_route.specs.declared.refusals.RefusalCause.{RefusalCause}
use Rattle.srt_route.specs.declared.refusals.RefusalCause.TheVariants as causes
use Rattle.srt_route.specs.declared.conclusion_reading.Conclusion.{Conclusion}
use Rattle.srt_route.specs.Limits.{KeepsSlots, PublishersHaveSlots, NoneIsKeptFromPublishers, FewOfAnAddress}
use Rattle.srt_route.specs.Sessions.{Session, advanced, aged, free_slot, free_slots, generation_of, is_active, is_free, is_from, is_open_in, is_publisher}
use Rattle.srt_route.specs.Sessions.{is_subscriber, marked, marked_if, open_publishers, passed, publishes, sessions_from, takes_over, time_end, with_end}
use Rattle.srt_route.specs.Route.{Route, after, arrived, clock_after, concluded, concludes, considered, decided, decision, ended, heard_if}
use Rattle.srt_route.specs.Route.{differ, is_buffer, is_crowded, is_for, is_of, is_reserved, least_room, delivery, room_if, packet_taken, passed_by, read_taken}
use Rattle.srt_route.specs.Route.{refused, session_opened, sessions_at, taken, taken_by, took_packet, without_destination, heard_by}
use Rattle.srt_route.specs.Route.{delivered, drain_end, drain_of, finished, gives_some, is_file_over, packet_end, settled_by}
use Rattle.srt_route.specs.Sessions.{settled}
use Rattle.srt_route.specs.Tables.{AreAlone}
use Rattle.srt_route.specs.Opening.{fault_of}
use Rattle.srt_route.proofs.model.Lists.{how_many, one_more}
use Rattle.srt_route.proofs.model.Found.{Keeps, any_is, found_passes, open_parts}
use Rattle.srt_route.proofs.model.Marking.{marks}
use Rattle.srt_route.proofs.model.TakeOver.{count_at, count_next, counted, counted_slots, decided_slot, IsDecided, one_if}
use Rattle.srt_route.proofs.model.Alone.{advanced_alone, are_alone, before_are_alone, none_there, passes}
use Rattle.srt_route.proofs.model.FileEnds.{finishes, keeps_end, settles, takes_packet}
use Rattle.srt_route.proofs.model.Ending.{ends}
use Rattle.srt_route.proofs.stored.Stored.{alone_apart, hears}
use Rattle.srt_route.proofs.steps.Aging.{ages}
use Rattle.srt_route.proofs.steps.Starting.{limits_hold}
use Rattle.srt_route.specs.GivingUp.{given_up}
use Rattle.srt_route.specs.Route.{giving_up, route_before}
use Rattle.srt_route.proofs.model.GivingUp.{all_before, alone_before, gives_up}

-- a change that keeps the sessions makes no session pass that didn't
abbrev pub Stays : (Session → Bool) → Type 0
Stays test = (f : Session → Session) → Keeps f → (s : Session) → test (f s) ≡ true → test s ≡ true

fewer_pass : (test : Session → Bool) → Stays test → (f : Session → Session) → Keeps f → (ss : List Session) → how_many test (map f ss) ≤ how_many test ss
fewer_pass test stays f keeps [] = omega arith
fewer_pass test stays f keeps (s ∷ ss) = by (fewer_pass test stays f keeps ss) (test (f s)) refl (test s) refl
  where
    by : how_many test (map f ss) ≤ how_many test ss → (b : Bool) → test (f s) ≡ b → (d : Bool) → test s ≡ d
        → how_many test (map f (s ∷ ss)) ≤ how_many test (s ∷ ss)
    by rest true is true was = omega (arith, one_more test (f s) (map f ss) true is, one_more test s ss true was, rest)
    by rest true is false was = absurd (let bad : test s ≡ true = stays f keeps s is in cc)
    by rest false is true was = omega (arith, one_more test (f s) (map f ss) false is, one_more test s ss true was, rest)
    by rest false is false was = omega (arith, one_more test (f s) (map f ss) false is, one_more test s ss false was, rest)

-- every opening keeps the bound
abbrev pub OpensWithin : (e : Terms) → (Session → Bool) → (bound : ℕ) → Type 0
OpensWithin e test bound =
    (clock : ℕ) (peer : Peer) (stamp : ℕ) (c : Conclusion) (ss : List Session) (slot : ℕ)
    → AreAlone e.sessions ss → decision e peer c ss ≡ Ok slot → how_many test ss ≤ bound
    → how_many test (session_opened clock peer stamp c slot (generation_of ss slot) ∷ ss) ≤ bound

module _ (e : Terms) (test : Session → Bool) (bound : ℕ) (stays : Stays test) (opens : OpensWithin e test bound) where
  abbrev Within : List Session → Type 0
  Within ss = how_many test ss ≤ bound

  kept : (f : Session → Session) → Keeps f → (ss : List Session) → Within ss → Within (map f ss)
  kept f keeps ss few = omega (arith, fewer_pass test stays f keeps ss, few)

  considered_within : (index clock : ℕ) (peer : Peer) (stamp : ℕ) (c : Conclusion) (ss : List Session) (answer : Result ℕ RefusalCause)
      → decision e peer c ss ≡ answer → AreAlone e.sessions ss → Within ss → Within (considered e index clock peer stamp c ss answer).sessions
  considered_within index clock peer stamp c ss (Err cause) is alone few = few
  considered_within index clock peer stamp c ss (Ok slot) is alone few = opens clock peer stamp c ss slot alone is few

  concluded_within : (index clock : ℕ) (peer : Peer) (stamp : ℕ) (c : Conclusion) (ss : List Session) (found : Option Session)
      → AreAlone e.sessions ss → Within ss → Within (concluded e index clock peer stamp c ss found).sessions
  concluded_within index clock peer stamp c ss (Some s) alone few = kept (λ t. heard_if (is_of peer c.caller t) clock t) (hears peer c.caller clock) ss few
  concluded_within index clock peer stamp c ss None alone few = considered_within index clock peer stamp c ss (decision e peer c ss) refl alone few

  without_within : (index clock : ℕ) (peer : Peer) (stamp : ℕ) (ss : List Session) (o : Option Conclusion)
      → AreAlone e.sessions ss → Within ss → Within (without_destination e index clock peer stamp ss o).sessions
  without_within index clock peer stamp ss None alone few = few
  without_within index clock peer stamp ss (Some c) alone few = concluded_within index clock peer stamp c ss (find (is_of peer c.caller) ss) alone few

  packet_within : (index clock : ℕ) (peer : Peer) (packet : Packet) (ss : List Session)
      → AreAlone e.sessions ss → Within ss → Within (packet_taken e index clock peer packet ss).sessions
  packet_within index clock peer packet ss alone few = by (packet.dest == 0)
    where
      by : (b : Bool)
          → Within
          (cond b (without_destination e index clock peer packet.stamp ss (concludes packet.body)) (arrived e index clock peer packet ss)).sessions
      by true = without_within index clock peer packet.stamp ss (concludes packet.body) alone few
      by false =
          let found = find (is_for index peer packet.dest) ss in
          let drains = drain_of e clock packet.body ss found in
          let end = packet_end drains e packet.body found in
          kept (took_packet drains end e index clock peer packet) (takes_packet drains end e index clock peer packet) ss few

  read_within : (index clock : ℕ) (peer : Peer) (read : Result Packet PacketFault) (ss : List Session)
      → AreAlone e.sessions ss → Within ss → Within (read_taken e index clock peer read ss).sessions
  read_within index clock peer (Ok packet) ss alone few = packet_within index clock peer packet ss alone few
  read_within index clock peer (Err fault) ss alone few = few

  taken_within : (index clock : ℕ) (item : Item) (ss : List Session)
      → AreAlone e.sessions ss → Within ss → Within (taken e index clock item ss).sessions
  taken_within index clock (Received d moment) ss alone few = read_within index clock d.peer (packet_in d.bytes) ss alone few
  taken_within index clock (Tick moment) ss alone few = few
  taken_within index clock (Close moment) ss alone few = kept ended ends ss few

  marked_within : (due : Bool) (ss : List Session) → Within ss → Within (marked_if due ss)
  marked_within true ss few = kept (marked ss) (marks ss) ss few
  marked_within false ss few = few

  pub advanced_within : (clock : ℕ) (ss : List Session) → Within ss → Within (advanced e clock ss)
  advanced_within clock ss few =
      let later = map (aged e clock) ss in
      kept (with_end (time_end e ss later)) (keeps_end (time_end e ss later)) (marked_if (takes_over e clock later) later)
      (marked_within (takes_over e clock later) later (kept (aged e clock) (ages e clock) ss few))

  settled_within : (c : Callers) (clock : ℕ) (given : Bool) (ss : List Session) → Within ss → Within (settled_by c e clock given ss)
  settled_within Draft clock given ss few = few
  settled_within Libsrt clock given ss few =
      let later = map (settled e given clock) ss in
      let end = drain_end (open_publishers ss) (open_publishers later) in
      kept (with_end end) (keeps_end end) later (kept (settled e given clock) (settles e given clock) ss few)

  sessions_within : (is_closed : Bool) (index : ℕ) (item : Item) (m : Route)
      → AreAlone e.sessions m.sessions → Within m.sessions → Within (sessions_at is_closed e index item m)
  sessions_within true index item m alone few = few
  sessions_within false index item m alone few =
      let clock = clock_after item m in
      let ss = (taken_by e index item m).sessions in
      let taken_few =
      taken_within index clock (heard_by e index item m) (advanced e clock m.sessions) (advanced_alone e clock m.sessions alone)
      (advanced_within clock m.sessions few) in
      let over = is_file_over e (passed_by e index item m) in
      let own = own_by e index item m in
      kept (finished own e clock over) (finishes own e clock over) (passed_by e index item m)
      (settled_within e.rules.callers clock (gives_some e clock ss) (delivered e clock ss)
      (kept (λ s. passed e clock (room_if (is_active ss s) (least_room e ss)) (delivery e clock (least_room e ss) ss) s)
      (passes e clock ss) ss taken_few))

  pub before_within : (clock : ℕ) (m : Route) → Within m.sessions → Within (giving_up e clock m).sessions
  before_within clock m few = all_before Within (λ own t ss h. kept (given_up own t) (gives_up own t) ss h) e clock m few

  pub are_within : (index : ℕ) (items : List Item) → Within (after e index items).sessions
  are_within index [] = omega arith
  are_within index (item ∷ items) =
      let m = route_before e index item items in
      sessions_within m.is_closed index item m (before_are_alone e index items item)
      (before_within (clock_after item m) (after e index items) (are_within index items))

-- the free slots, and the slots with an open session
abbrev pub is_here : Session → Bool
is_here s = s.is_open

free_at : (ss : List Session) (at : ℕ) (f : Option Session) → find (is_open_in at) ss ≡ f → is_free ss at ≡ not (is_some f)
free_at ss at f h = ap not (any_is (is_open_in at) ss ∙ ap (λ (o : Option Session). is_some o) h)

slots_are : (ss : List Session) (from count : ℕ)
    → how_many (is_free ss) (numbers_from from count) + count_at is_here (λ k. find (is_open_in k) ss) from count ≡ count
unfolding count_at counted one_if
slots_are ss from zero = refl
slots_are ss from (suc count) = by (slots_are ss (from + 1) count) (find (is_open_in from) ss) refl
  where
    g : ℕ → Option Session
    g k = find (is_open_in k) ss

    by : how_many (is_free ss) (numbers_from (from + 1) count) + count_at is_here g (from + 1) count ≡ count
        → (f : Option Session) → find (is_open_in from) ss ≡ f
        → how_many (is_free ss) (numbers_from from (suc count)) + count_at is_here g from (suc count) ≡ suc count
    by rest None h =
        omega (
          arith,
          one_more (is_free ss) from (numbers_from (from + 1) count) true (free_at ss from None h),
          count_next is_here g from count,
          ap (counted is_here) h,
          rest,
        )
    by rest (Some s) h =
        omega (
          arith,
          one_more (is_free ss) from (numbers_from (from + 1) count) false (free_at ss from (Some s) h),
          count_next is_here g from count,
          ap (counted is_here) h,
          ap one_if (open_parts from s (found_passes (is_open_in from) ss s h)).0,
          rest,
        )

pub free_and_taken : (e : Terms) (ss : List Session) → AreAlone e.sessions ss → free_slots e ss + how_many is_here ss ≡ e.sessions
free_and_taken e ss alone =
    let apart = alone_apart e.sessions ss alone in
    omega (arith, slots_are ss 0 e.sessions, counted_slots is_here (λ s h. h) e.sessions ss apart.0 apart.1)

-- each open session publishes or subscribes
by_role : (ss : List Session) → how_many is_here ss ≡ open_publishers ss + how_many is_subscriber ss
by_role [] = refl
by_role (s ∷ ss) = by (by_role ss) s.is_open refl (publishes s.conclusion.role) refl
  where
    by : how_many is_here ss ≡ open_publishers ss + how_many is_subscriber ss
        → (o : Bool) → s.is_open ≡ o → (p : Bool) → publishes s.conclusion.role ≡ p
        → how_many is_here (s ∷ ss) ≡ open_publishers (s ∷ ss) + how_many is_subscriber (s ∷ ss)
    by rest false o p r =
        let none : is_publisher s ≡ false = ap (λ (b : Bool). b && publishes s.conclusion.role) o in
        let neither : is_subscriber s ≡ false = ap (λ (b : Bool). b && not (publishes s.conclusion.role)) o in
        omega (arith, one_more is_here s ss false o, one_more is_publisher s ss false none, one_more is_subscriber s ss false neither, rest)
    by rest true o true r =
        let yes : is_publisher s ≡ true = and_from s.is_open (publishes s.conclusion.role) o r in
        let neither : is_subscriber s ≡ false = ap (λ (b : Bool). b && not (publishes s.conclusion.role)) o ∙ ap not r in
        omega (arith, one_more is_here s ss true o, one_more is_publisher s ss true yes, one_more is_subscriber s ss false neither, rest)
    by rest true o false r =
        let none : is_publisher s ≡ false = ap (λ (b : Bool). b && publishes s.conclusion.role) o ∙ r in
        let yes : is_subscriber s ≡ true = and_from s.is_open (not (publishes s.conclusion.role)) o (ap not r) in
        omega (arith, one_more is_here s ss true o, one_more is_publisher s ss false none, one_more is_subscriber s ss true yes, rest)

subscribers_stay : Stays is_subscriber
subscribers_stay f keeps s h =
    let parts = and_parts (f s).is_open (not (publishes (f s).conclusion.role)) h in
    and_from s.is_open (not (publishes s.conclusion.role)) (keeps.opens_none s parts.0) (rw (← keeps.conclusion s) parts.1)

addresses_stay : (ip : List ℕ) → Stays (is_from ip)
addresses_stay ip f keeps s h =
    let parts = and_parts (f s).is_open (is_same_site (f s).peer.ip ip) h in
    and_from s.is_open (is_same_site s.peer.ip ip) (keeps.opens_none s parts.0) (rw (← keeps.peer s) parts.1)

-- a subscriber's session opens only while more slots are free than are reserved
kept_open : (e : Terms) → OpensWithin e is_subscriber (e.sessions - e.rules.reserved)
kept_open e clock peer stamp c ss slot alone is few = by (publishes c.role) refl
  where
    s : Session
    s = session_opened clock peer stamp c slot (generation_of ss slot)

    it : IsDecided e peer c ss slot
    it = decided_slot e peer c ss slot is

    more : (reserved free publishers : ℕ) → nat_le free (reserved - publishers) ≡ false → reserved - publishers < free
    more reserved free publishers h = grind (arith, nat_tests, h)

    by : (b : Bool) → publishes c.role ≡ b → how_many is_subscriber (s ∷ ss) ≤ e.sessions - e.rules.reserved
    by true role = omega (arith, one_more is_subscriber s ss false (ap not role), few)
    by false role =
        let test : nat_le (free_slots e ss) (e.rules.reserved - open_publishers ss) ≡ false =
        ap (λ (b : Bool). not b && nat_le (free_slots e ss) (e.rules.reserved - open_publishers ss)) (sym role) ∙ it.unreserved in
        omega (
          arith,
          one_more is_subscriber s ss true (ap not role),
          more e.rules.reserved (free_slots e ss) (open_publishers ss) test,
          free_and_taken e ss alone,
          by_role ss,
        )

-- a session of a site opens only while fewer are open
address_opens : (e : Terms) (limit : ℕ) (ip : List ℕ) → e.rules.sessions_per_address ≡ Some limit → OpensWithin e (is_from ip) limit
address_opens e limit ip limit_is clock peer stamp c ss slot alone is few = by (is_same_site peer.ip ip) refl
  where
    s : Session
    s = session_opened clock peer stamp c slot (generation_of ss slot)

    test : nat_le limit (sessions_from peer.ip ss) ≡ false
    test = ap (λ (o : Option ℕ). is_crowded o (sessions_from peer.ip ss)) (sym limit_is) ∙ (decided_slot e peer c ss slot is).uncrowded

    fewer : (count : ℕ) → nat_le limit count ≡ false → count < limit
    fewer count h = grind (arith, nat_tests, h)

    among : (there : List ℕ) → ℕ
    among there = length (filter (λ (t : Session). t.is_open && bytes_eq (site t.peer.ip) there) ss)

    by : (b : Bool) → is_same_site peer.ip ip ≡ b → how_many (is_from ip) (s ∷ ss) ≤ limit
    by false other = omega (arith, one_more (is_from ip) s ss false other, few)
    by true mine =
        let same : sessions_from peer.ip ss ≡ sessions_from ip ss = ap among ((bytes_eq-Decides (site peer.ip) (site ip)).0 mine) in
        omega (arith, one_more (is_from ip) s ss true mine, fewer (sessions_from peer.ip ss) test, same)

few_kept : (e : Terms) (index : ℕ) → fault_of e index ≡ None → e.rules.reserved ≤ e.sessions
few_kept e index sound = let h = limits_hold e index sound in grind (arith, nat_tests, h)

pub keeps_slots : KeepsSlots
keeps_slots e index items sound =
    let ss = (after e index items).sessions in
    omega (
      arith,
      few_kept e index sound,
      are_within e is_subscriber (e.sessions - e.rules.reserved) subscribers_stay (kept_open e) index items,
      free_and_taken e ss (are_alone e index items),
      by_role ss,
    )

-- a cause in the conclusion itself is none of the others
never_other : (a b d : Bool) (cause : RefusalCause)
    → cond a (Some causes.MessageApi) (cond b (Some causes.Rogue) (cond d (Some causes.Peer) None)) ≡ Some cause
    → (cause ≡ causes.Resource → ⊥) × (cause ≡ causes.Reserved → ⊥)
never_other true b d cause h =
    let one : causes.MessageApi ≡ cause = cc in
    ((λ same. let bad : causes.MessageApi ≡ causes.Resource = one ∙ same in cc), (λ same. let bad : causes.MessageApi ≡ causes.Reserved = one ∙ same in cc))
never_other false true d cause h =
    let one : causes.Rogue ≡ cause = cc in
    ((λ same. let bad : causes.Rogue ≡ causes.Resource = one ∙ same in cc), (λ same. let bad : causes.Rogue ≡ causes.Reserved = one ∙ same in cc))
never_other false false true cause h =
    let one : causes.Peer ≡ cause = cc in
    ((λ same. let bad : causes.Peer ≡ causes.Resource = one ∙ same in cc), (λ same. let bad : causes.Peer ≡ causes.Reserved = one ∙ same in cc))
never_other false false false cause h = absurd (let bad : None ≡ Some cause = h in cc)

refused_other : (e : Terms) (publishers : ℕ) (c : Conclusion) (cause : RefusalCause) → refused e.mode publishers c ≡ Some cause
    → (cause ≡ causes.Resource → ⊥) × (cause ≡ causes.Reserved → ⊥)
refused_other e publishers c cause h =
    never_other (differ c.wants_stream (is_buffer e.mode))
    (nat_lt c.mtu 76 || c.window == 0 || (not (publishes c.role) && is_buffer e.mode && nat_lt c.mtu 1500))
    (publishes c.role && nat_le 2 publishers) cause h

no_slot : (e : Terms) (peer : Peer) (c : Conclusion) (ss : List Session) → decision e peer c ss ≡ Err causes.Resource → free_slot e ss ≡ None
no_slot e peer c ss is =
    by (refused e.mode (open_publishers ss) c) refl (is_crowded e.rules.sessions_per_address (sessions_from peer.ip ss)) (free_slot e ss)
    (is_reserved e.rules.reserved (free_slots e ss) (open_publishers ss) c.role) is
  where
    by : (o : Option RefusalCause) → refused e.mode (open_publishers ss) c ≡ o → (crowded : Bool) (f : Option ℕ) (kept : Bool)
        → decided o crowded f kept ≡ Err causes.Resource → f ≡ None
    by (Some cause) h crowded f kept k = absurd ((refused_other e (open_publishers ss) c cause h).0 cc)
    by None h true f kept k = absurd (let bad : Err causes.Address ≡ Err causes.Resource = k in cc)
    by None h false None kept k = refl
    by None h false (Some at) true k = absurd (let bad : Err causes.Reserved ≡ Err causes.Resource = k in cc)
    by None h false (Some at) false k = absurd (let bad : Ok at ≡ Err causes.Resource = k in cc)

pub publishers_have_slots : PublishersHaveSlots
publishers_have_slots e index clock items peer c sound role is =
    let m = giving_up e clock (after e index items) in
    let ss = advanced e clock m.sessions in
    omega (
      arith,
      few_kept e index sound,
      advanced_within e is_subscriber (e.sessions - e.rules.reserved) subscribers_stay (kept_open e) clock m.sessions
          (before_within e is_subscriber (e.sessions - e.rules.reserved) subscribers_stay (kept_open e) clock (after e index items)
          (are_within e is_subscriber (e.sessions - e.rules.reserved) subscribers_stay (kept_open e) index items)),
      free_and_taken e ss (advanced_alone e clock m.sessions (alone_before e clock (after e index items) (are_alone e index items))),
      by_role ss,
      none_there (is_free ss) (numbers_from 0 e.sessions) (no_slot e peer c ss is),
    )

pub none_is_kept : NoneIsKeptFromPublishers
none_is_kept e index clock items peer c role is =
    by (refused e.mode (open_publishers ss) c) refl (is_crowded e.rules.sessions_per_address (sessions_from peer.ip ss)) (free_slot e ss)
    (is_reserved e.rules.reserved (free_slots e ss) (open_publishers ss) c.role) refl is
  where
    ss : List Session
    ss = advanced e clock (giving_up e clock (after e index items)).sessions

    by : (o : Option RefusalCause) → refused e.mode (open_publishers ss) c ≡ o → (crowded : Bool) (f : Option ℕ) (kept : Bool)
        → is_reserved e.rules.reserved (free_slots e ss) (open_publishers ss) c.role ≡ kept → decided o crowded f kept ≡ Err causes.Reserved → ⊥
    by (Some cause) h crowded f kept kept_is k = (refused_other e (open_publishers ss) c cause h).1 cc
    by None h true f kept kept_is k = let bad : Err causes.Address ≡ Err causes.Reserved = k in cc
    by None h false None kept kept_is k = let bad : Err causes.Resource ≡ Err causes.Reserved = k in cc
    by None h false (Some at) true kept_is k =
        let bad : false ≡ true =
        ap (λ (b : Bool). not b && nat_le (free_slots e ss) (e.rules.reserved - open_publishers ss)) (sym role) ∙ kept_is in
        cc
    by None h false (Some at) false kept_is k = let bad : Ok at ≡ Err causes.Reserved = k in cc

pub few_of_an_address : FewOfAnAddress
few_of_an_address e index limit items ip limit_is =
    are_within e (is_from ip) limit (addresses_stay ip) (address_opens e limit ip limit_is) index items
