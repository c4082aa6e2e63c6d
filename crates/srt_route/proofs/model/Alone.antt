-- The open sessions of a route are unique: each in its slot, and each of its caller.
use Rattle.std.proofs.Common.{◌≡◌, ℕ, zero, suc, ◌+◌, ◌<◌, ◌≤◌, ◌==◌, ◌&&◌, Bool, true, false, cond, Option, None, Some, List, [], ◌∷◌, map}
use Rattle.std.proofs.Common.{find, Result, Ok, Err, refl, subst, ◌∙◌, ◌⊎◌, inl, inr, arith}
use Rattle.std.specs.Prelude.{nat_lt}
use Rattle.std.proofs.lemmas.Bool.{cases_lt, and_parts, and_from, lt-ltb, eq-eqb}
use Rattle.srt_types.specs.declared.shared.Peer.{Peer}
use Rattle.srt_types.specs.Runs.{numbers_from}
use Rattle.srt_types.specs.declared.shared.Callers.{Callers}
use Rattle.srt_types.specs.declared.shared.Callers.TheVariants.{Draft, Libsrt}
use Rattle.srt_types.specs.Terms.{Terms}
use Rattle.srt_types.specs.Items.{Item, Received, Tick, Close}
use Rattle.srt_packet.specs.declared.reading.PacketFault.{PacketFault}
use Rattle.srt_packet.specs.Grammar.{Packet}
use Rattle.srt_packet.specs.Reading.{packet_in}
use Rattle.srt_route.specs.Route.{own_by}
use Rattle.srt_route.specs.declared.refusals.RefusalCause.{RefusalCause}
use Rattle.srt_route.specs.declared.conclusion_reading.Conclusion.{Conclusion}
use Rattle.srt_route.specs.Past.{passed_past}
use Rattle.srt_route.specs.Sessions.{Session, is_open_in, is_active, is_free, free_slot, terms_of, time_in, aged, advanced, marked, marked_if}
use Rattle.srt_route.specs.Sessions.{passed, takes_over, time_end, with_end}
use Rattle.srt_route.specs.Route.{Route, decision, opens, considered, concluded, heard_if, is_of, is_for, concludes}
use Rattle.srt_route.specs.Route.{after_delivery, drain_end, drain_of, finished, gives_some, is_file_over, packet_end, settled_by, took_packet}
use Rattle.srt_route.specs.Sessions.{open_publishers, settled}
use Rattle.srt_route.specs.Route.{without_destination, arrived, packet_taken, read_taken, taken, ended, least_room, delivery, room_if}
use Rattle.srt_route.specs.Route.{delivered, taken_by, passed_by, sessions_at, clock_after, after, heard_by}
use Rattle.srt_route.specs.Tables.{AreAlone}
use Rattle.srt_route.specs.Bounds.{TwoPublish, NoMoreThanSlots, OneInASlot, NoneElsewhere, OneOfACaller}
use Rattle.srt_route.proofs.model.Lists.{how_many, one_more}
use Rattle.srt_route.proofs.model.Found.{open_parts, of_parts, Keeps, alone_kept}
use Rattle.srt_route.proofs.model.TakeOver.{decided_slot, two_at_most}
use Rattle.srt_route.proofs.stored.Stored.{free_is_vacant, hears}
use Rattle.srt_route.proofs.model.FileEnds.{finishes, keeps_end, settles, takes_packet}
use Rattle.srt_route.proofs.steps.Aging.{ages}
use Rattle.srt_route.proofs.model.Marking.{marks}
use Rattle.srt_route.proofs.model.Ending.{ends}
use Rattle.srt_route.proofs.model.Changes.{keeps_changed}
use Rattle.srt_route.proofs.model.GivingUp.{alone_before}
use Rattle.srt_route.specs.Route.{route_before}

-- a number found among `count` numbers is one of them
found_number : (p : ℕ → Bool) (from count at : ℕ) → find p (numbers_from from count) ≡ Some at → at < from + count
found_number p from zero at h = absurd (let bad : None ≡ Some at = h in cc)
found_number p from (suc count) at h = at_head (λ k. found_number p (from + 1) count at k) (p from) h
  where
    at_head : (find p (numbers_from (from + 1) count) ≡ Some at → at < from + 1 + count)
        → (b : Bool) → cond b (Some from) (find p (numbers_from (from + 1) count)) ≡ Some at → at < from + suc count
    at_head later true k = let same : from ≡ at = cc in omega (arith, same)
    at_head later false k = omega (arith, later k)

-- an event's changes keep the sessions unique
pub passes : (e : Terms) (clock : ℕ) (ss : List Session)
    → Keeps (λ s. passed e clock (room_if (is_active ss s) (least_room e ss)) (delivery e clock (least_room e ss) ss) s)
passes e clock ss =
    keeps_changed (λ s. passed_past (terms_of e s) (time_in s clock) (room_if (is_active ss s) (least_room e ss))
    (delivery e clock (least_room e ss) ss) s.past)

opens_alone : (e : Terms) (index clock : ℕ) (peer : Peer) (stamp : ℕ) (c : Conclusion) (ss : List Session)
    → find (is_of peer c.caller) ss ≡ None → (slot : ℕ) → free_slot e ss ≡ Some slot → AreAlone e.sessions ss
    → AreAlone e.sessions (opens e index clock peer stamp c ss slot).sessions
opens_alone e index clock peer stamp c ss first slot free alone =
    let inside : slot < e.sessions = omega (arith, found_number (is_free ss) 0 e.sessions slot free) in
    (λ o. record { inside = inside; slot_alone = free_is_vacant e ss slot free; caller_alone = first }, alone)

considered_alone : (e : Terms) (index clock : ℕ) (peer : Peer) (stamp : ℕ) (c : Conclusion) (ss : List Session)
    (answer : Result ℕ RefusalCause)
    → find (is_of peer c.caller) ss ≡ None → decision e peer c ss ≡ answer → AreAlone e.sessions ss
    → AreAlone e.sessions (considered e index clock peer stamp c ss answer).sessions
considered_alone e index clock peer stamp c ss (Err cause) first is alone = alone
considered_alone e index clock peer stamp c ss (Ok slot) first is alone =
    opens_alone e index clock peer stamp c ss first slot (decided_slot e peer c ss slot is).free alone

concluded_alone : (e : Terms) (index clock : ℕ) (peer : Peer) (stamp : ℕ) (c : Conclusion) (ss : List Session) (found : Option Session)
    → find (is_of peer c.caller) ss ≡ found → AreAlone e.sessions ss
    → AreAlone e.sessions (concluded e index clock peer stamp c ss found).sessions
concluded_alone e index clock peer stamp c ss (Some s) is alone =
    alone_kept (λ t. heard_if (is_of peer c.caller t) clock t) (hears peer c.caller clock) e.sessions ss alone
concluded_alone e index clock peer stamp c ss None is alone = considered_alone e index clock peer stamp c ss (decision e peer c ss) is refl alone

without_alone : (e : Terms) (index clock : ℕ) (peer : Peer) (stamp : ℕ) (ss : List Session) (c : Option Conclusion)
    → AreAlone e.sessions ss → AreAlone e.sessions (without_destination e index clock peer stamp ss c).sessions
without_alone e index clock peer stamp ss None alone = alone
without_alone e index clock peer stamp ss (Some c) alone = concluded_alone e index clock peer stamp c ss (find (is_of peer c.caller) ss) refl alone

packet_alone : (e : Terms) (index clock : ℕ) (peer : Peer) (packet : Packet) (ss : List Session)
    → AreAlone e.sessions ss → AreAlone e.sessions (packet_taken e index clock peer packet ss).sessions
packet_alone e index clock peer packet ss alone = by (packet.dest == 0)
  where
    by : (b : Bool)
        → AreAlone e.sessions
        (cond b (without_destination e index clock peer packet.stamp ss (concludes packet.body)) (arrived e index clock peer packet ss)).sessions
    by true = without_alone e index clock peer packet.stamp ss (concludes packet.body) alone
    by false =
        let found = find (is_for index peer packet.dest) ss in
        let drains = drain_of e clock packet.body ss found in
        let end = packet_end drains e packet.body found in
        alone_kept (took_packet drains end e index clock peer packet) (takes_packet drains end e index clock peer packet) e.sessions ss alone

read_alone : (e : Terms) (index clock : ℕ) (peer : Peer) (read : Result Packet PacketFault) (ss : List Session)
    → AreAlone e.sessions ss → AreAlone e.sessions (read_taken e index clock peer read ss).sessions
read_alone e index clock peer (Ok packet) ss alone = packet_alone e index clock peer packet ss alone
read_alone e index clock peer (Err fault) ss alone = alone

pub taken_alone : (e : Terms) (index clock : ℕ) (item : Item) (ss : List Session)
    → AreAlone e.sessions ss → AreAlone e.sessions (taken e index clock item ss).sessions
taken_alone e index clock (Received d moment) ss alone = read_alone e index clock d.peer (packet_in d.bytes) ss alone
taken_alone e index clock (Tick moment) ss alone = alone
taken_alone e index clock (Close moment) ss alone = alone_kept ended ends e.sessions ss alone

pub delivered_alone : (e : Terms) (clock : ℕ) (ss : List Session) → AreAlone e.sessions ss → AreAlone e.sessions (delivered e clock ss)
delivered_alone e clock ss alone =
    let room = least_room e ss in
    let fed = delivery e clock room ss in
    alone_kept (λ s. passed e clock (room_if (is_active ss s) room) fed s) (passes e clock ss) e.sessions ss alone

settled_alone : (c : Callers) (e : Terms) (clock : ℕ) (given : Bool) (places : ℕ) (ss : List Session)
    → AreAlone places ss → AreAlone places (settled_by c e clock given ss)
settled_alone Draft e clock given places ss alone = alone
settled_alone Libsrt e clock given places ss alone =
    let later = map (settled e given clock) ss in
    let end = drain_end (open_publishers ss) (open_publishers later) in
    alone_kept (with_end end) (keeps_end end) places later (alone_kept (settled e given clock) (settles e given clock) places ss alone)

pub after_delivery_alone : (e : Terms) (clock : ℕ) (ss : List Session) → AreAlone e.sessions ss → AreAlone e.sessions (after_delivery e clock ss)
after_delivery_alone e clock ss alone =
    settled_alone e.rules.callers e clock (gives_some e clock ss) e.sessions (delivered e clock ss) (delivered_alone e clock ss alone)

pub marked_alone : (due : Bool) (places : ℕ) (ss : List Session) → AreAlone places ss → AreAlone places (marked_if due ss)
marked_alone true places ss alone = alone_kept (marked ss) (marks ss) places ss alone
marked_alone false places ss alone = alone

pub advanced_alone : (e : Terms) (clock : ℕ) (ss : List Session) → AreAlone e.sessions ss → AreAlone e.sessions (advanced e clock ss)
advanced_alone e clock ss alone =
    let later = map (aged e clock) ss in
    alone_kept (with_end (time_end e ss later)) (keeps_end (time_end e ss later)) e.sessions (marked_if (takes_over e clock later) later)
    (marked_alone (takes_over e clock later) e.sessions later (alone_kept (aged e clock) (ages e clock) e.sessions ss alone))

sessions_alone : (is_closed : Bool) (e : Terms) (index : ℕ) (item : Item) (m : Route)
    → AreAlone e.sessions m.sessions → AreAlone e.sessions (sessions_at is_closed e index item m)
sessions_alone true e index item m alone = alone
sessions_alone false e index item m alone =
    let clock = clock_after item m in
    let ss = (taken_by e index item m).sessions in
    let taken_are = taken_alone e index clock (heard_by e index item m) (advanced e clock m.sessions) (advanced_alone e clock m.sessions alone) in
    let over = is_file_over e (passed_by e index item m) in
    let own = own_by e index item m in
    alone_kept (finished own e clock over) (finishes own e clock over) e.sessions (passed_by e index item m) (after_delivery_alone e clock ss taken_are)

pub are_alone : (e : Terms) (index : ℕ) (items : List Item) → AreAlone e.sessions (after e index items).sessions
are_alone e index [] = tt
are_alone e index (item ∷ items) =
    let m = route_before e index item items in
    sessions_alone m.is_closed e index item m (alone_before e (clock_after item m) (after e index items) (are_alone e index items))

pub before_are_alone : (e : Terms) (index : ℕ) (items : List Item) (item : Item) → AreAlone e.sessions (route_before e index item items).sessions
before_are_alone e index items item =
    alone_before e (clock_after item (after e index items)) (after e index items) (are_alone e index items)

pub at_least : {A : Type 0} (p : A → Bool) (x : A) (xs : List A) (b : Bool) → p x ≡ b → how_many p xs ≤ how_many p (x ∷ xs)
at_least p x xs true is = omega (arith, one_more p x xs true is)
at_least p x xs false is = omega (arith, one_more p x xs false is)

-- if nothing is found, none passes
pub none_there : {A : Type 0} (p : A → Bool) (xs : List A) → find p xs ≡ None → how_many p xs ≡ 0
none_there p [] h = refl
none_there p (x ∷ xs) h = by (λ k. none_there p xs k) (p x) refl h
  where
    by : (find p xs ≡ None → how_many p xs ≡ 0) → (b : Bool) → p x ≡ b → cond b (Some x) (find p xs) ≡ None → how_many p (x ∷ xs) ≡ 0
    by rest true is k = absurd (let bad : Some x ≡ None = k in cc)
    by rest false is k = one_more p x xs false is ∙ rest k

pub none_pass : {A : Type 0} (p : A → Bool) (xs : List A) → ((x : A) → p x ≡ true → ⊥) → how_many p xs ≡ 0
none_pass p [] never = refl
none_pass p (x ∷ xs) never = by (none_pass p xs never) (p x) refl
  where
    by : how_many p xs ≡ 0 → (b : Bool) → p x ≡ b → how_many p (x ∷ xs) ≡ 0
    by rest true is = absurd (never x is)
    by rest false is = one_more p x xs false is ∙ rest

-- at most as many pass a test as pass one of two others that cover it
pub split : {A : Type 0} (p q r : A → Bool) (xs : List A) → ((x : A) → p x ≡ true → (q x ≡ true) ⊎ (r x ≡ true)) → how_many p xs ≤ how_many q xs + how_many r xs
split p q r [] either = omega arith
split p q r (x ∷ xs) either = by (split p q r xs either) (p x) refl (q x) refl (r x) refl
  where
    by : how_many p xs ≤ how_many q xs + how_many r xs → (a : Bool) → p x ≡ a → (b : Bool) → q x ≡ b → (d : Bool) → r x ≡ d
        → how_many p (x ∷ xs) ≤ how_many q (x ∷ xs) + how_many r (x ∷ xs)
    by rest false pa b qb d rd = omega (arith, rest, one_more p x xs false pa, at_least q x xs b qb, at_least r x xs d rd)
    by rest true pa true qb d rd = omega (arith, rest, one_more p x xs true pa, one_more q x xs true qb, at_least r x xs d rd)
    by rest true pa false qb true rd = omega (arith, rest, one_more p x xs true pa, one_more q x xs false qb, one_more r x xs true rd)
    by rest true pa false qb false rd = elim (either x pa) [
      | inl one ↦ absurd (let bad : q x ≡ true = one in cc)
      | inr other ↦ absurd (let bad : r x ≡ true = other in cc)
    ]

-- a slot has at most one open session, and so has a caller
pub one_in_slot : (places : ℕ) (ss : List Session) → AreAlone places ss → (slot : ℕ) → how_many (is_open_in slot) ss ≤ 1
one_in_slot places [] alone slot = omega arith
one_in_slot places (s ∷ ss) alone slot = by (one_in_slot places ss alone.1 slot) (is_open_in slot s) refl
  where
    by : how_many (is_open_in slot) ss ≤ 1 → (b : Bool) → is_open_in slot s ≡ b → how_many (is_open_in slot) (s ∷ ss) ≤ 1
    by rest true is =
        let parts = open_parts slot s is in
        let none : find (is_open_in slot) ss ≡ None = subst (λ (k : ℕ). find (is_open_in k) ss ≡ None) parts.1 (alone.0 parts.0).slot_alone in
        omega (arith, one_more (is_open_in slot) s ss true is, none_there (is_open_in slot) ss none)
    by rest false is = omega (arith, one_more (is_open_in slot) s ss false is, rest)

one_of_caller : (places : ℕ) (ss : List Session) → AreAlone places ss → (peer : Peer) (caller : ℕ) → how_many (is_of peer caller) ss ≤ 1
one_of_caller places [] alone peer caller = omega arith
one_of_caller places (s ∷ ss) alone peer caller = by (one_of_caller places ss alone.1 peer caller) (is_of peer caller s) refl
  where
    by : how_many (is_of peer caller) ss ≤ 1 → (b : Bool) → is_of peer caller s ≡ b → how_many (is_of peer caller) (s ∷ ss) ≤ 1
    by rest true is =
        let parts = of_parts peer caller s is in
        let none : find (is_of peer caller) ss ≡ None =
        subst (λ (k : ℕ). find (is_of peer k) ss ≡ None) parts.2
        (subst (λ (p : Peer). find (is_of p s.conclusion.caller) ss ≡ None) parts.1 (alone.0 parts.0).caller_alone) in
        omega (arith, one_more (is_of peer caller) s ss true is, none_there (is_of peer caller) ss none)
    by rest false is = omega (arith, one_more (is_of peer caller) s ss false is, rest)

-- no session is open in a slot from the bound on
none_elsewhere : (places : ℕ) (ss : List Session) → AreAlone places ss → (slot : ℕ) → places ≤ slot → how_many (is_open_in slot) ss ≡ 0
none_elsewhere places [] alone slot above = refl
none_elsewhere places (s ∷ ss) alone slot above = by (none_elsewhere places ss alone.1 slot above) (is_open_in slot s) refl
  where
    by : how_many (is_open_in slot) ss ≡ 0 → (b : Bool) → is_open_in slot s ≡ b → how_many (is_open_in slot) (s ∷ ss) ≡ 0
    by rest true is = let parts = open_parts slot s is in absurd (omega (arith, above, parts.1, (alone.0 parts.0).inside))
    by rest false is = one_more (is_open_in slot) s ss false is ∙ rest

-- the sessions that are open in a slot below the bound
abbrev is_open : Session → Bool
is_open s = s.is_open

abbrev is_under : (bound : ℕ) → Session → Bool
is_under bound s = s.is_open && nat_lt s.slot bound

all_under : (places : ℕ) (ss : List Session) → AreAlone places ss → how_many is_open ss ≤ how_many (is_under places) ss
all_under places [] alone = omega arith
all_under places (s ∷ ss) alone = by (all_under places ss alone.1) s.is_open refl (is_under places s) refl
  where
    by : how_many is_open ss ≤ how_many (is_under places) ss
        → (b : Bool) → s.is_open ≡ b → (d : Bool) → is_under places s ≡ d → how_many is_open (s ∷ ss) ≤ how_many (is_under places) (s ∷ ss)
    by rest true o true u = omega (arith, one_more is_open s ss true o, one_more (is_under places) s ss true u, rest)
    by rest true o false u = absurd (let there : is_under places s ≡ true =
        and_from s.is_open (nat_lt s.slot places) o (lt-ltb s.slot places (alone.0 o).inside) in
        cc)
    by rest false o true u = omega (arith, one_more is_open s ss false o, one_more (is_under places) s ss true u, rest)
    by rest false o false u = omega (arith, one_more is_open s ss false o, one_more (is_under places) s ss false u, rest)

few_under : (ss : List Session) → ((slot : ℕ) → how_many (is_open_in slot) ss ≤ 1) → (bound : ℕ) → how_many (is_under bound) ss ≤ bound
few_under ss one zero = omega (arith, none_pass (is_under zero) ss (λ s h. let low = (and_parts s.is_open (nat_lt s.slot 0) h).1 in grind (arith, low)))
few_under ss one (suc bound) = omega (arith, few_under ss one bound, one bound, split (is_under (suc bound)) (is_under bound) (is_open_in bound) ss each)
  where
    each : (s : Session) → is_under (suc bound) s ≡ true → (is_under bound s ≡ true) ⊎ (is_open_in bound s ≡ true)
    each s h =
        let parts = and_parts s.is_open (nat_lt s.slot (suc bound)) h in
        elim (cases_lt s.slot bound) [
          | inl below ↦ inl (and_from s.is_open (nat_lt s.slot bound) parts.0 (lt-ltb s.slot bound below))
          | inr above ↦ inr (and_from s.is_open (s.slot == bound) parts.0 (eq-eqb s.slot bound (let low = parts.1 in grind (arith, low, above))))
        ]

pub two_publish : TwoPublish
two_publish = two_at_most

pub no_more_than_slots : NoMoreThanSlots
no_more_than_slots e index items =
    let ss = (after e index items).sessions in
    let alone = are_alone e index items in
    omega (arith, all_under e.sessions ss alone, few_under ss (one_in_slot e.sessions ss alone) e.sessions)

pub one_in_a_slot : OneInASlot
one_in_a_slot e index items slot = one_in_slot e.sessions (after e index items).sessions (are_alone e index items) slot

pub nowhere_else : NoneElsewhere
nowhere_else e index items slot above = none_elsewhere e.sessions (after e index items).sessions (are_alone e index items) slot above

pub one_of_a_caller : OneOfACaller
one_of_a_caller e index items peer caller = one_of_caller e.sessions (after e index items).sessions (are_alone e index items) peer caller
