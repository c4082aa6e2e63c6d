-- A standby takes over from the active publisher.
use Rattle.std.proofs.Common.{◌≡◌, ℕ, ◌-◌, ◌<◌, ◌≤◌, Bool, true, false, not, ◌&&◌, cond, Option, None, Some, List, length, map, find, get_or, nat_le, nat_lt}
use Rattle.std.proofs.Common.{refl, sym, ap, subst, ◌∙◌, arith}
use Rattle.std.specs.Option.{is_some}
use Rattle.std.specs.List.{list_any}
use Rattle.std.proofs.lemmas.Bool.{and_from, and_parts, false_from_ne_true}
use Rattle.std.proofs.lemmas.Bool.Decides.{nat_tests}
use Rattle.srt_types.specs.Terms.{Terms}
use Rattle.srt_pub.specs.Changes.{HoldsOfAt}
use Rattle.srt_pub.specs.Publishing.{last_arrival}
use Rattle.srt_pub.specs.declared.session.Publisher.{Publisher}
use Rattle.srt_sub.specs.declared.session.Subscriber.{Subscriber}
use Rattle.srt_route.specs.declared.publisher_buffers.PublisherBuffers.{PublisherBuffers}
use Rattle.srt_route.specs.declared.seat.Seat.{Seat}
use Rattle.srt_route.specs.declared.seat.Session.{Session as TheSession}
use Rattle.srt_route.specs.declared.table.Table.{Table}
use Rattle.srt_route.specs.Past.{Past, Publishes, Subscribes, silence_of}
use Rattle.srt_route.specs.Sessions.{Session, active, has_failed, is_active, is_open_in, is_publisher, is_standby, marked, marked_if, publishes}
use Rattle.srt_route.specs.Sessions.{standby, takes_over, terms_of, time_in}
use Rattle.srt_route.specs.Buffers.{IsPast, IsSeated}
use Rattle.srt_route.specs.PublisherBuffers.{other_buffers, place_of}
use Rattle.srt_route.specs.Tables.{AreAlone, ArePublishers, AreSeats, AreWide, IsPublishing, IsSeat, IsSession, IsStored, IsTable, Uses, buffers_of}
use Rattle.srt_route.specs.Tables.{publishes_from, used_buffers}
use Rattle.srt_route.proofs.model.Changes.{is_there}
use Rattle.srt_route.proofs.model.Found.{alone_kept, any_is, changed, changed_from, found_in_place, found_passes, open_parts}
use Rattle.srt_route.proofs.model.Marking.{IsTakeOver, marked_open, marked_publishes, marks, standby_leads, take_over_is}
use Rattle.srt_route.proofs.model.TakeOver.{active_in_slot, active_is, active_publishes, is_active_is}
use Rattle.srt_route.proofs.stored.Kept.{Becomes, HasSeats, SameEntry, below_seats, same_buffers, seats_kept, table_stands}
use Rattle.srt_route.proofs.stored.Publishers.{IsFrom, uses_others}
use Rattle.srt_route.proofs.stored.Stored.{alone_apart, any_from, some_item}
use Rattle.srt_route.proofs.stored.TwoBuffers.{never_other, other_from_not}
use Rattle.srt_route.proofs.steps.Delivered.{has_past}
use Rattle.srt_route.proofs.steps.Passing.{publisher_at}

not_false : (b : Bool) → not b ≡ true → b ≡ false
not_false true h = absurd (let bad : false ≡ true = h in cc)
not_false false h = refl

-- the standby, in its slot
pub record StandsThere (ss : List Session) (t : Session) : Type 0 where
  pub here : IsPublishing ss t.slot t
  pub not_active : is_active ss t ≡ false

stands_there : (places : ℕ) (ss : List Session) (t : Session) → AreAlone places ss → standby ss ≡ Some t → StandsThere ss t
stands_there places ss t alone h =
    let parts = and_parts (is_publisher t) (not (is_active ss t)) (found_passes (is_standby ss) ss t h) in
    let there =
    found_in_place (is_standby ss)
    (λ u k. (and_parts u.is_open (publishes u.conclusion.role) (and_parts (is_publisher u) (not (is_active ss u)) k).0).0)
    places ss alone t h in
    record { here = record { found = there.1; publishes = parts.0 }; not_active = not_false (is_active ss t) parts.1 }

-- it doesn't use the leading buffers
uses_other : (e : Terms) (index clock : ℕ) (table : Table) (ss : List Session) (k : ℕ) (d : Seat) (t : Session)
    → IsTable e index clock table ss → IsPublishing ss k t → is_active ss t ≡ false
    → used_buffers (get_or table.seats.items k d) ≡ other_buffers table.leading
uses_other e index clock table ss k d t is here other =
    other_from_not table.leading (used_buffers (get_or table.seats.items k d))
    (λ same.
    absurd (let bad : is_active ss t ≡ true = active_is ss t (is.publishers_are.leading_is_active k d t here same) in
    cc))

a_seat : (e : Terms) (index clock : ℕ) (table : Table) (ss : List Session) (at : ℕ) (s : Session)
    → IsTable e index clock table ss → find (is_open_in at) ss ≡ Some s → Seat
a_seat e index clock table ss at s is here = some_item table.seats.items at (below_seats e index clock table ss at s is here)

-- a slot has one session
one_there : (ss : List Session) (at k : ℕ) (s t : Session) → find (is_open_in at) ss ≡ Some s → find (is_open_in k) ss ≡ Some t → at ≡ k → s ≡ t
one_there ss at k s t first second same =
    let both : Some s ≡ Some t = sym first ∙ (ap (λ (n : ℕ). find (is_open_in n) ss) same ∙ second) in
    cc

-- of two open publishers the one with the leading buffers is active, and the other is the standby
pub record AreBoth (ss : List Session) (s t : Session) : Type 0 where
  pub active_is : active ss ≡ Some s
  pub standby_is : standby ss ≡ Some t

pub are_both : (e : Terms) (index clock : ℕ) (table : Table) (ss : List Session) (it : IsFrom table ss table.leading)
    (other : IsFrom table ss (other_buffers table.leading))
    → IsTable e index clock table ss → AreBoth ss it.session other.session
are_both e index clock table ss it other is =
    record { active_is = active_one; standby_is = by (standby ss) refl }
  where
    s : Session
    s = it.session

    t : Session
    t = other.session

    d : Seat
    d = a_seat e index clock table ss it.at s is it.here.found

    active_one : active ss ≡ Some s
    active_one = is.publishers_are.leading_is_active it.at d s it.here (sym (it.uses d))

    behind : is_active ss t ≡ false
    behind = false_from_ne_true (is_active ss t) (λ h.
        let place = is_there other.at ss t other.here.found in
        let second = is_active_is ss other.at t (alone_apart e.sessions ss is.alone).0 other.here.found place.1 h in
        let both : Some s ≡ Some t = sym active_one ∙ second in
        let one : s ≡ t = cc in
        let same : it.at ≡ other.at = sym (is_there it.at ss s it.here.found).1 ∙ (ap (λ (u : Session). u.slot) one ∙ place.1) in
        absurd (never_other table.leading (it.uses d ∙ (ap (λ (n : ℕ). used_buffers (get_or table.seats.items n d)) same ∙ sym (other.uses d)))))

    passes : is_standby ss t ≡ true
    passes = and_from (is_publisher t) (not (is_active ss t)) other.here.publishes (ap not behind)

    by : (o : Option Session) → standby ss ≡ o → o ≡ Some t
    by None h =
        let some = any_from (is_standby ss) (is_open_in other.at) ss t other.here.found passes in
        absurd (let bad : true ≡ false = sym some ∙ (any_is (is_standby ss) ss ∙ ap (λ (o : Option Session). is_some o) h) in cc)
    by (Some u) h =
        let there = stands_there e.sessions ss u is.alone h in
        let same = is.publishers_are.apart u.slot other.at d u t there.here other.here
        (uses_other e index clock table ss u.slot d u is there.here there.not_active ∙ other.uses d) in
        ap (λ (v : Session). Some v) (one_there ss u.slot other.at u t there.here.found other.here.found same)

-- without a publisher with these buffers none has failed
pub none_failed : (e : Terms) (index clock limit : ℕ) (table : Table) (ss : List Session) (b : PublisherBuffers)
    → IsTable e index clock table ss → list_any (publishes_from b) table.seats.items ≡ false
    → has_failed limit clock (active ss) (standby ss) ≡ false
none_failed e index clock limit table ss b is none = by (active ss) refl (standby ss) refl
  where
    apart : (s t : Session) → active ss ≡ Some s → standby ss ≡ Some t → ⊥
    apart s t first second =
        let place = active_in_slot ss s (alone_apart e.sessions ss is.alone).0 first in
        let d = a_seat e index clock table ss s.slot s is place in
        let mine : IsPublishing ss s.slot s = record { found = place; publishes = active_publishes ss s first } in
        let there = stands_there e.sessions ss t is.alone second in
        let same = is.publishers_are.apart s.slot t.slot d s t mine there.here
        (uses_others e index clock table ss b s.slot d s is none mine ∙ sym (uses_others e index clock table ss b t.slot d t is none there.here)) in
        let one : s ≡ t = one_there ss s.slot t.slot s t place there.here.found same in
        let bad : is_active ss s ≡ false = ap (is_active ss) one ∙ there.not_active in
        absurd (let good : is_active ss s ≡ true = active_is ss s first in cc)

    by : (o : Option Session) → active ss ≡ o → (p : Option Session) → standby ss ≡ p → has_failed limit clock o p ≡ false
    by (Some s) first (Some t) second = absurd (apart s t first second)
    by (Some s) first None second = refl
    by None first p second = refl

-- the time since a publisher's session last received data
pub silent_is : (e : Terms) (index clock : ℕ) (table : Table) (ss : List Session) (at : ℕ) (s : Session) (b : PublisherBuffers) (place : ℕ)
    (p : Publisher) (silence : ℕ)
    → IsTable e index clock table ss → IsPublishing ss at s → Uses table at b → place ≡ place_of b → p ≡ get_or table.publishers.items place p
    → HoldsOfAt clock p (λ terms time m. silence ≡ time - last_arrival m.notes)
    → silence ≡ silence_of (time_in s clock) s.past
silent_is e index clock table ss at s b place p silence is here uses place_is there holds =
    let past = has_past e index clock table ss at s is here in
    let it = publisher_at e index clock table ss at s past.0 b place p (record { body = is; here = past.1; uses = uses }) place_is there in
    holds (terms_of e s).publisher s.conclusion.initial s.opening s.stamp s.conclusion.caller (time_in s clock) past.0 it.moment it.stands
    ∙ sym (ap (silence_of (time_in s clock)) past.1.past_is)

-- the result of the code
pub failed_is : (limit clock a b : ℕ) (ss : List Session) (s t : Session) → AreBoth ss s t
    → a ≡ silence_of (time_in s clock) s.past → b ≡ silence_of (time_in t clock) t.past
    → (nat_le limit a && not (nat_le limit b)) ≡ has_failed limit clock (active ss) (standby ss)
failed_is limit clock a b ss s t both a_is b_is = rw (both.active_is, both.standby_is, a_is, b_is) refl

pub heard_in_time : (limit a b : ℕ) → a < limit → false ≡ (nat_le limit a && not (nat_le limit b))
heard_in_time limit a b h = by (nat_le limit a) refl
  where
    by : (x : Bool) → nat_le limit a ≡ x → false ≡ (x && not (nat_le limit b))
    by true is = absurd (grind (arith, nat_tests, is, h))
    by false is = refl

pub other_in_time : (limit a b : ℕ) → limit ≤ a → nat_lt b limit ≡ (nat_le limit a && not (nat_le limit b))
other_in_time limit a b h = by (nat_le limit a) refl (nat_le limit b) refl (nat_lt b limit) refl
  where
    by : (x : Bool) → nat_le limit a ≡ x → (y : Bool) → nat_le limit b ≡ y → (z : Bool) → nat_lt b limit ≡ z → z ≡ (x && not y)
    by false x_is y y_is z z_is = absurd (grind (arith, nat_tests, x_is, h))
    by true x_is true y_is true z_is = absurd (grind (arith, nat_tests, y_is, z_is))
    by true x_is true y_is false z_is = refl
    by true x_is false y_is true z_is = refl
    by true x_is false y_is false z_is = absurd (grind (arith, nat_tests, y_is, z_is))

-- a mark isn't stored
mark_stored : (e : Terms) (index : ℕ) (b mark : Bool) (t : TheSession) (s : Session)
    → IsSession e index t s → IsSession e index t (cond b (record s { took_over = mark }) s)
mark_stored e index false mark t s is = is
mark_stored e index true mark t s is =
    record {
      peer_is = is.peer_is;
      caller_is = is.caller_is;
      id_is = is.id_is;
      role_is = is.role_is;
      opened_is = is.opened_is;
      heard_is = is.heard_is;
      drains_is = is.drains_is;
      file_is = is.file_is;
      given_up_is = is.given_up_is;
      answer_is = is.answer_is;
    }

mark_seated : (e : Terms) (clock : ℕ) (p : Publisher) (x : Subscriber) (b mark : Bool) (s : Session)
    → IsSeated e clock p x s → IsSeated e clock p x (cond b (record s { took_over = mark }) s)
mark_seated e clock p x false mark s is = is
mark_seated e clock p x true mark s is = record { past_is = by s.past is.past_is; opened = is.opened }
  where
    by : (past : Past) → IsPast e clock p x s past → IsPast e clock p x (record s { took_over = mark }) past
    by (Publishes m) h = h
    by (Subscribes m) h = h

marked_seat : (e : Terms) (index clock at : ℕ) (p : Publisher) (x : Seat) (ss : List Session)
    → IsSeat e index clock at p x ss → Becomes (marked ss) e index clock at p x x ss
marked_seat e index clock at p x ss is =
    record {
      count_is = refl;
      session_is = stored (find (is_open_in at) ss) refl is.session_is;
      buffers_stay = same_buffers x.session x.session refl;
      wide = is.wide;
      seated = λ s found o. mark_seated e clock p x.subscriber (is_publisher s) (not (is_active ss s)) s (is.seated s found);
    }
  where
    stored : (f : Option Session) → find (is_open_in at) ss ≡ f → IsStored e index x.session f → IsStored e index x.session (changed (marked ss) f)
    stored None found h = h
    stored (Some s) found h =
        let opens : (marked ss s).is_open ≡ true = marked_open ss s ∙ (open_parts at s (found_passes (is_open_in at) ss s found)).0 in
        subst (λ (b : Bool). IsStored e index x.session (cond b (Some (marked ss s)) None)) (sym opens) (by x.session h)
      where
        by : (o : Option TheSession) → IsStored e index o (Some s) → IsStored e index o (Some (marked ss s))
        by None k = absurd k
        by (Some t) k = mark_stored e index (is_publisher s) (not (is_active ss s)) t s k

-- after a take-over the other buffers lead
pub taken_over : (e : Terms) (index clock : ℕ) (old new : Table) (ss : List Session)
    → IsTable e index clock old ss → takes_over e clock ss ≡ true → SameEntry old new → new.publishers ≡ old.publishers → new.seats ≡ old.seats
    → new.leading ≡ other_buffers old.leading
    → IsTable e index clock new (marked_if (takes_over e clock ss) ss)
taken_over e index clock old new ss is due alike publishers seats leading =
    subst (λ (b : Bool). IsTable e index clock new (marked_if b ss)) (sym due)
    (table_stands e index clock clock old new ss (map (marked ss) ss) is is.early alike
    (subst (λ (v : _). AreWide e.buffer v.items) (sym publishers) is.publishers_wide)
    (ap (λ (v : _). length v.items) seats)
    (subst (λ (v : _). AreSeats e index clock new.publishers.items v.items (map (marked ss) ss)) (sym seats)
    (subst (λ (v : _). AreSeats e index clock v.items old.seats.items (map (marked ss) ss)) (sym publishers) kept.seats_are))
    (alone_kept (marked ss) (marks ss) e.sessions ss is.alone)
    (subst (λ (v : _). ArePublishers new.leading v.items (map (marked ss) ss)) (sym seats)
    (record { apart = apart; leading_is_active = leads })))
  where
    kept : HasSeats (marked ss) e index clock old old ss
    kept = seats_kept (marked ss) (marks ss) e index clock clock old old ss is refl
        (λ at d p below.
        marked_seat e index clock at (buffers_of old.publishers.items (get_or old.seats.items at d) p) (get_or old.seats.items at d) ss
        (is.seats_are at d p below))

    both : IsTakeOver ss
    both = take_over_is e clock ss due

    was : (at : ℕ) (t : Session) → IsPublishing (map (marked ss) ss) at t → (s : Session) × IsPublishing ss at s × (marked ss s ≡ t)
    was at t one =
        let from = changed_from (marked ss) (marks ss) at e.sessions ss is.alone t one.found in
        (from.0, record { found = from.1; publishes = sym (marked_publishes ss from.0) ∙ (ap is_publisher from.3 ∙ one.publishes) }, from.3)

    apart : (at k : ℕ) (d : Seat) (s t : Session) → IsPublishing (map (marked ss) ss) at s → IsPublishing (map (marked ss) ss) k t
        → used_buffers (get_or old.seats.items at d) ≡ used_buffers (get_or old.seats.items k d) → at ≡ k
    apart at k d s t one other same = is.publishers_are.apart at k d (was at s one).0 (was k t other).0 (was at s one).1 (was k t other).1 same

    leads : (at : ℕ) (d : Seat) (s : Session) → IsPublishing (map (marked ss) ss) at s
        → used_buffers (get_or old.seats.items at d) ≡ new.leading → active (map (marked ss) ss) ≡ Some s
    leads at d s one uses =
        let a = was at s one in
        let t = both.standing in
        let there = stands_there e.sessions ss t is.alone both.standby_is in
        let place = is.publishers_are.apart at t.slot d a.0 t a.1 there.here
        (uses ∙ (leading ∙ sym (uses_other e index clock old ss t.slot d t is there.here there.not_active))) in
        let same : a.0 ≡ t = one_there ss at t.slot a.0 t a.1.found there.here.found place in
        standby_leads ss t both.standby_is ∙ ap (λ (u : Session). Some u) (ap (marked ss) (sym same) ∙ a.2)
