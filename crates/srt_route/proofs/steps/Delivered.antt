-- The deliveries of the active publisher and of a standby.
use Rattle.std.proofs.Common.{◌≡◌, ◌≢◌, ℕ, ◌==◌, Bool, true, false, cond, Option, None, Some, List, [], map, find, get_or, unwrap_or}
use Rattle.std.proofs.Common.{inl, inr, refl, sym, ap, subst, ◌∙◌}
use Rattle.std.specs.Prelude.{◌&&◌, filter_map}
use Rattle.std.specs.List.{list_any}
use Rattle.std.proofs.lemmas.Bool.{cases_eq, cases_Bool, and_parts, eq-eqb, eqb-true, false_from_ne_true}
use Rattle.std.proofs.lemmas.List.{get_or_default}
use Rattle.srt_types.specs.declared.shared.Mode.{Mode}
use Rattle.srt_types.specs.declared.shared.Mode.TheVariants.{Live, Buffer}
use Rattle.srt_types.specs.Runs.{numbers_from}
use Rattle.srt_types.specs.Terms.{Terms}
use Rattle.srt_recvbuf.specs.Receiving.{Arrival, passed}
use Rattle.srt_pub.specs.Publishing as publishing
use Rattle.srt_pub.specs.Publishing.{Publishing, deliveries}
use Rattle.srt_pub.specs.Calls.{gives, leaves}
use Rattle.srt_pub.specs.Laws.{DeliversOneByOne}
use Rattle.srt_pub.specs.Stands as publishers
use Rattle.srt_pub.specs.declared.session.Publisher.{Publisher}
use Rattle.srt_pub.proofs.Calling.{delivers}
use Rattle.srt_pub.proofs.Windows.{beyond}
use Rattle.srt_sub.specs.Subscribing as subscribing
use Rattle.srt_sub.specs.declared.session.Subscriber.{Subscriber}
use Rattle.srt_route.specs.declared.seat.Seat.{Seat}
use Rattle.srt_route.specs.declared.table.Table.{Table}
use Rattle.srt_route.specs.Past.{Past, Publishes, Subscribes, Agreed, payload_of, passed_past, payloads_of}
use Rattle.srt_route.specs.Sessions.{Session, is_open_in, is_publisher, publishes, active, has_slot, is_active, terms_of, time_in, payloads}
use Rattle.srt_route.specs.Route.{least_room, delivery, delivery_of, room_if, delivered}
use Rattle.srt_route.specs.Buffers.{IsPast}
use Rattle.srt_route.specs.declared.publisher_buffers.PublisherBuffers.{PublisherBuffers}
use Rattle.srt_route.specs.PublisherBuffers.{place_of, other_buffers}
use Rattle.srt_route.specs.Tables.{IsTable, IsPublishing, used_buffers, publishes_from}
use Rattle.srt_route.specs.inside.Delivery.{PublisherStands, IsPublisherOf, changed, amid, amid_past, passed_on, IsPublisherAt}
use Rattle.srt_route.specs.inside.Standby.{stood_past, stood_by, NonePublishes, HasActive}
use Rattle.srt_route.proofs.model.Changes.{is_there}
use Rattle.srt_route.proofs.stored.Publishers.{below_two, found_from, uses_others, alone_is_active}
use Rattle.srt_route.proofs.stored.Kept.{below_seats, some_buffers}
use Rattle.srt_route.proofs.stored.Stored.{alone_apart, some_item}
use Rattle.srt_route.proofs.stored.TwoBuffers.{same_from_not_other, other_twice, never_other}
use Rattle.srt_route.proofs.model.TakeOver.{active_in_slot, active_publishes}
use Rattle.srt_route.proofs.steps.Passing.{IsTurned, same_everywhere, compose_all, publisher_is, publishing_at, seat_of, unchanged, the_one}
use Rattle.srt_route.proofs.steps.Passing.{slot_is, slot_is_not, amid_here, amid_elsewhere, gone_on}

-- the sessions of a range of slots
abbrev pub from_places : List Session → (from count : ℕ) → List Session
from_places ss from count = filter_map (λ slot. find (is_open_in slot) ss) (numbers_from from count)

-- the room matters in buffer mode only, and without a subscriber nothing is delivered there
same_deliveries : (mode : Mode) (terms : publishing.Terms) (time places : ℕ) (found : Option ℕ) (q : Publishing)
    → (mode ≡ Buffer → places ≡ unwrap_or found 0) → deliveries mode terms time (Some places) q ≡ deliveries mode terms time found q
unfolding deliveries
same_deliveries Live terms time places found q places_are = refl
same_deliveries Buffer terms time places None q places_are = ap (λ (n : ℕ). deliveries Buffer terms time (Some n) q) (places_are refl)
same_deliveries Buffer terms time places (Some room) q places_are = ap (λ (n : ℕ). deliveries Buffer terms time (Some n) q) (places_are refl)

pub same_delivered : (terms : publishing.Terms) (time places : ℕ) (found : Option ℕ) (q : Publishing)
    → (terms.mode ≡ Buffer → places ≡ unwrap_or found 0)
    → publishing.delivered terms time (Some places) q ≡ publishing.delivered terms time found q
same_delivered terms time places found q places_are =
    ap (λ (arrivals : List Arrival). record q { receiving = passed terms.width arrivals q.receiving })
    (same_deliveries terms.mode terms time places found q places_are)

-- the calls of a publisher's buffers deliver what the definition of an event delivers
pub one_by_one : (terms : publishing.Terms) (initial opening stamp caller : ℕ) (p : Publisher) (q : Publishing)
    → publishers.StandsFor terms initial opening stamp caller p q → DeliversOneByOne terms q
one_by_one terms initial opening stamp caller p q h =
    delivers terms q (record { orderly = h.orderly; beyond = beyond terms.width initial opening p.buffer q.receiving h.buffer })

-- the sessions once everything is delivered
pub passed_on_is : (e : Terms) (index clock : ℕ) (table : Table) (ss : List Session) (at : ℕ) (s : Session) (q : Publishing) (which : PublisherBuffers)
    (places : ℕ)
    → IsPublisherOf e index clock table ss at s q which
    → (e.mode ≡ Buffer → places ≡ unwrap_or (least_room e ss) 0)
    → map
    (changed (amid e clock at (leaves (terms_of e s).publisher (time_in s clock) places 64 q)
    (map payload_of (gives (terms_of e s).publisher (time_in s clock) places 64 q))))
    ss
    ≡ passed_on e clock at (least_room e ss) s q ss
passed_on_is e index clock table ss at s q which places its places_is =
    ap (λ (left : Publishing). map (changed (amid e clock at left (map payload_of (gives terms time places 64 q)))) ss) left_is
    ∙ ap (λ (given : List (List ℕ)). map (changed (amid e clock at (publishing.delivered terms time (least_room e ss) q) given)) ss) given_is
  where
    terms : publishing.Terms
    terms = (terms_of e s).publisher

    time : ℕ
    time = time_in s clock

    p : Publisher
    p = get_or table.publishers.items (place_of which) (some_buffers table)

    law : (gives terms time places 64 q ≡ deliveries terms.mode terms time (Some places) q) ×
        (leaves terms time places 64 q ≡ publishing.delivered terms time (Some places) q)
    law =
        let is = publisher_is e index clock table ss at s q which p its
        (get_or_default table.publishers.items (place_of which) (some_buffers table) p
        (below_two which table.publishers.items table.two)) in
        one_by_one terms s.conclusion.initial s.opening s.stamp s.conclusion.caller p q is.stands time places

    left_is : leaves terms time places 64 q ≡ publishing.delivered terms time (least_room e ss) q
    left_is = law.1 ∙ same_delivered terms time places (least_room e ss) q places_is

    given_is : map payload_of (gives terms time places 64 q) ≡ payloads e clock (least_room e ss) s
    given_is =
        ap (λ (arrivals : List Arrival). map payload_of arrivals) (law.0 ∙ same_deliveries terms.mode terms time places (least_room e ss) q places_is)
        ∙ sym (ap (payloads_of (terms_of e s) time (least_room e ss)) its.here.past_is)

-- a publisher delivers to nobody with no room
pub stood : (terms : publishing.Terms) (initial opening stamp caller time : ℕ) (p : Publisher) (q : Publishing)
    → publishers.StandsFor terms initial opening stamp caller p q → leaves terms time 0 64 q ≡ publishing.delivered terms time None q
stood terms initial opening stamp caller time p q h =
    (one_by_one terms initial opening stamp caller p q h time 0).1 ∙ same_delivered terms time 0 None q (λ buffer. refl)

-- a seat of the table
a_seat : (e : Terms) (index clock : ℕ) (table : Table) (ss : List Session) (at : ℕ) (s : Session)
    → IsTable e index clock table ss → find (is_open_in at) ss ≡ Some s → Seat
a_seat e index clock table ss at s body is = some_item table.seats.items at (below_seats e index clock table ss at s body is)

-- the role of a session by its past
pub past_publishes : (e : Terms) (index clock : ℕ) (table : Table) (ss : List Session) (k : ℕ) (t : Session) (m : Publishing)
    → IsTable e index clock table ss → find (is_open_in k) ss ≡ Some t → t.past ≡ Publishes m → IsPublishing ss k t
past_publishes e index clock table ss k t m body is past =
    let seat = seat_of e index clock table ss body k t is in
    let role : IsPast e clock seat.0 seat.1 t (Publishes m) = subst (λ (o : Past). IsPast e clock seat.0 seat.1 t o) past seat.2.past_is in
    record { found = is; publishes = ap (λ (b : Bool). b && publishes t.conclusion.role) (is_there k ss t is).0 ∙ role.0 }

pub has_past : (e : Terms) (index clock : ℕ) (table : Table) (ss : List Session) (k : ℕ) (t : Session)
    → IsTable e index clock table ss → IsPublishing ss k t → (m : Publishing) × IsPublisherAt ss k t m
has_past e index clock table ss k t body here = let seat = seat_of e index clock table ss body k t here.found in by t.past refl seat.0 seat.1 seat.2.past_is
  where
    by : (past : Past) → t.past ≡ past → (p : Publisher) (x : Subscriber) → IsPast e clock p x t past → (m : Publishing) × IsPublisherAt ss k t m
    by (Publishes m) same p x h = (m, record { found = here.found; publishes = here.publishes; past_is = same })
    by (Subscribes m) same p x h =
        let yes : publishes t.conclusion.role ≡ true = (and_parts t.is_open (publishes t.conclusion.role) here.publishes).1 in
        absurd (let bad : true ≡ false = sym yes ∙ h.0 in cc)

-- the standby has delivered
pub standby_gone : (e : Terms) (index clock : ℕ) (table later : Table) (ss : List Session) (at k : ℕ) (s t : Session) (q m : Publishing)
    (active which : PublisherBuffers) (p : Publisher)
    → which ≡ other_buffers active → IsPublisherOf e index clock table ss at s q active → IsPublisherOf e index clock table ss k t m which
    → IsTurned table later which p
    → PublisherStands e p t
    (publishing.delivered (terms_of e t).publisher (time_in t clock) None m)
    → IsTable e index clock later (map (changed (stood_by e clock at)) ss)
standby_gone e index clock table later ss at k s t q m active which p which_is its other turned stands =
    subst (λ (ts : List Session). IsTable e index clock later ts)
    (same_everywhere (amid e clock k r []) (stood_by e clock at) e.sessions ss its.body.alone (λ j u is. by j u is u.past refl))
    (gone_on e index clock table later ss k t m r which p other turned stands)
  where
    r : Publishing
    r = publishing.delivered (terms_of e t).publisher (time_in t clock) None m

    apart : k ≢ at
    apart same =
        let d = a_seat e index clock table ss at s its.body its.here.found in
        never_other active (its.uses d ∙ (sym (ap (λ (n : ℕ). used_buffers (get_or table.seats.items n d)) same) ∙ (sym (other.uses d) ∙ which_is)))

    stays : (u : Session) (mine : Bool) → u.slot == at ≡ mine → (past : Past) → u.past ≡ past
        → stood_by e clock at u ≡ stood_past (terms_of e u) (time_in u clock) mine past
    stays u mine test past is = ap (λ (b : Bool). stood_past (terms_of e u) (time_in u clock) b u.past) test
        ∙ ap (stood_past (terms_of e u) (time_in u clock) mine) is

    by : (j : ℕ) (u : Session) → find (is_open_in j) ss ≡ Some u → (past : Past) → u.past ≡ past → amid e clock k r [] u ≡ stood_by e clock at u
    by j u is (Subscribes n) past = ap (amid_past (terms_of e u) (time_in u clock) (u.slot == k) r []) past
        ∙ sym (ap (stood_past (terms_of e u) (time_in u clock) (u.slot == at)) past)
    by j u is (Publishes n) past = elim (cases_eq j k) [
      | inl place ↦
          let one : u ≡ t = the_one ss k j t u other.here.found is place in
          let mine : u.past ≡ Publishes m = ap (λ (v : Session). v.past) one ∙ other.here.past_is in
          amid_here e clock k r m [] u (slot_is ss k j u is place) mine
          ∙ (ap (λ (v : Session). Publishes (publishing.delivered (terms_of e v).publisher (time_in v clock) None m)) (sym one)
          ∙ sym (stays u false (slot_is_not ss at j u is (λ same. apart (sym place ∙ same))) (Publishes m) mine))
      | inr elsewhere ↦
          let publishing : IsPublishing ss j u = past_publishes e index clock table ss j u n its.body is past in
          let d = a_seat e index clock table ss at s its.body its.here.found in
          let flag : used_buffers (get_or table.seats.items j d) ≡ active = same_from_not_other active (used_buffers (get_or table.seats.items j d))
          (λ same.
          elsewhere (its.body.publishers_are.apart j k d u t publishing (publishing_at ss k t m other.here) (same ∙ (sym which_is ∙ other.uses d)))) in
          let place : j ≡ at = its.body.publishers_are.apart j at d u s publishing (publishing_at ss at s q its.here) (flag ∙ its.uses d) in
          amid_elsewhere e clock k r u (slot_is_not ss k j u is elsewhere) ∙ (past ∙ sym (stays u true (slot_is ss at j u is place) (Publishes n) past))
    ]

-- there is no standby
pub none_stands_by : (e : Terms) (index clock : ℕ) (table : Table) (ss : List Session) (at : ℕ) (s : Session) (q : Publishing)
    (active : PublisherBuffers)
    → IsPublisherOf e index clock table ss at s q active
    → list_any (publishes_from (other_buffers active)) table.seats.items ≡ false
    → map (changed (stood_by e clock at)) ss ≡ ss
none_stands_by e index clock table ss at s q active its none =
    same_everywhere (stood_by e clock at) (λ t. t.past) e.sessions ss its.body.alone (λ j u is. by j u is u.past refl) ∙ unchanged ss
  where
    by : (j : ℕ) (u : Session) → find (is_open_in j) ss ≡ Some u → (past : Past) → u.past ≡ past → stood_by e clock at u ≡ u.past
    by j u is (Subscribes n) past = ap (stood_past (terms_of e u) (time_in u clock) (u.slot == at)) past ∙ sym past
    by j u is (Publishes n) past =
        let publishing : IsPublishing ss j u = past_publishes e index clock table ss j u n its.body is past in
        let d = a_seat e index clock table ss at s its.body its.here.found in
        let flag : used_buffers (get_or table.seats.items j d) ≡ active =
        uses_others e index clock table ss (other_buffers active) j d u its.body none publishing ∙ other_twice active in
        let place : j ≡ at = its.body.publishers_are.apart j at d u s publishing (publishing_at ss at s q its.here) (flag ∙ its.uses d) in
        ap (λ (b : Bool). stood_past (terms_of e u) (time_in u clock) b u.past) (slot_is ss at j u is place)
        ∙ (ap (stood_past (terms_of e u) (time_in u clock) true) past ∙ sym past)

-- the sessions after both are those after the delivery
abbrev both_past : Agreed → (time : ℕ) → (mine : Bool) → Publishing → List (List ℕ) → Past → Past
both_past terms time mine q given (Publishes p) = Publishes (cond mine q (publishing.delivered terms.publisher time None p))
both_past terms time mine q given (Subscribes m) = Subscribes (subscribing.fed_all terms.subscriber time given m)

passed_and_stood : (terms : Agreed) (time : ℕ) (mine : Bool) (q : Publishing) (given : List (List ℕ)) (past : Past)
    → stood_past terms time mine (amid_past terms time mine q given past) ≡ both_past terms time mine q given past
passed_and_stood terms time true q given (Publishes p) = refl
passed_and_stood terms time false q given (Publishes p) = refl
passed_and_stood terms time mine q given (Subscribes m) = refl

pub delivered_is : (e : Terms) (index clock : ℕ) (table : Table) (ss : List Session) (at : ℕ) (s : Session) (q : Publishing)
    → IsTable e index clock table ss → IsPublisherAt ss at s q → active ss ≡ Some s
    → map (changed (stood_by e clock at)) (passed_on e clock at (least_room e ss) s q ss) ≡ delivered e clock ss
delivered_is e index clock table ss at s q body here is_active_one =
    compose_all (stood_by e clock at) (amid e clock at left given) both
    (λ t. passed_and_stood (terms_of e t) (time_in t clock) (t.slot == at) left given t.past) ss
    ∙ same_everywhere both (λ t. passed_past (terms_of e t) (time_in t clock) (room_if (is_active ss t) room) all t.past) e.sessions ss
    body.alone (λ k t is. by k t is t.past refl)
  where
    room : Option ℕ
    room = least_room e ss

    left : Publishing
    left = publishing.delivered (terms_of e s).publisher (time_in s clock) (least_room e ss) q

    given : List (List ℕ)
    given = payloads e clock (least_room e ss) s

    all : List (List ℕ)
    all = delivery e clock (least_room e ss) ss

    all_is : payloads e clock (least_room e ss) s ≡ delivery e clock (least_room e ss) ss
    all_is = ap (λ (o : Option Session). delivery_of e clock (least_room e ss) o) (sym is_active_one)

    both : Session → Past
    both t = both_past (terms_of e t) (time_in t clock) (t.slot == at)
        (publishing.delivered (terms_of e s).publisher (time_in s clock) (least_room e ss) q) (payloads e clock (least_room e ss) s) t.past

    tests : (t : Session) (b : Bool) → t.slot == at ≡ b → is_active ss t ≡ b
    tests t b test = ap (λ (o : Option Session). has_slot o t.slot) is_active_one ∙ with_it b test
      where
        with_it : (b : Bool) → t.slot == at ≡ b → s.slot == t.slot ≡ b
        with_it true h = eq-eqb s.slot t.slot ((is_there at ss s here.found).1 ∙ sym (eqb-true t.slot at h))
        with_it false h = false_from_ne_true (s.slot == t.slot)
            (λ same. absurd (let yes : t.slot == at ≡ true =
            eq-eqb t.slot at (sym (eqb-true s.slot t.slot same) ∙ (is_there at ss s here.found).1) in
            let bad : true ≡ false = sym yes ∙ h in
            cc))

    by : (k : ℕ) (t : Session) → find (is_open_in k) ss ≡ Some t → (past : Past) → t.past ≡ past
        → both t
        ≡ passed_past (terms_of e t) (time_in t clock) (room_if (is_active ss t) (least_room e ss)) (delivery e clock (least_room e ss) ss)
        t.past
    by k t is (Subscribes m) past =
        ap (both_past (terms_of e t) (time_in t clock) (t.slot == at) left given) past
        ∙ (ap (λ (xs : List (List ℕ)). passed_past (terms_of e t) (time_in t clock) (room_if (is_active ss t) (least_room e ss)) xs (Subscribes m)) all_is
        ∙ sym (ap (passed_past (terms_of e t) (time_in t clock) (room_if (is_active ss t) (least_room e ss)) (delivery e clock (least_room e ss) ss)) past))
    by k t is (Publishes m) past = elim (cases_eq k at) [
      | inl place ↦
          let one : t ≡ s = the_one ss at k s t here.found is place in
          let mine : t.past ≡ Publishes q = ap (λ (u : Session). u.past) one ∙ here.past_is in
          let test = slot_is ss at k t is place in
          ap (λ (b : Bool). both_past (terms_of e t) (time_in t clock) b left given t.past) test
          ∙ (ap (both_past (terms_of e t) (time_in t clock) true left given) mine
          ∙ (ap (λ (u : Session). Publishes (publishing.delivered (terms_of e u).publisher (time_in u clock) (least_room e ss) q)) (sym one)
          ∙ sym (ap
          (λ (b : Bool).
          passed_past (terms_of e t) (time_in t clock) (room_if b (least_room e ss)) (delivery e clock (least_room e ss) ss) t.past)
          (tests t true test)
          ∙ ap (passed_past (terms_of e t) (time_in t clock) (least_room e ss) (delivery e clock (least_room e ss) ss)) mine)))
      | inr apart ↦
          let test = slot_is_not ss at k t is apart in
          ap (λ (b : Bool). both_past (terms_of e t) (time_in t clock) b left given t.past) test
          ∙ (ap (both_past (terms_of e t) (time_in t clock) false left given) past
          ∙ sym (ap
          (λ (b : Bool).
          passed_past (terms_of e t) (time_in t clock) (room_if b (least_room e ss)) (delivery e clock (least_room e ss) ss) t.past)
          (tests t false test)
          ∙ ap (passed_past (terms_of e t) (time_in t clock) None (delivery e clock (least_room e ss) ss)) past))
    ]

-- without a publisher nothing changes
pub nothing_delivered : (e : Terms) (index clock : ℕ) (table : Table) (ss : List Session)
    → IsTable e index clock table ss → NonePublishes ss → delivered e clock ss ≡ ss
nothing_delivered e index clock table ss body none =
    same_everywhere
    (λ t. passed_past (terms_of e t) (time_in t clock) (room_if (is_active ss t) (least_room e ss)) (delivery e clock (least_room e ss) ss)
    t.past)
    (λ t. t.past) e.sessions ss body.alone (λ k t is. by k t is t.past refl)
    ∙ unchanged ss
  where
    no_active : (o : Option Session) → active ss ≡ o → o ≡ None
    no_active None was = refl
    no_active (Some t) was =
        let there = active_in_slot ss t (alone_apart e.sessions ss body.alone).0 was in
        absurd (let bad : true ≡ false = sym (active_publishes ss t was) ∙ none t.slot t there in cc)

    nothing : delivery e clock (least_room e ss) ss ≡ []
    nothing = ap (λ (o : Option Session). delivery_of e clock (least_room e ss) o) (no_active (active ss) refl)

    by : (k : ℕ) (t : Session) → find (is_open_in k) ss ≡ Some t → (past : Past) → t.past ≡ past
        → passed_past (terms_of e t) (time_in t clock) (room_if (is_active ss t) (least_room e ss)) (delivery e clock (least_room e ss) ss)
        t.past
        ≡ t.past
    by k t is (Publishes m) past =
        absurd (let bad : true ≡ false = sym (past_publishes e index clock table ss k t m body is past).publishes ∙ none k t is in cc)
    by k t is (Subscribes m) past =
        ap (λ (xs : List (List ℕ)). passed_past (terms_of e t) (time_in t clock) (room_if (is_active ss t) (least_room e ss)) xs t.past) nothing
        ∙ (ap (passed_past (terms_of e t) (time_in t clock) (room_if (is_active ss t) (least_room e ss)) []) past ∙ sym past)

-- the active publisher, by the buffers that publishers use
active_from : (e : Terms) (index clock : ℕ) (table : Table) (ss : List Session) (which : PublisherBuffers) → IsTable e index clock table ss
    → list_any (publishes_from which) table.seats.items ≡ true
    → ((k : ℕ) (d : Seat) (t : Session) → IsPublishing ss k t → used_buffers (get_or table.seats.items k d) ≡ which → active ss ≡ Some t)
    → HasActive ss table which
active_from e index clock table ss which body some is_active =
    let it = found_from e index clock table ss which body some in
    let past = has_past e index clock table ss it.at it.session body it.here in
    let d = a_seat e index clock table ss it.at it.session body it.here.found in
    record {
      at = it.at;
      session = it.session;
      past = past.0;
      here = past.1;
      active_is = is_active it.at d it.session it.here (sym (it.uses d));
      uses = it.uses;
    }

pub leading_active : (e : Terms) (index clock : ℕ) (table : Table) (ss : List Session) → IsTable e index clock table ss
    → list_any (publishes_from table.leading) table.seats.items ≡ true
    → HasActive ss table table.leading
leading_active e index clock table ss body some = active_from e index clock table ss table.leading body some body.publishers_are.leading_is_active

pub other_active : (e : Terms) (index clock : ℕ) (table : Table) (ss : List Session) → IsTable e index clock table ss
    → list_any (publishes_from table.leading) table.seats.items ≡ false
    → list_any (publishes_from (other_buffers table.leading)) table.seats.items ≡ true
    → HasActive ss table (other_buffers table.leading)
other_active e index clock table ss body none some =
    active_from e index clock table ss (other_buffers table.leading) body some
    (λ at d s here uses. alone_is_active e index clock table ss at d s body here
    (λ k t other. uses ∙ sym (uses_others e index clock table ss table.leading k d t body none other)))

pub none_publishes : (e : Terms) (index clock : ℕ) (table : Table) (ss : List Session) → IsTable e index clock table ss
    → list_any (publishes_from table.leading) table.seats.items ≡ false
    → list_any (publishes_from (other_buffers table.leading)) table.seats.items ≡ false
    → NonePublishes ss
none_publishes e index clock table ss body none neither at s is = elim (cases_Bool (is_publisher s)) [
  | inl it_does ↦
      let d = a_seat e index clock table ss at s body is in
      let here : IsPublishing ss at s = record { found = is; publishes = it_does } in
      absurd (never_other (other_buffers table.leading)
      (sym (uses_others e index clock table ss table.leading at d s body none here)
      ∙ uses_others e index clock table ss (other_buffers table.leading) at d s body neither here))
  | inr no_one ↦ no_one
]
