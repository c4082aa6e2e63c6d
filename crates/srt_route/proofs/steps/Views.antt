-- The snapshot of a slot is that of its open session.
use Rattle.std.proofs.Common.{is_some, ◌≡◌, ℕ, ◌<◌, ◌≤◌, Bool, true, false, cond, ◌&&◌, Option, None, Some, List, length}
use Rattle.std.proofs.Common.{find, get_or, refl, sym, ap, subst, ◌∙◌, arith}
use Rattle.std.specs.List.{list_any}
use Rattle.std.proofs.lemmas.Bool.{eq-eqb, ne_eqb}
use Rattle.std.proofs.lemmas.List.{get_or_default}
use Rattle.srt_types.specs.declared.shared.Role.{Role}
use Rattle.srt_types.specs.Terms.{Terms}
use Rattle.srt_pub.specs.Publishing.{Publishing, Terms as PublisherTerms}
use Rattle.srt_pub.specs.Stands as publisher
use Rattle.srt_pub.specs.Viewing as publisher_view
use Rattle.srt_pub.specs.declared.session.Publisher.{Publisher}
use Rattle.srt_pub.specs.declared.statistics.Statistics.{Statistics as PublisherStatistics}
use Rattle.srt_sub.specs.Subscribing.{Subscribing, Terms as SubscriberTerms}
use Rattle.srt_sub.specs.Stands as subscriber
use Rattle.srt_sub.specs.Viewing as subscriber_view
use Rattle.srt_sub.specs.declared.session.Subscriber.{Subscriber}
use Rattle.srt_sub.specs.declared.statistics.Statistics.{Statistics as SubscriberStatistics}
use Rattle.srt_route.specs.Past.{Past, Publishes, Subscribes}
use Rattle.srt_route.specs.Sessions.{Session, has_slot, is_active, is_open_in, publishes, terms_of, answer_of}
use Rattle.srt_route.specs.Buffers.{IsPast, IsSeated}
use Rattle.srt_route.specs.declared.publisher_buffers.PublisherBuffers.{PublisherBuffers}
use Rattle.srt_route.specs.Parts.{buffers_used, role_of}
use Rattle.srt_route.specs.PublisherBuffers.{place_of, is_same, other_buffers}
use Rattle.srt_route.specs.Tables.{IsSeat, IsSession, IsStored, IsTable, IsPublishing, buffers_of, buffers_by, publishes_from, used_buffers}
use Rattle.srt_route.specs.inside.Notes.{IsSeen, Sees, SeesSeat}
use Rattle.srt_route.specs.inside.Standby.{active_in, is_active_by, HasActive, HasNone, IsActiveOf, NonePublishes}
use Rattle.srt_route.specs.Viewing.{IsTraffic, IsView, Shows, ShowsSession, latency_in, latency_of}
use Rattle.srt_route.specs.declared.seat.Session.{Session as TheSession}
use Rattle.srt_route.specs.declared.seat.Seat.{Seat}
use Rattle.srt_route.specs.declared.table.Table.{Table}
use Rattle.srt_route.specs.declared.view.SessionView.{SessionView}
use Rattle.srt_route.specs.declared.view.Traffic.TheVariants.{Received, Sent}
use Rattle.srt_route.proofs.model.Found.{found_passes, open_parts}
use Rattle.srt_route.proofs.stored.Kept.{below_seats, some_buffers}
use Rattle.srt_route.proofs.stored.Publishers.{below_two}
use Rattle.srt_route.proofs.stored.TwoBuffers.{is_same_from, same_is}
use Rattle.srt_route.proofs.steps.Delivered.{leading_active, none_publishes, other_active}
use Rattle.srt_route.proofs.steps.Saying.{some_same}

-- the counts of a publisher's buffers, and of a subscriber's
pub notified_publisher : (e : Terms) (clock : ℕ) (p : Publisher) (x : Subscriber) (s : Session) (v : PublisherStatistics) (q : Past)
    → IsPast e clock p x s q → publishes s.conclusion.role ≡ true
    → ((terms : PublisherTerms) (initial opening stamp caller : ℕ) (m : Publishing)
    → publisher.StandsFor terms initial opening stamp caller p m → publisher_view.AreStatistics terms m v)
    → IsTraffic (terms_of e s) q (Received v)
notified_publisher e clock p x s v (Publishes m) h role look = look (terms_of e s).publisher s.conclusion.initial s.opening s.stamp s.conclusion.caller m h.1
notified_publisher e clock p x s v (Subscribes m) h role look = absurd (let bad : true ≡ false = sym role ∙ h.0 in cc)

pub notified_subscriber : (e : Terms) (clock : ℕ) (p : Publisher) (x : Subscriber) (s : Session) (v : SubscriberStatistics) (q : Past)
    → IsPast e clock p x s q → publishes s.conclusion.role ≡ false
    → ((terms : SubscriberTerms) (initial opening caller last : ℕ) (m : Subscribing)
    → subscriber.StandsFor terms initial opening caller last x m → subscriber_view.AreStatistics terms m v)
    → IsTraffic (terms_of e s) q (Sent v)
notified_subscriber e clock p x s v (Subscribes m) h role look = look (terms_of e s).subscriber s.conclusion.initial s.opening s.conclusion.caller clock m h.1
notified_subscriber e clock p x s v (Publishes m) h role look = absurd (let bad : true ≡ false = sym h.0 ∙ role in cc)

-- the flag of the active publisher
active_by : (e : Terms) (index clock : ℕ) (table : Table) (ss : List Session) (at : ℕ) (d : Seat) (s : Session) (t : TheSession)
    (which : PublisherBuffers)
    → IsTable e index clock table ss → IsPublishing ss at s → (get_or table.seats.items at d).session ≡ Some t → HasActive ss table which
    → is_same (buffers_used t.part) which ≡ is_active ss s
active_by e index clock table ss at d s t which is there stored h = by (is_same (buffers_used t.part) which) refl
  where
    uses : used_buffers (get_or table.seats.items at d) ≡ (buffers_used t.part)
    uses = ap buffers_by stored

    here : s.slot ≡ at
    here = (open_parts at s (found_passes (is_open_in at) ss s there.found)).1

    other : h.session.slot ≡ h.at
    other = (open_parts h.at h.session (found_passes (is_open_in h.at) ss h.session h.here.found)).1

    by : (b : Bool) → is_same (buffers_used t.part) which ≡ b → b ≡ is_active ss s
    by true y =
        let publishing : IsPublishing ss h.at h.session = record { found = h.here.found; publishes = h.here.publishes } in
        let place : at ≡ h.at = is.publishers_are.apart at h.at d s h.session there publishing (uses ∙ is_same_from (buffers_used t.part) which y ∙ h.uses d) in
        let slots : h.session.slot ≡ s.slot = omega (arith, place, here, other) in
        sym (ap (λ (o : Option Session). has_slot o s.slot) h.active_is ∙ eq-eqb h.session.slot s.slot slots)
    by false n =
        sym (ap (λ (o : Option Session). has_slot o s.slot) h.active_is ∙ ne_eqb h.session.slot s.slot (λ slots.
        let place : h.at ≡ at = omega (arith, slots, here, other) in
        let both : which ≡ (buffers_used t.part) = h.uses d ∙ ap (λ (k : ℕ). used_buffers (get_or table.seats.items k d)) place ∙ uses in
        let bad : false ≡ true = sym n ∙ same_is (buffers_used t.part) which (sym both) in cc))

first_false : (a b : Bool) → a ≡ false → false ≡ (a && b)
first_false a b e = rw e refl

both_flags : (a b c : Bool) → (a ≡ true → b ≡ c) → (a && b) ≡ (a && c)
both_flags true b c e = e refl
both_flags false b c e = refl

pub active_is : (e : Terms) (index clock : ℕ) (table : Table) (ss : List Session) (at : ℕ) (d : Seat) (s : Session) (t : TheSession)
    (o : Option PublisherBuffers)
    → IsTable e index clock table ss → find (is_open_in at) ss ≡ Some s → (get_or table.seats.items at d).session ≡ Some t
    → (role_of t.part) ≡ s.conclusion.role → (o ≡ None → HasNone table) → ((which : PublisherBuffers) → o ≡ Some which → IsActiveOf table which)
    → is_active_by o t ≡ (publishes s.conclusion.role && is_active ss s)
active_is e index clock table ss at d s t o is found stored role none some = by o none some
  where
    opens : s.is_open ≡ true
    opens = (open_parts at s (found_passes (is_open_in at) ss s found)).0

    by : (o : Option PublisherBuffers) → (o ≡ None → HasNone table) → ((which : PublisherBuffers) → o ≡ Some which → IsActiveOf table which)
        → is_active_by o t ≡ (publishes s.conclusion.role && is_active ss s)
    by None none some =
        let not_it : (s.is_open && publishes s.conclusion.role) ≡ false = none refl e index clock ss is at s found in
        let silent : publishes s.conclusion.role ≡ false = rw opens at not_it in
        first_false (publishes s.conclusion.role) (is_active ss s) silent
    by (Some which) none some =
        ap (λ (r : Role). publishes r && is_same (buffers_used t.part) which) role
        ∙ both_flags (publishes s.conclusion.role) (is_same (buffers_used t.part) which) (is_active ss s) (λ it_does.
        active_by e index clock table ss at d s t which is (record { found = found; publishes = rw (opens, it_does) refl }) stored
        (some which refl e index clock ss is))

-- the latency
latency_is : (e : Terms) (index : ℕ) (s : Session) (r : Role) → latency_in r (answer_of e index s) ≡ latency_of r e s
latency_is e index s r = refl

-- no session is open past the last slot
pub none_past : (e : Terms) (index clock : ℕ) (table : Table) (ss : List Session) (slot : ℕ)
    → IsTable e index clock table ss → length table.seats.items ≤ slot → ShowsSession e index slot ss None
none_past e index clock table ss slot is past = by (find (is_open_in slot) ss) refl
  where
    by : (o : Option Session) → find (is_open_in slot) ss ≡ o → Shows e index ss o None
    by None found = tt
    by (Some s) found = absurd (omega (arith, past, below_seats e index clock table ss slot s is found))

-- the buffers of the active publisher
pub active_none : (table : Table) → active_in table ≡ None → HasNone table
active_none table h e index clock ss is =
    by (list_any (publishes_from table.leading) table.seats.items) (list_any (publishes_from (other_buffers table.leading)) table.seats.items) refl refl h
  where
    by : (a b : Bool) → list_any (publishes_from table.leading) table.seats.items ≡ a
        → list_any (publishes_from (other_buffers table.leading)) table.seats.items ≡ b
        → cond a (Some table.leading) (cond b (Some (other_buffers table.leading)) None) ≡ None → NonePublishes ss
    by true b first second k = absurd (let bad : Some table.leading ≡ None = k in cc)
    by false true first second k = absurd (let bad : Some (other_buffers table.leading) ≡ None = k in cc)
    by false false first second k = none_publishes e index clock table ss is first second

pub active_some : (table : Table) (which : PublisherBuffers) → active_in table ≡ Some which → IsActiveOf table which
active_some table which h e index clock ss is =
    by (list_any (publishes_from table.leading) table.seats.items) (list_any (publishes_from (other_buffers table.leading)) table.seats.items) refl refl h
  where
    by : (a b : Bool) → list_any (publishes_from table.leading) table.seats.items ≡ a
        → list_any (publishes_from (other_buffers table.leading)) table.seats.items ≡ b
        → cond a (Some table.leading) (cond b (Some (other_buffers table.leading)) None) ≡ Some which → HasActive ss table which
    by true b first second k =
        subst (λ (b : PublisherBuffers). HasActive ss table b) (some_same table.leading which k) (leading_active e index clock table ss is first)
    by false true first second k =
        subst (λ (b : PublisherBuffers). HasActive ss table b) (some_same (other_buffers table.leading) which k)
        (other_active e index clock table ss is first second)
    by false false first second k = absurd (let bad : None ≡ Some which = k in cc)

-- whether the session of a slot is the active publisher's
pub active_stored : (e : Terms) (index clock : ℕ) (table : Table) (ss : List Session) (at : ℕ) (d : Seat) (s : Session) (t : TheSession)
    → IsTable e index clock table ss → find (is_open_in at) ss ≡ Some s → (get_or table.seats.items at d).session ≡ Some t
    → (role_of t.part) ≡ s.conclusion.role
    → is_active_by (active_in table) t ≡ (publishes s.conclusion.role && is_active ss s)
active_stored e index clock table ss at d s t is found stored role =
    active_is e index clock table ss at d s t (active_in table) is found stored role (active_none table) (active_some table)

-- the snapshot of a seat's session
pub one_seen : (active : Option PublisherBuffers) (publishers : List Publisher) (seats : List Seat) (slot : ℕ) (x d : Seat) (p : Publisher)
    (t : TheSession) (v : SessionView)
    → length publishers ≡ 2 → slot < length seats → x ≡ get_or seats slot x → x.session ≡ Some t
    → p ≡ get_or publishers (place_of (buffers_used t.part)) p → IsSeen active p x.subscriber t t.heard v
    → SeesSeat active publishers (get_or seats slot d) (Some v)
one_seen active publishers seats slot x d p t v two below there stored buffers seen =
    subst (λ (z : Seat). SeesSeat active publishers z (Some v)) (there ∙ get_or_default seats slot x d below)
    (subst (λ (o : Option TheSession). Sees active publishers x o (Some v)) (sym stored)
    (λ q. subst (λ (y : Publisher). IsSeen active y x.subscriber t t.heard v) (same q) seen))
  where
    same : (q : Publisher) → p ≡ buffers_of publishers x q
    same q =
        buffers ∙ get_or_default publishers (place_of (buffers_used t.part)) p q (omega (arith, two, below_two (buffers_used t.part)))
        ∙ ap (λ (b : PublisherBuffers). get_or publishers (place_of b) q) (sym (ap buffers_by stored))

pub none_seen : (active : Option PublisherBuffers) (publishers : List Publisher) (seats : List Seat) (slot : ℕ) (x d : Seat)
    → slot < length seats → x ≡ get_or seats slot x → x.session ≡ None → SeesSeat active publishers (get_or seats slot d) None
none_seen active publishers seats slot x d below there stored =
    subst (λ (z : Seat). SeesSeat active publishers z None) (there ∙ get_or_default seats slot x d below)
    (subst (λ (o : Option TheSession). Sees active publishers x o None) (sym stored) tt)

-- a snapshot of a stored session is one of the session that it represents, with the past that its buffers represent
pub seen_is : (e : Terms) (index clock : ℕ) (ss : List Session) (active : Option PublisherBuffers) (p : Publisher) (x : Subscriber) (t : TheSession)
    (s : Session) (q : Past) (heard later : ℕ) (v : SessionView)
    → IsSession e index t s → is_active_by active t ≡ (publishes s.conclusion.role && is_active ss s)
    → IsSeated e clock p x (record s { past = q }) → heard ≡ later → IsSeen active p x t heard v
    → IsView e index ss (record s { heard = later; past = q }) v
seen_is e index clock ss active p x t s q heard later v is flag seated same seen =
    record {
      peer_is = seen.peer_is ∙ is.peer_is;
      caller_is = seen.caller_is ∙ is.caller_is;
      id_is = seen.id_is ∙ is.id_is;
      role_is = seen.role_is ∙ is.role_is;
      active_is = seen.active_is ∙ flag;
      draining_is = seen.draining_is ∙ ap (λ (d : Option ℕ). is_some d) is.drains_is;
      opened_is = seen.opened_is ∙ is.opened_is;
      heard_is = seen.heard_is ∙ same;
      latency_is = seen.latency_is ∙ ap (latency_in (role_of t.part)) is.answer_is ∙ ap (λ (r : Role). latency_in r (answer_of e index s)) is.role_is
          ∙ latency_is e index s s.conclusion.role;
      traffic_is = seen.traffic_is e clock (record s { past = q }) is.role_is seated;
    }

-- the snapshot of a slot
pub slot_shown : (e : Terms) (index clock : ℕ) (table : Table) (ss : List Session) (slot : ℕ) (d : Seat) (shown : Option SessionView)
    → IsTable e index clock table ss → slot < length table.seats.items
    → SeesSeat (active_in table) table.publishers.items (get_or table.seats.items slot d) shown → ShowsSession e index slot ss shown
slot_shown e index clock table ss slot d shown is below seen =
    by (get_or table.seats.items slot d).session (find (is_open_in slot) ss) shown refl refl seat.session_is seen
  where
    p : Publisher
    p = buffers_of table.publishers.items (get_or table.seats.items slot d) (some_buffers table)

    seat : IsSeat e index clock slot p (get_or table.seats.items slot d) ss
    seat = is.seats_are slot d (some_buffers table) below

    by : (o : Option TheSession) (f : Option Session) (v : Option SessionView) → (get_or table.seats.items slot d).session ≡ o
        → find (is_open_in slot) ss ≡ f → IsStored e index o f
        → Sees (active_in table) table.publishers.items (get_or table.seats.items slot d) o v → Shows e index ss f v
    by None None None here found stored k = tt
    by None None (Some v) here found stored k = k
    by None (Some s) v here found stored k = absurd stored
    by (Some t) None v here found stored k = absurd stored
    by (Some t) (Some s) None here found stored k = k
    by (Some t) (Some s) (Some v) here found stored k =
        seen_is e index clock ss (active_in table) p (get_or table.seats.items slot d).subscriber t s s.past t.heard s.heard v stored
        (active_stored e index clock table ss slot d s t is found here stored.role_is) (seat.seated s found) stored.heard_is (k (some_buffers table))
