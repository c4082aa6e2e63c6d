-- The publisher's payloads, one by one.
use Rattle.std.proofs.Common.{◌≡◌, ◌≢◌, ℕ, ◌+◌, zero, suc, ◌<◌, ◌≤◌, ◌==◌, Bool, true, false, cond, Option, None, Some, List, [], ◌∷◌, ◌++◌}
use Rattle.std.proofs.Common.{length, map, find, get_or, set, inl, inr, refl, sym, ap, subst, ◌∙◌, arith}
use Rattle.std.specs.Option.{is_some, option_map}
use Rattle.std.proofs.lemmas.Bool.{cases_eq, and_parts, eq-eqb, eqb-true, false_from_ne_true}
use Rattle.std.proofs.lemmas.List.{get_or_past}
use Rattle.srt_types.specs.declared.shared.Mode.{Mode}
use Rattle.srt_types.specs.declared.shared.Mode.TheVariants.{Live, Buffer}
use Rattle.srt_types.specs.Terms.{Terms}
use Rattle.srt_recvbuf.specs.Receiving.{Arrival}
use Rattle.srt_sendbuf.specs.Sending.{room}
use Rattle.srt_pub.specs.Publishing as publishing
use Rattle.srt_pub.specs.Publishing.{Publishing, deliveries}
use Rattle.srt_pub.specs.Calls.{first_of, next_delivery, after_delivery}
use Rattle.srt_pub.specs.Stands as publishers
use Rattle.srt_pub.specs.declared.session.Publisher.{Publisher}
use Rattle.srt_sub.specs.Subscribing as subscribing
use Rattle.srt_sub.specs.declared.session.Subscriber.{Subscriber}
use Rattle.srt_route.specs.declared.publisher_buffers.PublisherBuffers.{PublisherBuffers}
use Rattle.srt_route.specs.declared.table.Table.{Table}
use Rattle.srt_route.specs.Past.{Past, Publishes, Subscribes, Agreed}
use Rattle.srt_route.specs.Sessions.{Session, is_open_in, publishes, terms_of, time_in, payloads}
use Rattle.srt_route.specs.Buffers.{IsPast, IsSeated}
use Rattle.srt_route.specs.PublisherBuffers.{place_of}
use Rattle.srt_route.specs.declared.seat.Seat.{Seat}
use Rattle.srt_route.specs.Tables.{AreAlone, IsTable, IsPublishing, AreWide, UseSameBuffers, buffers_of}
use Rattle.srt_route.specs.inside.Delivery.{PublisherStands, IsPublisherOf, changed, amid, amid_past, fed, fed_past, AreFed}
use Rattle.srt_route.specs.inside.Delivery.{AreGiven, IsPublisherAt, HasRoom, HaveRoom, is_given, turned, passed_on}
use Rattle.srt_route.proofs.model.Found.{found_in_place, open_parts, open_from}
use Rattle.srt_route.proofs.model.Changes.{is_there, found_before, find_changed, keeps_changed, marks_changed}
use Rattle.srt_route.proofs.stored.Kept.{Alike, Becomes, EachUpTo, all_done, below_seats, seats_use_the_same, some_buffers, table_kept}
use Rattle.srt_route.proofs.stored.Publishers.{set_here, wide_set, others_stay}
use Rattle.srt_route.proofs.stored.Stored.{some_item}
use Rattle.srt_route.proofs.steps.Feeding.{Changes, Feeds, fed_becomes, seated_with, changed_is, past_becomes}

changed_closed : (s : Session) (g : Session → Past) → s.is_open ≡ false → changed g s ≡ s
changed_closed s g o = ap (λ (b : Bool). cond b (record s { past = g s }) s) o

-- two changes are one
compose : (f g h : Session → Past) (s : Session) → (s.is_open ≡ true → f (record s { past = g s }) ≡ h s) → changed f (changed g s) ≡ changed h s
compose f g h s same = by s.is_open refl
  where
    by : (b : Bool) → s.is_open ≡ b → changed f (changed g s) ≡ changed h s
    by true o =
        ap (changed f) (changed_is s g (g s) o refl)
        ∙ (changed_is (record s { past = g s }) f (h s) o (same o) ∙ sym (changed_is s h (h s) o refl))
    by false o = ap (changed f) (changed_closed s g o) ∙ (changed_closed s f o ∙ sym (changed_closed s h o))

pub compose_all : (f g h : Session → Past)
    → ((s : Session) → f (record s { past = g s }) ≡ h s) → (ss : List Session) → map (changed f) (map (changed g) ss) ≡ map (changed h) ss
compose_all f g h same [] = refl
compose_all f g h same (s ∷ ss) =
    ap (λ (t : Session). t ∷ map (changed f) (map (changed g) ss)) (compose f g h s (λ o. same s))
    ∙ ap (λ (ts : List Session). changed h s ∷ ts) (compose_all f g h same ss)

-- the slot of an open session is below the number of slots
pub inside : (e : Terms) (index clock : ℕ) (table : Table) (ss : List Session)
    → IsTable e index clock table ss → (at : ℕ) (s : Session) → find (is_open_in at) ss ≡ Some s → at < e.sessions
inside e index clock table ss body at s is =
    let there = found_in_place (is_open_in at) (λ t h. (open_parts at t h).0) e.sessions ss body.alone s is in
    omega (arith, there.0, (is_there at ss s is).1)

-- the buffers of a slot's open session
pub seat_of : (e : Terms) (index clock : ℕ) (table : Table) (ss : List Session) → IsTable e index clock table ss → (at : ℕ) (s : Session)
    → find (is_open_in at) ss ≡ Some s
    → (p : Publisher) × (x : Subscriber) × IsSeated e clock p x s
seat_of e index clock table ss body at s is =
    let below : at < length table.seats.items = below_seats e index clock table ss at s body is in
    let x = some_item table.seats.items at below in
    let p = some_buffers table in
    (buffers_of table.publishers.items (get_or table.seats.items at x) p, (get_or table.seats.items at x).subscriber, (body.seats_are at x p below).seated s is)

-- the publisher's buffers represent its session
pub record Publishing_is (e : Terms) (clock : ℕ) (p : Publisher) (s : Session) (q : Publishing) : Type 0 where
  pub stands : PublisherStands e p s q
  pub opened : s.opening ≤ clock
  pub moment : clock ≡ s.opening + time_in s clock

pub publisher_is : (e : Terms) (index clock : ℕ) (table : Table) (ss : List Session) (at : ℕ) (s : Session) (q : Publishing) (which : PublisherBuffers)
    (p : Publisher)
    → IsPublisherOf e index clock table ss at s q which → p ≡ get_or table.publishers.items (place_of which) p
    → Publishing_is e clock p s q
publisher_is e index clock table ss at s q which p its there =
    let below : at < length table.seats.items = below_seats e index clock table ss at s its.body its.here.found in
    let d = some_item table.seats.items at below in
    let same : buffers_of table.publishers.items (get_or table.seats.items at d) p ≡ p =
    ap (λ (b : PublisherBuffers). get_or table.publishers.items (place_of b) p) (sym (its.uses d)) ∙ sym there in
    let seat = subst (λ (z : Publisher). IsSeated e clock z (get_or table.seats.items at d).subscriber s) same
    ((its.body.seats_are at d p below).seated s its.here.found) in
    let past : IsPast e clock p (get_or table.seats.items at d).subscriber s (Publishes q) =
    subst (λ (o : Past). IsPast e clock p (get_or table.seats.items at d).subscriber s o) its.here.past_is seat.past_is in
    record { stands = past.1; opened = seat.opened; moment = omega (arith, seat.opened) }

-- the same by the index of its buffers
pub publisher_at : (e : Terms) (index clock : ℕ) (table : Table) (ss : List Session) (at : ℕ) (s : Session) (q : Publishing) (which : PublisherBuffers)
    (place : ℕ) (p : Publisher)
    → IsPublisherOf e index clock table ss at s q which → place ≡ place_of which
    → p ≡ get_or table.publishers.items place p
    → Publishing_is e clock p s q
publisher_at e index clock table ss at s q which place p its place_is there =
    publisher_is e index clock table ss at s q which p its (subst (λ (n : ℕ). p ≡ get_or table.publishers.items n p) place_is there)

pub publishing_at : (ss : List Session) (at : ℕ) (s : Session) (q : Publishing) → IsPublisherAt ss at s q → IsPublishing ss at s
publishing_at ss at s q here = record { found = here.found; publishes = here.publishes }

-- a slot has one session
pub the_one : (ss : List Session) (at k : ℕ) (s t : Session) → find (is_open_in at) ss ≡ Some s → find (is_open_in k) ss ≡ Some t → k ≡ at → t ≡ s
the_one ss at k s t here is place = let both : Some t ≡ Some s = sym is ∙ (ap (λ (n : ℕ). find (is_open_in n) ss) place ∙ here) in cc

pub slot_is : (ss : List Session) (at k : ℕ) (t : Session) → find (is_open_in k) ss ≡ Some t → k ≡ at → t.slot == at ≡ true
slot_is ss at k t is place = eq-eqb t.slot at ((is_there k ss t is).1 ∙ place)

pub slot_is_not : (ss : List Session) (at k : ℕ) (t : Session) → find (is_open_in k) ss ≡ Some t → k ≢ at → t.slot == at ≡ false
slot_is_not ss at k t is apart = false_from_ne_true (t.slot == at) (λ h. absurd (apart (sym (is_there k ss t is).1 ∙ eqb-true t.slot at h)))

-- a publisher's past amid a delivery, in its slot and elsewhere
pub amid_here : (e : Terms) (clock at : ℕ) (r q : Publishing) (xs : List (List ℕ)) (t : Session)
    → t.slot == at ≡ true → t.past ≡ Publishes q → amid e clock at r xs t ≡ Publishes r
amid_here e clock at r q xs t test past =
    ap (λ (b : Bool). amid_past (terms_of e t) (time_in t clock) b r xs t.past) test ∙ ap (amid_past (terms_of e t) (time_in t clock) true r xs) past

pub amid_elsewhere : (e : Terms) (clock at : ℕ) (r : Publishing) (t : Session) → t.slot == at ≡ false → amid e clock at r [] t ≡ t.past
amid_elsewhere e clock at r t test =
    ap (λ (b : Bool). amid_past (terms_of e t) (time_in t clock) b r [] t.past) test ∙ by (terms_of e t) (time_in t clock) t.past
  where
    by : (terms : Agreed) (time : ℕ) (past : Past) → amid_past terms time false r [] past ≡ past
    by terms time (Publishes p) = refl
    by terms time (Subscribes m) = refl

-- one publisher has delivered
pub record IsTurned (table later : Table) (which : PublisherBuffers) (p : Publisher) : Type 0 where
  pub alike : Alike table later
  pub seats_are : later.seats.items ≡ table.seats.items
  pub publishers_are : later.publishers.items ≡ set table.publishers.items (place_of which) p

pub gone_on : (e : Terms) (index clock : ℕ) (table later : Table) (ss : List Session) (at : ℕ) (s : Session) (q r : Publishing)
    (which : PublisherBuffers) (p : Publisher)
    → IsPublisherOf e index clock table ss at s q which → IsTurned table later which p
    → PublisherStands e p s r
    → IsTable e index clock later (map (changed (amid e clock at r [])) ss)
gone_on e index clock table later ss at s q r which p its turned stands =
    table_kept (changed g) (keeps_changed g) (marks_changed g) e index clock clock table later ss its.body its.body.early turned.alike
    (subst (λ (ps : List Publisher). AreWide e.buffer ps) (sym turned.publishers_are)
    (wide_set e.buffer table.publishers.items which p table.two its.body.publishers_wide stands.buffer.0))
    (ap length turned.seats_are)
    (λ k d o below. subst
    (λ (seats : List Seat). Becomes (changed g) e index clock k (buffers_of later.publishers.items (get_or table.seats.items k d) o)
    (get_or table.seats.items k d) (get_or seats k d) ss)
    (sym turned.seats_are)
    (let seat = its.body.seats_are k d o below in
    past_becomes g e index clock k (buffers_of table.publishers.items (get_or table.seats.items k d) o)
    (buffers_of later.publishers.items (get_or table.seats.items k d) o) (get_or table.seats.items k d) (get_or table.seats.items k d) ss seat
    refl refl seat.wide (λ t is. seated k d o t is (seat.seated t is))))
  where
    g : Session → Past
    g t = amid e clock at r [] t

    seated : (k : ℕ) (d : Seat) (o : Publisher) (t : Session) → find (is_open_in k) ss ≡ Some t
        → IsSeated e clock (buffers_of table.publishers.items (get_or table.seats.items k d) o) (get_or table.seats.items k d).subscriber t
        → IsSeated e clock (buffers_of later.publishers.items (get_or table.seats.items k d) o) (get_or table.seats.items k d).subscriber
        (changed g t)
    seated k d o t is seat = elim (cases_eq k at) [
      | inl place ↦
          let one : t ≡ s = the_one ss at k s t its.here.found is place in
          let past : t.past ≡ Publishes q = ap (λ (u : Session). u.past) one ∙ its.here.past_is in
          let role : publishes t.conclusion.role ≡ true =
          ap (λ (u : Session). publishes u.conclusion.role) one ∙ (and_parts s.is_open (publishes s.conclusion.role) its.here.publishes).1 in
          let now = subst
          (λ (u : Session). PublisherStands e p u r) (sym one)
          stands in
          let mine : buffers_of later.publishers.items (get_or table.seats.items k d) o ≡ p =
          ap (λ (n : ℕ). buffers_of later.publishers.items (get_or table.seats.items n d) o) place
          ∙ (ap (λ (ps : List Publisher). buffers_of ps (get_or table.seats.items at d) o) turned.publishers_are
          ∙ (ap (λ (b : PublisherBuffers). get_or (set table.publishers.items (place_of which) p) (place_of b) o) (sym (its.uses d))
          ∙ set_here table.publishers.items which p o table.two)) in
          subst (λ (z : Publisher). IsSeated e clock z (get_or table.seats.items k d).subscriber (changed g t)) (sym mine)
          (seated_with e clock p (get_or table.seats.items k d).subscriber t g (Publishes r) (is_there k ss t is).0
          (amid_here e clock at r q [] t (slot_is ss at k t is place) past) (role, now) seat.opened)
      | inr apart ↦
          let stays = others_stay e index clock table later.publishers.items ss at s which p its.body (publishing_at ss at s q its.here) its.uses
          turned.publishers_are k d o t (get_or table.seats.items k d).subscriber apart is seat in
          seated_with e clock (buffers_of later.publishers.items (get_or table.seats.items k d) o) (get_or table.seats.items k d).subscriber
          t g t.past (is_there k ss t is).0 (amid_elsewhere e clock at r t (slot_is_not ss at k t is apart)) stays.past_is stays.opened
    ]

-- the publisher's session once all its payloads are delivered
pub publisher_passed : (e : Terms) (clock : ℕ) (ss : List Session) (at : ℕ) (s : Session) (q : Publishing) (room : Option ℕ)
    → IsPublisherAt ss at s q
    → IsPublisherAt
    (passed_on e clock at room s q ss) at (record s {
      past =
          Publishes (publishing.delivered (terms_of e s).publisher (time_in s clock) room q);
    })
    (publishing.delivered (terms_of e s).publisher (time_in s clock) room q)
publisher_passed e clock ss at s q room here =
    let there = is_there at ss s here.found in
    let r = publishing.delivered (terms_of e s).publisher (time_in s clock) room q in
    let given = payloads e clock room s in
    record {
      found = find_changed (amid e clock at r given) at ss
          ∙ (ap (option_map (changed (amid e clock at r given))) here.found
          ∙ ap Some
          (changed_is s (amid e clock at r given) (Publishes r) there.0
          (amid_here e clock at r q given s (slot_is ss at at s here.found refl) here.past_is)));
      publishes = here.publishes;
      past_is = refl;
    }

-- in buffer mode a payload is delivered only if there is room
nothing_without_room : (mode : Mode) (terms : publishing.Terms) (time room : ℕ) (q : Publishing) (a : Arrival)
    → first_of (deliveries mode terms time (Some room) q) ≡ Some a → mode ≡ Buffer → 0 < room
unfolding deliveries
nothing_without_room Live terms time room q a is m = absurd (let bad : Live ≡ Buffer = m in cc)
nothing_without_room Buffer terms time zero q a is m = absurd (let bad : None ≡ Some a = is in cc)
nothing_without_room Buffer terms time (suc room) q a is m = omega arith

-- payloads are fed one by one
fed_later : (terms : subscribing.Terms) (time : ℕ) (xs : List (List ℕ)) (x : List ℕ) (m : subscribing.Subscribing)
    → subscribing.fed_all terms time (x ∷ []) (subscribing.fed_all terms time xs m) ≡ subscribing.fed_all terms time (xs ++ x ∷ []) m
fed_later terms time [] x m = refl
fed_later terms time (y ∷ ys) x m = fed_later terms time ys x (subscribing.fed terms time y m)

amid_later : (terms : Agreed) (time : ℕ) (mine : Bool) (q r : Publishing) (xs : List (List ℕ)) (x : List ℕ) (past : Past)
    → amid_past terms time mine r (x ∷ []) (amid_past terms time mine q xs past) ≡ amid_past terms time mine r (xs ++ x ∷ []) past
amid_later terms time true q r xs x (Publishes p) = refl
amid_later terms time false q r xs x (Publishes p) = refl
amid_later terms time mine q r xs x (Subscribes m) = ap Subscribes (fed_later terms.subscriber time xs x m)

pub amid_more : (e : Terms) (clock at : ℕ) (q r : Publishing) (xs : List (List ℕ)) (x : List ℕ) (ss : List Session)
    → map (changed (amid e clock at r (x ∷ []))) (map (changed (amid e clock at q xs)) ss)
    ≡ map (changed (amid e clock at r (xs ++ x ∷ []))) ss
amid_more e clock at q r xs x ss =
    compose_all (amid e clock at r (x ∷ [])) (amid e clock at q xs) (amid e clock at r (xs ++ x ∷ []))
    (λ s. amid_later (terms_of e s) (time_in s clock) (s.slot == at) q r xs x s.past) ss

fed_once : (terms : Agreed) (time : ℕ) (mine : Bool) (r : Publishing) (x : List ℕ) (past : Past)
    → fed_past terms time x (amid_past terms time mine r [] past) ≡ amid_past terms time mine r (x ∷ []) past
fed_once terms time mine r x (Publishes p) = refl
fed_once terms time mine r x (Subscribes m) = refl

pub gone_and_fed : (e : Terms) (clock at : ℕ) (r : Publishing) (x : List ℕ) (ss : List Session)
    → map (changed (fed e clock x)) (map (changed (amid e clock at r [])) ss) ≡ map (changed (amid e clock at r (x ∷ []))) ss
gone_and_fed e clock at r x ss =
    compose_all (fed e clock x) (amid e clock at r []) (amid e clock at r (x ∷ []))
    (λ s. fed_once (terms_of e s) (time_in s clock) (s.slot == at) r x s.past) ss

-- room for more is room for less
pub less_room : (e : Terms) (more less : ℕ) (ss : List Session) → (e.mode ≡ Buffer → less ≤ more) → HaveRoom e more ss → HaveRoom e less ss
less_room e more less ss le has at s is = by s.past (has at s is)
  where
    by : (past : Past) → HasRoom e more past → HasRoom e less past
    by (Publishes p) h = tt
    by (Subscribes m) h = λ b. let l = le b in let k = h b in omega (arith, l, k)

-- an open session's past is the changed one
pub past_changed : (s : Session) (g : Session → Past) → s.is_open ≡ true → (changed g s).past ≡ g s
past_changed s g o = ap (λ (t : Session). t.past) (changed_is s g (g s) o refl)

pub room_before : (e : Terms) (clock at_slot places : ℕ) (r : Publishing) (ss : List Session)
    → HaveRoom e places ss → HaveRoom e places (map (changed (amid e clock at_slot r [])) ss)
room_before e clock at_slot places r ss has at t is =
    let was = found_before (amid e clock at_slot r []) at ss t is in
    let past = ap (λ (u : Session). u.past) was.2 ∙ past_changed was.0 (amid e clock at_slot r []) (is_there at ss was.0 was.1).0 in
    subst (HasRoom e places) (sym past) (by (terms_of e was.0) (time_in was.0 clock) (was.0.slot == at_slot) was.0.past (has at was.0 was.1))
  where
    by : (terms : Agreed) (time : ℕ) (mine : Bool) (past : Past) → HasRoom e places past → HasRoom e places (amid_past terms time mine r [] past)
    by terms time mine (Publishes p) h = tt
    by terms time mine (Subscribes m) h = h

-- two changes that agree on the open sessions
pub same_everywhere : (f g : Session → Past) (places : ℕ) (ss : List Session)
    → AreAlone places ss → ((at : ℕ) (t : Session) → find (is_open_in at) ss ≡ Some t → f t ≡ g t) → map (changed f) ss ≡ map (changed g) ss
same_everywhere f g places [] alone same = refl
same_everywhere f g places (s ∷ ss) alone same =
    ap (λ (t : Session). t ∷ map (changed f) ss) (here s.is_open refl)
    ∙ ap (λ (ts : List Session). changed g s ∷ ts)
    (same_everywhere f g places ss alone.1 (λ at t is. same at t (later at t is (is_open_in at s) refl)))
  where
    here : (b : Bool) → s.is_open ≡ b → changed f s ≡ changed g s
    here true o =
        let there : is_open_in s.slot s ≡ true = open_from s.slot s o refl in
        let first : find (is_open_in s.slot) (s ∷ ss) ≡ Some s = ap (λ (b : Bool). cond b (Some s) (find (is_open_in s.slot) ss)) there in
        changed_is s f (g s) o (same s.slot s first) ∙ sym (changed_is s g (g s) o refl)
    here false o = changed_closed s f o ∙ sym (changed_closed s g o)

    later : (at : ℕ) (t : Session) → find (is_open_in at) ss ≡ Some t → (b : Bool) → is_open_in at s ≡ b → find (is_open_in at) (s ∷ ss) ≡ Some t
    later at t is true o =
        let parts = open_parts at s o in
        let none : find (is_open_in at) ss ≡ None = subst (λ (k : ℕ). find (is_open_in k) ss ≡ None) parts.1 (alone.0 parts.0).slot_alone in
        absurd (let bad : None ≡ Some t = sym none ∙ is in cc)
    later at t is false o = ap (λ (b : Bool). cond b (Some s) (find (is_open_in at) ss)) o ∙ is

pub unchanged : (ss : List Session) → map (changed (λ s. s.past)) ss ≡ ss
unchanged [] = refl
unchanged (s ∷ ss) = ap (λ (t : Session). t ∷ map (changed (λ s. s.past)) ss) (by s.is_open) ∙ ap (λ (ts : List Session). s ∷ ts) (unchanged ss)
  where
    by : (b : Bool) → cond b (record s { past = s.past }) s ≡ s
    by true = refl
    by false = refl

-- nothing has been delivered
pub nothing_amid : (e : Terms) (index clock : ℕ) (table : Table) (ss : List Session) (at : ℕ) (s : Session) (q : Publishing)
    → IsTable e index clock table ss → IsPublisherAt ss at s q → map (changed (amid e clock at q [])) ss ≡ ss
nothing_amid e index clock table ss at s q body here =
    same_everywhere (amid e clock at q []) (λ t. t.past) e.sessions ss body.alone by ∙ unchanged ss
  where
    by : (k : ℕ) (t : Session) → find (is_open_in k) ss ≡ Some t → amid e clock at q [] t ≡ t.past
    by k t is = elim (cases_eq k at) [
      | inl place ↦
          let past : t.past ≡ Publishes q = ap (λ (u : Session). u.past) (the_one ss at k s t here.found is place) ∙ here.past_is in
          amid_here e clock at q q [] t (slot_is ss at k t is place) past ∙ sym past
      | inr apart ↦ amid_elsewhere e clock at q t (slot_is_not ss at k t is apart)
    ]

-- a payload that is due, and none
pub one_due : (x : List ℕ) (n : Option Arrival) → Some x ≡ option_map (λ (a : Arrival). a.payload) n → (a : Arrival) × (n ≡ Some a) × (x ≡ a.payload)
one_due x None same = absurd (let bad : Some x ≡ None = same in cc)
one_due x (Some a) same = (a, refl, let e : Some x ≡ Some a.payload = same in cc)

pub none_due : (n : Option Arrival) → None ≡ option_map (λ (a : Arrival). a.payload) n → n ≡ None
none_due None same = refl
none_due (Some a) same = absurd (let bad : None ≡ Some a.payload = same in cc)

pub given_if : (n : Option Arrival) → is_some n ≡ is_given n
given_if None = refl
given_if (Some a) = refl

-- a payload that was skipped, and none
pub passed_one : (b : Bool) (n : Option Arrival) → b ≡ is_some n → b ≡ true → (a : Arrival) × (n ≡ Some a)
passed_one b None same is = absurd (let bad : false ≡ true = sym same ∙ is in cc)
passed_one b (Some a) same is = (a, refl)

pub none_passed : (b : Bool) (n : Option Arrival) → b ≡ is_some n → b ≡ false → n ≡ None
none_passed b None same is = refl
none_passed b (Some a) same is = absurd (let bad : true ≡ false = sym same ∙ is in cc)

-- a step that delivers a payload
pub turn_given : (e : Terms) (index clock : ℕ) (table first later : Table) (ss : List Session) (at : ℕ) (s : Session) (q : Publishing)
    (which : PublisherBuffers) (p : Publisher) (places : ℕ) (next : Option Arrival) (payload : List ℕ) (a : Arrival)
    → next ≡ next_delivery (terms_of e s).publisher (time_in s clock) places q → next ≡ Some a → payload ≡ a.payload
    → IsPublisherOf e index clock table ss at s q which → HaveRoom e places ss → IsTurned table first which p
    → PublisherStands e p s
    (after_delivery (terms_of e s).publisher next q)
    → 0 < length payload
    → ((ts : List Session) → IsTable e index clock first ts → 0 < length payload → HaveRoom e 1 ts
    → IsTable e index clock later (map (changed (fed e clock payload)) ts))
    → IsTable e index clock later (turned e clock at next (after_delivery (terms_of e s).publisher next q) ss)
turn_given e index clock table first later ss at s q which p places next payload a next_is is payload_is its has turned_is stands some feeds =
    let r = after_delivery (terms_of e s).publisher next q in
    let gone = gone_on e index clock table first ss at s q r which p its turned_is stands in
    let one : HaveRoom e 1 ss = less_room e places 1 ss
    (λ b. nothing_without_room e.mode (terms_of e s).publisher (time_in s clock) places q a (sym next_is ∙ is) b) has in
    let now = feeds (map (changed (amid e clock at r [])) ss) gone some (room_before e clock at 1 r ss one) in
    subst (λ (ts : List Session). IsTable e index clock later ts)
    (gone_and_fed e clock at r payload ss
    ∙ (ap (λ (x : List ℕ). map (changed (amid e clock at r (x ∷ []))) ss) payload_is
    ∙ sym (ap (λ (o : Option Arrival). turned e clock at o r ss) is)))
    now

-- a step that delivers none
pub turn_over : (e : Terms) (index clock : ℕ) (table later : Table) (ss : List Session) (at : ℕ) (s : Session) (q : Publishing)
    (which : PublisherBuffers) (p : Publisher) (next : Option Arrival)
    → next ≡ None → IsPublisherOf e index clock table ss at s q which → IsTurned table later which p
    → PublisherStands e p s
    (after_delivery (terms_of e s).publisher next q)
    → IsTable e index clock later (turned e clock at next (after_delivery (terms_of e s).publisher next q) ss)
turn_over e index clock table later ss at s q which p next is its turned_is stands =
    let terms = (terms_of e s).publisher in
    let still : publishers.StandsFor terms s.conclusion.initial s.opening s.stamp s.conclusion.caller p q =
    subst
    (λ (o : Option Arrival).
    publishers.StandsFor terms s.conclusion.initial s.opening s.stamp s.conclusion.caller p (after_delivery terms o q))
    is stands in
    subst (λ (o : Option Arrival). IsTable e index clock later (turned e clock at o (after_delivery terms o q) ss)) (sym is)
    (subst (λ (ts : List Session). IsTable e index clock later ts) (nothing_amid e index clock table ss at s q its.body its.here)
    (gone_on e index clock table later ss at s q q which p its turned_is still))

-- the fed seats, as a change of each
pub each_fed : (clock : ℕ) (payload : List ℕ) (old new : List Seat)
    → AreFed clock payload old new → EachUpTo (Changes (Feeds clock payload)) (length old) old new
each_fed clock payload old new h =
    record {
      same_length = h.same_length;
      done = λ k d lt inside.
          let one = h.fed k d inside in
          record { count_is = one.generation_is; session_is = one.session_is; stays = one.stays; changes = one.fed };
      ahead = λ k d le. get_or_past new k d (omega (arith, le, h.same_length)) ∙ sym (get_or_past old k d le);
    }

pub all_fed : (clock : ℕ) (payload : List ℕ) (at : ℕ) (old new : List Seat)
    → EachUpTo (Changes (Feeds clock payload)) at old new → length old ≤ at → AreFed clock payload old new
all_fed clock payload at old new h all =
    record {
      same_length = h.same_length;
      fed = λ k d inside.
          let one = h.done k d (omega (arith, inside, all)) inside in
          record { generation_is = one.count_is; session_is = one.session_is; stays = one.stays; fed = one.changes };
    }

pub fed_use_the_same : (clock : ℕ) (payload : List ℕ) (old new : List Seat) → AreFed clock payload old new → UseSameBuffers old new
fed_use_the_same clock payload old new h =
    seats_use_the_same (Changes (Feeds clock payload)) (length old) old new (each_fed clock payload old new h) (omega arith)
    (λ x y one. one.session_is)

-- the subscribers of a table are fed
subscribers_fed : (clock : ℕ) (payload : List ℕ) (old new : Table) → Alike old new → new.publishers ≡ old.publishers
    → AreFed clock payload old.seats.items new.seats.items → (e : Terms) (index : ℕ) (ss : List Session) → IsTable e index clock old ss
    → 0 < length payload → HaveRoom e 1 ss
    → IsTable e index clock new (map (changed (fed e clock payload)) ss)
subscribers_fed clock payload old new alike same h e index ss body some has =
    all_done (Changes (Feeds clock payload)) (changed (fed e clock payload)) (keeps_changed (fed e clock payload))
    (marks_changed (fed e clock payload)) e index clock clock
    (length old.seats.items) old new ss body body.early
    (record { alike = alike; publishers_are = same; seats = each_fed clock payload old.seats.items new.seats.items h }) (omega arith)
    (λ k p x y is one. fed_becomes e index clock k p x y payload ss some has is one)

-- a table with the publishers' buffers of another one
abbrev with_publishers : (old new : Table) → Table
with_publishers old new = record {
  index = old.index;
  mode = old.mode;
  latency_ms = old.latency_ms;
  buffer = old.buffer;
  rules = old.rules;
  seats = old.seats;
  open_publishers = old.open_publishers;
  publishers = new.publishers;
  leading = old.leading;
  index_below = old.index_below;
  few = old.few;
  counted = old.counted;
  two = new.two;
}

-- a step: the publisher has delivered, and the seats were fed its payload
pub turn_taken : (e : Terms) (index clock : ℕ) (table later : Table) (ss : List Session) (at : ℕ) (s : Session) (q : Publishing)
    (which : PublisherBuffers) (p : Publisher) (places : ℕ) (next : Option Arrival)
    → next ≡ next_delivery (terms_of e s).publisher (time_in s clock) places q → IsPublisherOf e index clock table ss at s q which
    → HaveRoom e places ss → Alike table later → later.publishers.items ≡ set table.publishers.items (place_of which) p
    → AreGiven clock next table.seats.items later.seats.items
    → PublisherStands e p s
    (after_delivery (terms_of e s).publisher next q)
    → IsTable e index clock later (turned e clock at next (after_delivery (terms_of e s).publisher next q) ss)
turn_taken e index clock table later ss at s q which p places None is its has alike put given stands =
    turn_over e index clock table later ss at s q which p None refl its (record { alike = alike; seats_are = given; publishers_are = put }) stands
turn_taken e index clock table later ss at s q which p places (Some a) is its has alike put given stands =
    turn_given e index clock table (with_publishers table later) later ss at s q which p places (Some a) a.payload a is refl refl its has
    (record { alike = (refl, refl, refl, refl, refl, refl); seats_are = refl; publishers_are = put }) stands given.0
    (λ ts. subscribers_fed clock a.payload (with_publishers table later) later alike refl given.1 e index ts)
