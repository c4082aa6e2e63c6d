-- A session opens.
use Rattle.std.proofs.Common.{◌≡◌, ◌⊎◌, ℕ, ◌+◌, ◌-◌, ◌*◌, ◌%◌, ◌<◌, ◌≤◌, ◌==◌, ◌&&◌, nat_lt, Bool, true, false, cond, Option, None}
use Rattle.std.proofs.Common.{Some, List, ◌∷◌, length, find, get_or, set, refl, sym, ap, subst, ◌∙◌, ◌≢◌, inl, inr, arith}
use Rattle.std.proofs.lemmas.Bool.{cases_Bool, cases_eq, and_parts, eqb-true, eq-eqb, false_from_ne_true}
use Rattle.std.proofs.lemmas.Bool.Decides.{nat_tests}
use Rattle.std.proofs.lemmas.List.{get_or-set_same, get_or-set_other, get_or_default, length-set}
use Rattle.srt_types.specs.declared.shared.Peer.{Peer}
use Rattle.srt_types.specs.declared.shared.Mode.{Mode}
use Rattle.srt_types.specs.declared.shared.Rules.{Rules}
use Rattle.srt_types.specs.declared.shared.Role.{Role}
use Rattle.srt_types.specs.declared.shared.Role.TheVariants.{Publish, Request}
use Rattle.srt_types.specs.Terms.{Terms}
use Rattle.srt_pub.specs.Publishing as publishing
use Rattle.srt_pub.specs.Stands as publisher
use Rattle.srt_pub.specs.declared.session.Publisher.{Publisher}
use Rattle.srt_sub.specs.Stands as subscriber
use Rattle.srt_sub.specs.Subscribing as subscribing
use Rattle.srt_sub.specs.declared.resend_all.Resending.{Resending}
use Rattle.srt_sub.specs.declared.session.Subscriber.{Subscriber}
use Rattle.srt_route.specs.declared.agreement.Agreement.{Agreement}
use Rattle.srt_route.specs.declared.conclusion_reading.Conclusion.{Conclusion}
use Rattle.srt_route.specs.declared.seat.Session.{Session as TheSession}
use Rattle.srt_route.specs.declared.seat.Seat.{Seat}
use Rattle.srt_route.specs.declared.table.Table.{Table}
use Rattle.srt_route.specs.Past.{past_of}
use Rattle.srt_route.specs.Sessions.{Session, is_open_in, is_publisher, leads, publishes, active, agreed_terms, generation_of, resending_of}
use Rattle.srt_types.specs.Entries.{in_limits, is_name}
use Rattle.srt_types.specs.declared.shared.OpenFault.TheVariants.{Names, Limits}
use Rattle.srt_route.specs.Opening.{fault_of}
use Rattle.srt_route.specs.Route.{is_of, session_opened}
use Rattle.srt_route.specs.Admission.{agreement_of}
use Rattle.srt_route.specs.inside.Standby.{leading_after}
use Rattle.srt_route.specs.Buffers.{IsPast, IsSeated}
use Rattle.srt_route.specs.declared.publisher_buffers.PublisherBuffers.{PublisherBuffers}
use Rattle.srt_route.specs.Parts.{buffers_used}
use Rattle.srt_route.specs.PublisherBuffers.{place_of, other_buffers}
use Rattle.srt_route.specs.Tables.{IsSession, IsStored, IsSeat, IsTable, IsPublishing, AreWide, used_buffers, buffers_of}
use Rattle.srt_route.specs.inside.OneSession.{Begins, BeginsAs}
use Rattle.srt_route.proofs.model.Found.{found_passes, open_parts, open_from}
use Rattle.srt_route.proofs.stored.Kept.{SameEntry, some_buffers, seat_at, table_stands}
use Rattle.srt_route.proofs.stored.Publishers.{below_two, set_elsewhere, set_here, set_again, wide_set, alone_is_active}
use Rattle.srt_route.proofs.stored.TwoBuffers.{never_other}
use Rattle.srt_route.proofs.model.TakeOver.{opens_behind}
use Rattle.srt_route.proofs.stored.Seats.{opened_kept, other_publisher}

-- the session of a slot after one more session opened
pub found_newest : (k : ℕ) (s : Session) (ss : List Session) (u : Session)
    → find (is_open_in k) (s ∷ ss) ≡ Some u → ((is_open_in k s ≡ true) × (s ≡ u)) ⊎ (find (is_open_in k) ss ≡ Some u)
found_newest k s ss u h = by (is_open_in k s) refl h
  where
    by : (b : Bool) → is_open_in k s ≡ b → cond b (Some s) (find (is_open_in k) ss) ≡ Some u
        → ((is_open_in k s ≡ true) × (s ≡ u)) ⊎ (find (is_open_in k) ss ≡ Some u)
    by true e h = inl (e, let same : Some s ≡ Some u = h in cc)
    by false e h = inr h

-- the table with one more session, in a seat in which none was open
pub record IsOpening (e : Terms) (clock : ℕ) (old new : Table) (s : Session) (ss : List Session) (y : Seat) : Type 0 where
  pub publishers_wide : AreWide e.buffer new.publishers.items
  pub seated : (p : Publisher) → IsSeated e clock (buffers_of new.publishers.items y p) y.subscriber s
  pub others : (k : ℕ) (d : Seat) (p : Publisher) (u : Session) → find (is_open_in k) ss ≡ Some u
      → IsSeated e clock (buffers_of old.publishers.items (get_or old.seats.items k d) p) (get_or old.seats.items k d).subscriber u
      → IsSeated e clock (buffers_of new.publishers.items (get_or old.seats.items k d) p) (get_or old.seats.items k d).subscriber u
  pub leading_is : new.leading ≡ leading_after old.leading s.conclusion.role (used_buffers y)
  pub unused : publishes s.conclusion.role ≡ true
      → (k : ℕ) (d : Seat) (u : Session) → IsPublishing ss k u → used_buffers (get_or old.seats.items k d) ≡ other_buffers (used_buffers y)

-- a publisher after the opening is the new session, or was open before
abbrev IsNew : Session → ℕ → Session → Type 0
IsNew s k u = (s.slot ≡ k) × (s ≡ u) × (is_publisher s ≡ true)

abbrev WasOpen : Session → List Session → ℕ → Session → Type 0
WasOpen s ss k u = (k ≢ s.slot) × IsPublishing ss k u

leading_is_other : (leading : PublisherBuffers) (role : Role) (which : PublisherBuffers)
    → publishes role ≡ true → leading_after leading role which ≡ other_buffers which
leading_is_other leading Publish which h = refl
leading_is_other leading Request which h = absurd (let bad : false ≡ true = h in cc)

leading_stays : (leading : PublisherBuffers) (role : Role) (which : PublisherBuffers)
    → publishes role ≡ false → leading_after leading role which ≡ leading
leading_stays leading Publish which h = absurd (let bad : true ≡ false = h in cc)
leading_stays leading Request which h = refl

pub table_opened : (e : Terms) (index clock : ℕ) (old new : Table) (s : Session) (ss : List Session) (y : Seat)
    → IsTable e index clock old ss → SameEntry old new → length new.seats.items ≡ length old.seats.items
    → ((d : Seat) → get_or new.seats.items s.slot d ≡ y)
    → ((k : ℕ) (d : Seat) → k ≢ s.slot → get_or new.seats.items k d ≡ get_or old.seats.items k d) → s.is_open ≡ true → s.slot < e.sessions
    → s.took_over ≡ false → find (is_open_in s.slot) ss ≡ None → find (is_of s.peer s.conclusion.caller) ss ≡ None
    → IsStored e index y.session (Some s)
    → y.generation ≡ (generation_of ss s.slot + 1) % 65536 → subscriber.IsWide e.buffer y.subscriber → IsOpening e clock old new s ss y
    → IsTable e index clock new (s ∷ ss)
table_opened e index clock old new s ss y is alike same_length here beside o inside unmarked free first stored count wide opening =
    table_stands e index clock clock old new ss (s ∷ ss) is is.early alike opening.publishers_wide same_length
    (λ k d p below. one k d p (omega (arith, below, same_length)))
    (λ h. record { inside = inside; slot_alone = free; caller_alone = first }, is.alone)
    (record {
      apart = λ at k d u v one_is other both. apart at k d u v (who at u one_is) (who k v other) both;
      leading_is_active = λ at d u one_is first_is. active_one at d u (who at u one_is) first_is;
    })
  where
    newest : (p : Publisher) → IsSeat e index clock s.slot (buffers_of new.publishers.items y p) y (s ∷ ss)
    newest p =
        let found : find (is_open_in s.slot) (s ∷ ss) ≡ Some s = rw (open_from s.slot s o refl) refl in
        record {
          session_is = subst (λ (g : Option Session). IsStored e index y.session g) (sym found) stored;
          count_is = count ∙ ap (λ (b : Bool). cond b (generation_of ss s.slot + 1) (generation_of ss s.slot) % 65536) (sym (eq-eqb s.slot s.slot refl));
          wide = wide;
          seated = λ u h.
              let same : s ≡ u = let both : Some s ≡ Some u = sym found ∙ h in
              cc in
              subst (λ (v : Session). IsSeated e clock (buffers_of new.publishers.items y p) y.subscriber v) same (opening.seated p);
        }

    older : (k : ℕ) (d : Seat) (p : Publisher) → k ≢ s.slot → k < length old.seats.items
        → IsSeat e index clock k (buffers_of new.publishers.items (get_or old.seats.items k d) p) (get_or old.seats.items k d) (s ∷ ss)
    older k d p apart below =
        let h = is.seats_are k d p below in
        let z = get_or old.seats.items k d in
        let test : (s.slot == k) ≡ false = false_from_ne_true (s.slot == k) (λ same. absurd (apart (sym (eqb-true s.slot k same)))) in
        let found : find (is_open_in k) (s ∷ ss) ≡ find (is_open_in k) ss = rw (o, test) refl in
        record {
          session_is = subst (λ (g : Option Session). IsStored e index z.session g) (sym found) h.session_is;
          count_is = h.count_is ∙ ap (λ (b : Bool). cond b (generation_of ss k + 1) (generation_of ss k) % 65536) (sym test);
          wide = h.wide;
          seated = λ u g. let there : find (is_open_in k) ss ≡ Some u = sym found ∙ g in opening.others k d p u there (h.seated u there);
        }

    one : (k : ℕ) (d : Seat) (p : Publisher) → k < length old.seats.items
        → IsSeat e index clock k (buffers_of new.publishers.items (get_or new.seats.items k d) p) (get_or new.seats.items k d) (s ∷ ss)
    one k d p below = elim (cases_eq k s.slot) [
      | inl same ↦
          subst
          (λ (n : ℕ).
          IsSeat e index clock n (buffers_of new.publishers.items (get_or new.seats.items n d) p) (get_or new.seats.items n d) (s ∷ ss))
          (sym same)
          (subst (λ (z : Seat). IsSeat e index clock s.slot (buffers_of new.publishers.items z p) z (s ∷ ss)) (sym (here d)) (newest p))
      | inr apart ↦ subst (λ (z : Seat). IsSeat e index clock k (buffers_of new.publishers.items z p) z (s ∷ ss)) (sym (beside k d apart))
          (older k d p apart below)
    ]

    who : (k : ℕ) (u : Session) → IsPublishing (s ∷ ss) k u → IsNew s k u ⊎ WasOpen s ss k u
    who k u h = elim (found_newest k s ss u h.found) [
      | inl a ↦ inl ((open_parts k s a.0).1, a.1, ap is_publisher a.1 ∙ h.publishes)
      | inr b ↦ inr (
        (λ same. absurd (let bad : None ≡ Some u = sym free ∙ subst (λ (n : ℕ). find (is_open_in n) ss ≡ Some u) same b in cc)),
        record { found = b; publishes = h.publishes },
      )
    ]

    new_uses : (k : ℕ) (d : Seat) → s.slot ≡ k → used_buffers (get_or new.seats.items k d) ≡ used_buffers y
    new_uses k d same = ap used_buffers (subst (λ (n : ℕ). get_or new.seats.items n d ≡ y) same (here d))

    old_uses : (k : ℕ) (d : Seat) → k ≢ s.slot → used_buffers (get_or new.seats.items k d) ≡ used_buffers (get_or old.seats.items k d)
    old_uses k d other = ap used_buffers (beside k d other)

    role_of : is_publisher s ≡ true → publishes s.conclusion.role ≡ true
    role_of h = (and_parts s.is_open (publishes s.conclusion.role) h).1

    apart : (at k : ℕ) (d : Seat) (u v : Session) → IsNew s at u ⊎ WasOpen s ss at u → IsNew s k v ⊎ WasOpen s ss k v
        → used_buffers (get_or new.seats.items at d) ≡ used_buffers (get_or new.seats.items k d)
        → at ≡ k
    apart at k d u v (inl a) (inl b) same = sym a.0 ∙ b.0
    apart at k d u v (inl a) (inr b) same =
        absurd (never_other (used_buffers y) (sym (new_uses at d a.0) ∙ (same ∙ (old_uses k d b.0 ∙ opening.unused (role_of a.2) k d v b.1))))
    apart at k d u v (inr a) (inl b) same = absurd (never_other (used_buffers y)
        (sym (new_uses k d b.0) ∙ (sym same ∙ (old_uses at d a.0 ∙ opening.unused (role_of b.2) at d u a.1))))
    apart at k d u v (inr a) (inr b) same = is.publishers_are.apart at k d u v a.1 b.1 (sym (old_uses at d a.0) ∙ (same ∙ old_uses k d b.0))

    follows : leads s ≡ false
    follows = ap (λ (b : Bool). is_publisher s && b) unmarked ∙ never (is_publisher s)
      where
        never : (b : Bool) → (b && false) ≡ false
        never true = refl
        never false = refl

    -- all older publishers use the same buffers, so there is one, and it is active
    lone : (at : ℕ) (d : Seat) (u : Session) → publishes s.conclusion.role ≡ true → IsPublishing ss at u → active ss ≡ Some u
    lone at d u role one_is = alone_is_active e index clock old ss at d u is one_is
        (λ k v other. opening.unused role at d u one_is ∙ sym (opening.unused role k d v other))

    active_one : (at : ℕ) (d : Seat) (u : Session)
        → IsNew s at u ⊎ WasOpen s ss at u → used_buffers (get_or new.seats.items at d) ≡ new.leading → active (s ∷ ss) ≡ Some u
    active_one at d u (inl a) first_is =
        absurd (never_other (used_buffers y)
        (sym (new_uses at d a.0)
        ∙ (first_is ∙ (opening.leading_is ∙ leading_is_other old.leading s.conclusion.role (used_buffers y) (role_of a.2)))))
    active_one at d u (inr a) first_is = elim (cases_Bool (publishes s.conclusion.role)) [
      | inl role ↦ opens_behind s ss u follows (lone at d u role a.1)
      | inr role ↦
          opens_behind s ss u follows
          (is.publishers_are.leading_is_active at d u a.1
          (sym (old_uses at d a.0)
          ∙ (first_is ∙ (opening.leading_is ∙ leading_stays old.leading s.conclusion.role (used_buffers y) role))))
    ]

-- the buffers that have begun, by the role
pub record HasBegun (e : Terms) (clock : ℕ) (old : Table) (which : PublisherBuffers) (q : Publisher) (x y : Seat) (s : Session) (ss : List Session)
    : Type 0 where
  pub publishers_wide : AreWide e.buffer (set old.publishers.items (place_of which) q)
  pub count_is : y.generation ≡ x.generation
  pub wide : subscriber.IsWide e.buffer y.subscriber
  pub seated : IsSeated e clock q y.subscriber s
  pub others : (k : ℕ) (d : Seat) (p : Publisher) (u : Session) → find (is_open_in k) ss ≡ Some u
      → IsSeated e clock (buffers_of old.publishers.items (get_or old.seats.items k d) p) (get_or old.seats.items k d).subscriber u
      → IsSeated e clock (buffers_of (set old.publishers.items (place_of which) q) (get_or old.seats.items k d) p)
      (get_or old.seats.items k d).subscriber u

pub has_begun : (e : Terms) (index clock : ℕ) (peer : Peer) (stamp : ℕ) (c : Conclusion) (at generation : ℕ) (old : Table) (which : PublisherBuffers)
    (p q : Publisher) (x y : Seat) (ss : List Session)
    → IsTable e index clock old ss → p ≡ get_or old.publishers.items (place_of which) p → subscriber.IsWide e.buffer x.subscriber
    → Begins e clock stamp c p q x y
    → (publishes c.role ≡ true
    → (k : ℕ) (d : Seat) (u : Session) → IsPublishing ss k u → used_buffers (get_or old.seats.items k d) ≡ other_buffers which)
    → HasBegun e clock old which q x y (session_opened clock peer stamp c at generation) ss
has_begun e index clock peer stamp c at generation old which p q x y ss is there x_wide begins free = by c.role refl begins
  where
    s : Session
    s = session_opened clock peer stamp c at generation

    stays : publishes c.role ≡ true → (k : ℕ) (d : Seat) (p : Publisher) (u : Session) → find (is_open_in k) ss ≡ Some u
        → IsSeated e clock (buffers_of old.publishers.items (get_or old.seats.items k d) p) (get_or old.seats.items k d).subscriber u
        → IsSeated e clock (buffers_of (set old.publishers.items (place_of which) q) (get_or old.seats.items k d) p)
        (get_or old.seats.items k d).subscriber u
    stays role k d p u here h = elim (cases_Bool (publishes u.conclusion.role)) [
      | inl it_does ↦
          let one : IsPublishing ss k u = record { found = here; publishes = rw ((open_parts k u (found_passes (is_open_in k) ss u here)).0, it_does) refl } in
          let other = free role k d u one in
          subst (λ (z : Publisher). IsSeated e clock z (get_or old.seats.items k d).subscriber u)
          (sym (set_elsewhere old.publishers.items which (used_buffers (get_or old.seats.items k d)) q p
          (λ same. never_other which (sym same ∙ other))))
          h
      | inr no_one ↦ other_publisher e clock (buffers_of old.publishers.items (get_or old.seats.items k d) p)
          (buffers_of (set old.publishers.items (place_of which) q) (get_or old.seats.items k d) p) (get_or old.seats.items k d).subscriber u no_one
          h
    ]

    by : (r : Role) → c.role ≡ r → BeginsAs r e clock stamp c p q x y → HasBegun e clock old which q x y s ss
    by Publish role h =
        record {
          publishers_wide = wide_set e.buffer old.publishers.items which q old.two is.publishers_wide h.0.buffer.0;
          count_is = ap (λ (z : Seat). z.generation) h.1;
          wide = subst (λ (z : Seat). subscriber.IsWide e.buffer z.subscriber) (sym h.1) x_wide;
          seated = record {
            past_is = subst (λ (r : Role). IsPast e clock q y.subscriber s (past_of r)) (sym role) (rw (role) refl, h.0);
            opened = omega arith;
          };
          others = λ k d p u here was. stays (ap publishes role) k d p u here was;
        }
    by Request role h =
        let same : q ≡ get_or old.publishers.items (place_of which) q =
        h.1 ∙ (there ∙ get_or_default old.publishers.items (place_of which) p q (below_two which old.publishers.items old.two)) in
        record {
          publishers_wide = wide_set e.buffer old.publishers.items which q old.two is.publishers_wide
              (ap publisher.width_of same ∙ is.publishers_wide which q);
          count_is = h.2;
          wide = (c.initial, subscribing.opened.sending, h.0.buffer_is);
          seated = record {
            past_is = subst (λ (r : Role). IsPast e clock q y.subscriber s (past_of r)) (sym role)
                (rw (role) refl, h.0, opened_kept (agreed_terms e c).subscriber (clock - clock));
            opened = omega arith;
          };
          others = λ k d p u here was. subst (λ (v : Publisher). IsSeated e clock v (get_or old.seats.items k d).subscriber u)
              (sym (set_again old.publishers.items which (used_buffers (get_or old.seats.items k d)) q p old.two same)) was;
        }

leading_alike : (leading : PublisherBuffers) (role : Role) (a b : PublisherBuffers)
    → (publishes role ≡ true → a ≡ b) → leading_after leading role a ≡ leading_after leading role b
leading_alike leading Publish a b same = ap other_buffers (same refl)
leading_alike leading Request a b same = refl

-- the session is stored in the seat whose buffers have begun
pub session_stored : (e : Terms) (index clock : ℕ) (peer : Peer) (stamp : ℕ) (c : Conclusion) (old new : Table) (ss : List Session) (at : ℕ)
    (which : PublisherBuffers) (q : Publisher) (x w v y : Seat) (t : TheSession)
    → (h : IsTable e index clock old ss) → at < length old.seats.items → x ≡ get_or old.seats.items at x
    → v ≡ get_or (set old.seats.items at w) at v
    → y ≡ record { generation = (v.generation + 1) % 65536; session = Some t; subscriber = v.subscriber }
    → new.seats.items ≡ set (set old.seats.items at w) at y → SameEntry old new
    → new.publishers.items ≡ set old.publishers.items (place_of which) q → new.leading ≡ leading_after old.leading c.role which
    → (publishes c.role ≡ true → buffers_used t.part ≡ which) → HasBegun e clock old which q x w (session_opened clock peer stamp c at (generation_of ss at)) ss
    → IsSession e index t (session_opened clock peer stamp c at (generation_of ss at)) → find (is_open_in at) ss ≡ None
    → find (is_of peer c.caller) ss ≡ None
    → (publishes c.role ≡ true
    → (k : ℕ) (d : Seat) (u : Session) → IsPublishing ss k u → used_buffers (get_or old.seats.items k d) ≡ other_buffers which)
    → IsTable e index clock new (session_opened clock peer stamp c at (generation_of ss at) ∷ ss)
session_stored e index clock peer stamp c old new ss at which q x w v y t h inside there next y_is put alike turned leading which_is begun
    stored free first unused =
    table_opened e index clock old new s ss y h alike (ap length put ∙ (length-set (set old.seats.items at w) at y ∙ length-set old.seats.items at w))
    (λ d. ap (λ (seats : List Seat). get_or seats at d) put ∙ get_or-set_same (set old.seats.items at w) at y d in_first)
    (λ k d apart. ap (λ (seats : List Seat). get_or seats k d) put
    ∙ (get_or-set_other (set old.seats.items at w) at k y d apart ∙ get_or-set_other old.seats.items at k w d apart))
    refl (omega (arith, inside, h.places_are)) refl free first
    (subst (λ (o : Option TheSession). IsStored e index o (Some s)) (sym (ap (λ (z : Seat). z.session) y_is)) stored)
    count
    (subst (λ (z : Subscriber). subscriber.IsWide e.buffer z) (sym same_subscriber) begun.wide)
    (record {
      publishers_wide = subst (λ (ps : List Publisher). AreWide e.buffer ps) (sym turned) begun.publishers_wide;
      seated = λ p.
          elim (cases_Bool (publishes c.role)) [
            | inl role ↦ subst (λ (x : Publisher). IsSeated e clock x y.subscriber s) (sym (mine role p)) begun_here
            | inr no_one ↦ other_publisher e clock q (buffers_of new.publishers.items y p) y.subscriber s no_one begun_here
          ];
      others = λ k d p u here was. subst
          (λ (ps : List Publisher).
          IsSeated e clock (buffers_of ps (get_or old.seats.items k d) p) (get_or old.seats.items k d).subscriber u)
          (sym turned) (begun.others k d p u here was);
      leading_is = leading ∙ leading_alike old.leading c.role which (used_buffers y) (λ role. sym (uses role));
      unused = λ role k d u one. unused role k d u one ∙ ap other_buffers (sym (uses role));
    })
  where
    s : Session
    s = session_opened clock peer stamp c at (generation_of ss at)

    in_first : at < length (set old.seats.items at w)
    in_first = omega (arith, inside, length-set old.seats.items at w)

    same : v ≡ w
    same = next ∙ get_or-set_same old.seats.items at w v inside

    uses : publishes c.role ≡ true → used_buffers y ≡ which
    uses role = ap used_buffers y_is ∙ which_is role

    mine : publishes c.role ≡ true → (p : Publisher) → buffers_of new.publishers.items y p ≡ q
    mine role p = ap (λ (ps : List Publisher). buffers_of ps y p) turned
        ∙ (ap (λ (b : PublisherBuffers). get_or (set old.publishers.items (place_of which) q) (place_of b) p) (uses role)
        ∙ set_here old.publishers.items which q p old.two)

    same_subscriber : y.subscriber ≡ w.subscriber
    same_subscriber = ap (λ (z : Seat). z.subscriber) y_is ∙ ap (λ (z : Seat). z.subscriber) same

    begun_here : IsSeated e clock q y.subscriber s
    begun_here = subst (λ (z : Subscriber). IsSeated e clock q z s) (sym same_subscriber) begun.seated

    count : y.generation ≡ (generation_of ss at + 1) % 65536
    count = omega (
      arith,
      ap (λ (z : Seat). z.generation) y_is,
      ap (λ (z : Seat). z.generation) same,
      begun.count_is,
      (seat_at e index clock old ss at x (some_buffers old) h inside there).count_is,
    )

-- the parameters of a subscriber's session
abbrev pub made : Mode → (width delay mtu window : ℕ) → Rules → Resending → subscribing.Terms
made mode width delay mtu window rules resending =
    record {
      mode = mode;
      width = width;
      delay = delay;
      mtu = mtu;
      window = window;
      resend_percent = rules.resend_percent;
      resending = resending;
    }

abbrev pub agreed_resending : Agreement → Conclusion → Resending
agreed_resending a c = resending_of a.rules.callers a.mode c.periodic_nak

pub subscriber_terms : (e : Terms) (c : Conclusion) (a : Agreement) (delay : ℕ) (resending : Resending)
    → a ≡ agreement_of e c → delay ≡ a.sender_ms * 1000 → resending ≡ agreed_resending a c
    → made a.mode e.buffer delay a.mtu c.window a.rules resending ≡ (agreed_terms e c).subscriber
subscriber_terms e c a delay resending same delay_is resending_is =
    ap (λ (n : ℕ). made a.mode e.buffer n a.mtu c.window a.rules resending) (delay_is ∙ turned a.sender_ms)
    ∙ ap (λ (x : Resending). made a.mode e.buffer (1000 * a.sender_ms) a.mtu c.window a.rules x) resending_is
    ∙ ap (λ (b : Agreement). made b.mode e.buffer (1000 * b.sender_ms) b.mtu c.window b.rules (agreed_resending b c)) same
  where
    turned : (n : ℕ) → n * 1000 ≡ 1000 * n
    turned n = omega arith

-- the parameters of a publisher's session
abbrev pub published : Mode → (width delay : ℕ) → Rules → publishing.Terms
published mode width delay rules = record { mode = mode; width = width; delay = delay; callers = rules.callers }

pub publisher_terms : (e : Terms) (c : Conclusion) (a : Agreement) (width delay : ℕ)
    → a ≡ agreement_of e c → width ≡ e.buffer → delay ≡ a.receiver_ms * 1000 → published a.mode width delay a.rules ≡ (agreed_terms e c).publisher
publisher_terms e c a width delay same wide delay_is =
    ap (λ (n : ℕ). published a.mode n delay a.rules) wide
    ∙ (ap (λ (n : ℕ). published a.mode e.buffer n a.rules) (delay_is ∙ turned a.receiver_ms)
    ∙ ap (λ (b : Agreement). published b.mode e.buffer (1000 * b.receiver_ms) b.rules) same)
  where
    turned : (n : ℕ) → n * 1000 ≡ 1000 * n
    turned n = omega arith

-- a route's buffers are within their limit
pub buffer_fits : (e : Terms) → in_limits e ≡ true → e.buffer ≤ 8192
buffer_fits e h = grind (arith, nat_tests, h)

-- a route that can be opened is within its limits
pub limits_hold : (e : Terms) (index : ℕ) → fault_of e index ≡ None → in_limits e ≡ true
limits_hold e index = by (is_name e.name) (nat_lt index 511) (in_limits e)
  where
    by : (named few limited : Bool) → cond named (cond (few && limited) None (Some Limits)) (Some Names) ≡ None → limited ≡ true
    by named few true h = refl
    by true true false h = absurd (let bad : Some Limits ≡ None = h in cc)
    by true false false h = absurd (let bad : Some Limits ≡ None = h in cc)
    by false few false h = absurd (let bad : Some Names ≡ None = h in cc)
