-- The buffers of two publishers.
use Rattle.std.proofs.Common.{◌≡◌, ◌≢◌, ℕ, ◌<◌, ◌≤◌, Bool, true, false, cond, ◌&&◌, Option, None, Some, List, length, find, get_or, set}
use Rattle.std.proofs.Common.{refl, sym, ap, subst, ◌∙◌, inl, inr, arith}
use Rattle.std.specs.List.{list_any}
use Rattle.std.proofs.lemmas.Bool.{cases_Bool, and_parts}
use Rattle.std.proofs.lemmas.List.{get_or-set_same, get_or-set_other, get_or_default}
use Rattle.std.proofs.lemmas.List.Folds.{list_any_at, Any-from_list_any}
use Rattle.srt_types.specs.Terms.{Terms}
use Rattle.srt_pub.specs.Stands as publisher
use Rattle.srt_pub.specs.declared.session.Publisher.{Publisher}
use Rattle.srt_sub.specs.declared.session.Subscriber.{Subscriber}
use Rattle.srt_route.specs.declared.seat.Session.{Session as TheSession}
use Rattle.srt_route.specs.declared.seat.Seat.{Seat}
use Rattle.srt_route.specs.declared.table.Table.{Table}
use Rattle.srt_route.specs.Sessions.{Session, is_open_in, publishes, open_publishers, active}
use Rattle.srt_route.specs.Buffers.{IsSeated}
use Rattle.srt_route.specs.declared.publisher_buffers.PublisherBuffers.{PublisherBuffers}
use Rattle.srt_route.specs.declared.publisher_buffers.PublisherBuffers.TheVariants.{First, Second}
use Rattle.srt_route.specs.Parts.{buffers_used, role_of}
use Rattle.srt_route.specs.PublisherBuffers.{place_of, is_same, other_buffers}
use Rattle.srt_route.specs.Tables.{IsStored, IsTable, IsPublishing, AreWide, Uses}
use Rattle.srt_route.specs.Tables.{buffers_by, used_buffers, buffers_of, publishes_from}
use Rattle.srt_route.specs.Seats.{session_passes}
use Rattle.srt_route.specs.inside.Standby.{unused_buffers}
use Rattle.srt_route.proofs.model.Found.{found_passes, open_parts}
use Rattle.srt_route.proofs.stored.Kept.{some_buffers, below_seats}
use Rattle.srt_route.proofs.stored.Seats.{other_publisher}
use Rattle.srt_route.proofs.stored.Stored.{alone_apart}
use Rattle.srt_route.proofs.stored.TwoBuffers.{other_from_not, apart_places, is_same_from, same_is}
use Rattle.srt_route.proofs.model.TakeOver.{AreApart, only_one, none_active, some_publisher, active_in_slot, active_publishes}

-- the other buffers stay
pub set_elsewhere : (ps : List Publisher) (b d : PublisherBuffers) (q p : Publisher)
    → (d ≡ b → ⊥) → get_or (set ps (place_of b) q) (place_of d) p ≡ get_or ps (place_of d) p
set_elsewhere ps b d q p other = get_or-set_other ps (place_of b) (place_of d) q p (apart_places b d other)

pub below_two : (b : PublisherBuffers) (ps : List Publisher) → length ps ≡ 2 → place_of b < length ps
below_two Second ps two = omega (arith, two)
below_two First ps two = omega (arith, two)

pub set_here : (ps : List Publisher) (b : PublisherBuffers) (q p : Publisher) → length ps ≡ 2 → get_or (set ps (place_of b) q) (place_of b) p ≡ q
set_here ps b q p two = get_or-set_same ps (place_of b) q p (below_two b ps two)

pub wide_set : (width : ℕ) (ps : List Publisher) (b : PublisherBuffers) (q : Publisher)
    → length ps ≡ 2 → AreWide width ps → publisher.width_of q ≡ width → AreWide width (set ps (place_of b) q)
wide_set width ps b q two wide is d p = by b d
  where
    by : (b d : PublisherBuffers) → publisher.width_of (get_or (set ps (place_of b) q) (place_of d) p) ≡ width
    by Second Second = ap publisher.width_of (set_here ps Second q p two) ∙ is
    by Second First = ap publisher.width_of (set_elsewhere ps Second First q p (λ h. let bad : First ≡ Second = h in absurd cc)) ∙ wide First p
    by First Second = ap publisher.width_of (set_elsewhere ps First Second q p (λ h. let bad : Second ≡ First = h in absurd cc)) ∙ wide Second p
    by First First = ap publisher.width_of (set_here ps First q p two) ∙ is

-- buffers that are put back into their place
pub set_again : (ps : List Publisher) (b d : PublisherBuffers) (q p : Publisher)
    → length ps ≡ 2 → q ≡ get_or ps (place_of b) q → get_or (set ps (place_of b) q) (place_of d) p ≡ get_or ps (place_of d) p
set_again ps b d q p two is = by b d is
  where
    here : (b : PublisherBuffers) → q ≡ get_or ps (place_of b) q → get_or (set ps (place_of b) q) (place_of b) p ≡ get_or ps (place_of b) p
    here b is = set_here ps b q p two ∙ (is ∙ get_or_default ps (place_of b) q p (below_two b ps two))

    by : (b d : PublisherBuffers) → q ≡ get_or ps (place_of b) q → get_or (set ps (place_of b) q) (place_of d) p ≡ get_or ps (place_of d) p
    by Second Second is = here Second is
    by Second First is = set_elsewhere ps Second First q p (λ h. let bad : First ≡ Second = h in absurd cc)
    by First Second is = set_elsewhere ps First Second q p (λ h. let bad : Second ≡ First = h in absurd cc)
    by First First is = here First is

-- the session of a seat with a publisher that uses these buffers
pub publishing_from : (e : Terms) (index clock : ℕ) (table : Table) (ss : List Session) (b : PublisherBuffers) (at : ℕ) (d : Seat)
    → IsTable e index clock table ss → at < length table.seats.items → publishes_from b (get_or table.seats.items at d) ≡ true
    → (s : Session) × IsPublishing ss at s × (used_buffers (get_or table.seats.items at d) ≡ b)
publishing_from e index clock table ss b at d is below h =
    by (get_or table.seats.items at d).session (find (is_open_in at) ss) refl (is.seats_are at d (some_buffers table) below).session_is h
  where
    by : (o : Option TheSession) (f : Option Session) → find (is_open_in at) ss ≡ f → IsStored e index o f
        → session_passes (λ t. publishes (role_of t.part) && is_same (buffers_used t.part) b) o ≡ true
        → (s : Session) × IsPublishing ss at s × (buffers_by o ≡ b)
    by None f found stored k = absurd (let bad : false ≡ true = k in cc)
    by (Some t) None found stored k = absurd stored
    by (Some t) (Some s) found stored k =
        let parts = and_parts (publishes (role_of t.part)) (is_same (buffers_used t.part) b) k in
        let opens : s.is_open ≡ true = (open_parts at s (found_passes (is_open_in at) ss s found)).0 in
        (s, record { found = found; publishes = rw (opens, ← stored.role_is) parts.0 }, is_same_from (buffers_used t.part) b parts.1)

-- the seat of a publisher's session
pub seat_publishes : (e : Terms) (index clock : ℕ) (table : Table) (ss : List Session) (b : PublisherBuffers) (at : ℕ) (d : Seat) (s : Session)
    → IsTable e index clock table ss → IsPublishing ss at s → used_buffers (get_or table.seats.items at d) ≡ b
    → publishes_from b (get_or table.seats.items at d) ≡ true
seat_publishes e index clock table ss b at d s is here uses =
    by (get_or table.seats.items at d).session
    (subst (λ (f : Option Session). IsStored e index (get_or table.seats.items at d).session f) here.found
    (is.seats_are at d (some_buffers table) (below_seats e index clock table ss at s is here.found)).session_is)
    uses
  where
    by : (o : Option TheSession) → IsStored e index o (Some s) → buffers_by o ≡ b
        → session_passes (λ t. publishes (role_of t.part) && is_same (buffers_used t.part) b) o ≡ true
    by None stored k = absurd stored
    by (Some t) stored k =
        let role : publishes (role_of t.part) ≡ true = ap publishes stored.role_is ∙ (and_parts s.is_open (publishes s.conclusion.role) here.publishes).1 in
        rw (role) (same_is (buffers_used t.part) b k)

pub some_seat : (e : Terms) (index clock : ℕ) (table : Table) (ss : List Session) (b : PublisherBuffers) (at : ℕ) (d : Seat) (s : Session)
    → IsTable e index clock table ss → IsPublishing ss at s → used_buffers (get_or table.seats.items at d) ≡ b
    → list_any (publishes_from b) table.seats.items ≡ true
some_seat e index clock table ss b at d s is here uses =
    list_any_at (publishes_from b) table.seats.items at d (below_seats e index clock table ss at s is here.found)
    (seat_publishes e index clock table ss b at d s is here uses)

-- if no seat has a publisher with these buffers, a publisher uses the others
pub uses_others : (e : Terms) (index clock : ℕ) (table : Table) (ss : List Session) (b : PublisherBuffers) (at : ℕ) (d : Seat) (s : Session)
    → IsTable e index clock table ss → list_any (publishes_from b) table.seats.items ≡ false → IsPublishing ss at s
    → used_buffers (get_or table.seats.items at d) ≡ other_buffers b
uses_others e index clock table ss b at d s is none here =
    other_from_not b (used_buffers (get_or table.seats.items at d))
    (λ h. absurd (let bad : true ≡ false = sym (some_seat e index clock table ss b at d s is here h) ∙ none in cc))

-- a seat that has one
pub record IsFrom (table : Table) (ss : List Session) (b : PublisherBuffers) : Type 0 where
  pub at : ℕ
  pub session : Session
  pub here : IsPublishing ss at session
  pub uses : Uses table at b

pub found_from : (e : Terms) (index clock : ℕ) (table : Table) (ss : List Session) (b : PublisherBuffers)
    → IsTable e index clock table ss → list_any (publishes_from b) table.seats.items ≡ true → IsFrom table ss b
found_from e index clock table ss b is some =
    let found = Any-from_list_any (publishes_from b) table.seats.items some in
    let it = publishing_from e index clock table ss b found.0 found.1 is found.2 (ap (publishes_from b) found.3 ∙ found.4) in
    record {
      at = found.0;
      session = it.0;
      here = it.1;
      uses = λ d. sym it.2 ∙ ap used_buffers (get_or_default table.seats.items found.0 found.1 d found.2);
    }

-- the first buffers are free, or the second are
pub unused : (e : Terms) (index clock : ℕ) (table : Table) (ss : List Session) (b : PublisherBuffers) → IsTable e index clock table ss
    → open_publishers ss ≤ 1 → b ≡ unused_buffers table.seats.items → (k : ℕ) (d : Seat) (u : Session) → IsPublishing ss k u
    → used_buffers (get_or table.seats.items k d) ≡ other_buffers b
unused e index clock table ss b is few b_is k d u here =
    by (list_any (publishes_from First) table.seats.items) refl ∙ sym (ap other_buffers b_is)
  where
    by : (h : Bool) → list_any (publishes_from First) table.seats.items ≡ h
        → used_buffers (get_or table.seats.items k d) ≡ other_buffers (cond h Second First)
    by false h = uses_others e index clock table ss First k d u is h here
    by true h =
        let other = found_from e index clock table ss First is h in
        let both : Some other.session ≡ Some u = sym (only_one ss other.at other.session few other.here.found other.here.publishes)
        ∙ only_one ss k u few here.found here.publishes in
        let one : other.session ≡ u = cc in
        let place : k ≡ other.at =
        sym (open_parts k u (found_passes (is_open_in k) ss u here.found)).1
        ∙ (ap (λ (x : Session). x.slot) (sym one)
        ∙ (open_parts other.at other.session (found_passes (is_open_in other.at) ss other.session other.here.found)).1) in
        ap (λ (n : ℕ). used_buffers (get_or table.seats.items n d)) place ∙ sym (other.uses d)

-- the buffers of one publisher change, and the others' stay
pub others_stay : (e : Terms) (index clock : ℕ) (table : Table) (ps : List Publisher) (ss : List Session) (at : ℕ) (s : Session) (b : PublisherBuffers)
    (q : Publisher)
    → IsTable e index clock table ss → IsPublishing ss at s → Uses table at b → ps ≡ set table.publishers.items (place_of b) q
    → (k : ℕ) (d : Seat) (p : Publisher) (u : Session) (z : Subscriber) → k ≢ at → find (is_open_in k) ss ≡ Some u
    → IsSeated e clock (buffers_of table.publishers.items (get_or table.seats.items k d) p) z u
    → IsSeated e clock (buffers_of ps (get_or table.seats.items k d) p) z u
others_stay e index clock table ps ss at s b q is here uses put k d p u z apart found h = elim (cases_Bool (publishes u.conclusion.role)) [
  | inl it_does ↦
      let opens : u.is_open ≡ true = (open_parts k u (found_passes (is_open_in k) ss u found)).0 in
      let publishing : IsPublishing ss k u = record { found = found; publishes = rw (opens, it_does) refl } in
      let other : (used_buffers (get_or table.seats.items k d) ≡ b → ⊥) =
      λ same. absurd (apart (is.publishers_are.apart k at d u s publishing here (same ∙ uses d))) in
      subst (λ (x : Publisher). IsSeated e clock x z u)
      (sym (ap (λ (xs : List Publisher). buffers_of xs (get_or table.seats.items k d) p) put
      ∙ set_elsewhere table.publishers.items b (used_buffers (get_or table.seats.items k d)) q p other))
      h
  | inr no_one ↦ other_publisher e clock (buffers_of table.publishers.items (get_or table.seats.items k d) p)
      (buffers_of ps (get_or table.seats.items k d) p) z u no_one h
]

-- a publisher whose buffers every other one uses is the only one, and so it is active
pub alone_is_active : (e : Terms) (index clock : ℕ) (table : Table) (ss : List Session) (at : ℕ) (d : Seat) (s : Session)
    → IsTable e index clock table ss → IsPublishing ss at s
    → ((k : ℕ) (t : Session)
    → IsPublishing ss k t → used_buffers (get_or table.seats.items at d) ≡ used_buffers (get_or table.seats.items k d))
    → active ss ≡ Some s
alone_is_active e index clock table ss at d s is here all = by (active ss) refl
  where
    apart : AreApart ss
    apart = (alone_apart e.sessions ss is.alone).0

    by : (o : Option Session) → active ss ≡ o → o ≡ Some s
    by None was = absurd (omega (arith, none_active ss was, some_publisher ss at s here.found here.publishes))
    by (Some t) was =
        let there : find (is_open_in t.slot) ss ≡ Some t = active_in_slot ss t apart was in
        let place : at ≡ t.slot =
        is.publishers_are.apart at t.slot d s t here (record { found = there; publishes = active_publishes ss t was })
        (all t.slot t (record { found = there; publishes = active_publishes ss t was })) in
        sym there ∙ (ap (λ (n : ℕ). find (is_open_in n) ss) (sym place) ∙ here.found)
