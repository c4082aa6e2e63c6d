-- Routes at rest: the table that is opened for one, and how a table shows that its route rests.
use Rattle.std.proofs.Common.{◌≡◌, ℕ, ◌<◌, ◌^◌, Bool, true, false, cond, ◌&&◌, ◌||◌, ◌==◌, Option, None, Some, List, [], ◌∷◌, ◌++◌}
use Rattle.std.proofs.Common.{length, find, get_or, not, suc, refl, sym, ap, subst, ◌∙◌, inl, inr, arith}
use Rattle.std.proofs.Common.{nat_lt}
use Rattle.std.specs.List.{list_all}
use Rattle.std.specs.Option.{option_or}
use Rattle.std.proofs.lemmas.Bool.Decides.{nat_tests}
use Rattle.std.proofs.lemmas.Bool.{and_from, cases_lt}
use Rattle.std.proofs.lemmas.List.{get_or_append_left, get_or_at, length-append}
use Rattle.std.proofs.lemmas.List.Folds.{list_all_at}
use Rattle.srt_types.specs.Terms.{Terms}
use Rattle.srt_sub.specs.Stands as subscriber
use Rattle.srt_sub.specs.declared.session.Subscriber.{Subscriber}
use Rattle.srt_route.specs.declared.seat.Session.{Session as TheSession}
use Rattle.srt_route.specs.declared.seat.Seat.{Seat}
use Rattle.srt_route.specs.declared.table.Table.{Table}
use Rattle.srt_types.specs.declared.shared.OpenFault.{OpenFault}
use Rattle.srt_types.specs.declared.shared.OpenFault.TheVariants.{Limits}
use Rattle.srt_route.specs.Opening.{fault_at_rest, fault_of}
use Rattle.srt_route.specs.RouteKeys.{has_secured_role}
use Rattle.srt_route.specs.Route.{Route}
use Rattle.srt_route.specs.Rests.{is_any_open, IsResting}
use Rattle.srt_route.specs.Sessions.{Session, is_open_in}
use Rattle.srt_route.specs.Tables.{IsStored, IsTable, AreWide, IsAlone, AreAlone, is_vacant}
use Rattle.srt_route.proofs.model.Found.{found_in_place}
use Rattle.srt_route.proofs.stored.Kept.{some_buffers}
use Rattle.srt_route.proofs.steps.Starting.{limits_hold}

-- a vacant seat in which so many sessions were opened
abbrev pub IsCounted : (width generation : ℕ) → Seat → Type 0
IsCounted width generation z = (z.generation ≡ generation) × (z.session ≡ None) × subscriber.IsWide width z.subscriber

-- vacant seats with these generations
abbrev pub AreCounted : (width : ℕ) (generations : List ℕ) → List Seat → Type 0
AreCounted width generations seats =
    (k : ℕ) (d : Seat) → k < length seats → IsCounted width (get_or generations k 0) (get_or seats k d)

-- one more seat
pub counted_pushed : (width : ℕ) (generations : List ℕ) (xs ys : List Seat) (x : Seat) (u : Subscriber) (g : ℕ)
    → ys ≡ xs ++ x ∷ [] → AreCounted width generations xs
    → x ≡ record { generation = g; session = None; subscriber = u } → g ≡ get_or generations (length xs) 0 → subscriber.IsWide width u
    → AreCounted width generations ys
counted_pushed width generations xs ys x u g same counted new is wide k d below =
    subst (λ (zs : List Seat). IsIt k (get_or zs k d)) (sym same) (elim (cases_lt k (length xs)) [
      | inl inside ↦ subst (IsIt k) (sym (get_or_append_left xs (x ∷ []) d k inside)) (counted k d inside)
      | inr outside ↦
          let last : length xs ≡ k = omega (arith, outside, below, ap length same, length-append xs (x ∷ [])) in
          subst (IsIt k) (sym (get_or_at xs x [] d k last)) (
            ap (λ (z : Seat). z.generation) new ∙ is ∙ ap (λ (n : ℕ). get_or generations n 0) last,
            ap (λ (z : Seat). z.session) new,
            subst (λ (z : Seat). subscriber.IsWide width z.subscriber) (sym new) wide,
          )
    ])
  where
    IsIt : ℕ → Seat → Type 0
    IsIt n z = IsCounted width (get_or generations n 0) z

nobody_in : (ss : List Session) (at : ℕ) → is_any_open ss ≡ false → find (is_open_in at) ss ≡ None
nobody_in [] at h = refl
nobody_in (s ∷ ss) at h = by (λ k. nobody_in ss at k) s.is_open h
  where
    by : (is_any_open ss ≡ false → find (is_open_in at) ss ≡ None) → (b : Bool) → (b || is_any_open ss) ≡ false
        → cond (b && s.slot == at) (Some s) (find (is_open_in at) ss) ≡ None
    by rest true k = absurd (let bad : true ≡ false = k in cc)
    by rest false k = rest k

all_alone : (places : ℕ) (ss : List Session) → is_any_open ss ≡ false → AreAlone places ss
all_alone places [] h = tt
all_alone places (s ∷ ss) h = by (λ k. all_alone places ss k) s.is_open refl h
  where
    by : (is_any_open ss ≡ false → AreAlone places ss) → (b : Bool) → s.is_open ≡ b → (b || is_any_open ss) ≡ false
        → (s.is_open ≡ true → IsAlone places s ss) × AreAlone places ss
    by rest true is k = absurd (let bad : true ≡ false = k in cc)
    by rest false is k = ((λ o. absurd (let bad : false ≡ true = sym is ∙ o in cc)), rest k)

-- the table represents all sessions of which none is open and that have these generations
pub table_resting : (e : Terms) (index clock : ℕ) (generations : List ℕ) (table : Table) (m : Route)
    → fault_of e index ≡ None → table.index ≡ index → table.mode ≡ e.mode
    → table.latency_ms ≡ e.latency_ms → table.buffer ≡ e.buffer → table.rules ≡ e.rules → AreWide e.buffer table.publishers.items
    → length table.seats.items ≡ e.sessions → AreCounted e.buffer generations table.seats.items
    → clock < 2 ^ 62 → IsResting e.sessions m clock generations → IsTable e index clock table m.sessions
table_resting e index clock generations table m free index_is mode_is latency_is buffer_is rules_are publishers_wide places_are counted early rests =
    record {
      limits = limits_hold e index free;
      early = early;
      index_is = index_is;
      mode_is = mode_is;
      latency_is = latency_is;
      buffer_is = buffer_is;
      rules_are = rules_are;
      publishers_wide = publishers_wide;
      places_are = places_are;
      seats_are = λ at d p below.
          let is = counted at d below in
          let nobody = nobody_in m.sessions at rests.none_open in
          record {
            session_is = subst (λ (o : Option TheSession). IsStored e index o (find (is_open_in at) m.sessions)) (sym is.1)
                (subst (λ (o : Option Session). IsStored e index None o) (sym nobody) tt);
            count_is = is.0 ∙ rests.counts at (omega (arith, below, places_are));
            wide = is.2;
            seated = λ s found. absurd (let bad : None ≡ Some s = sym nobody ∙ found in cc);
          };
      alone = all_alone e.sessions m.sessions rests.none_open;
      publishers_are = record {
        apart = λ at k d s t one other both. absurd (let bad : None ≡ Some s = sym (nobody_in m.sessions at rests.none_open) ∙ one.found in cc);
        leading_is_active = λ at d s one first. absurd (let bad : None ≡ Some s = sym (nobody_in m.sessions at rests.none_open) ∙ one.found in cc);
      };
    }

list_all_from : (zs : List Seat) → ((at : ℕ) (d : Seat) → at < length zs → is_vacant (get_or zs at d) ≡ true) → list_all is_vacant zs ≡ true
list_all_from [] h = refl
list_all_from (z ∷ zs) h =
    and_from (is_vacant z) (list_all is_vacant zs) (h 0 z (omega arith)) (list_all_from zs (λ at d below. h (suc at) d (omega (arith, below))))

some_seat : (zs : List Seat) → {at : ℕ} → at < length zs → Seat
some_seat [] below = absurd (omega (arith, below))
some_seat (z ∷ zs) below = z

-- if a session is open, one is found
open_found : (ss : List Session) → is_any_open ss ≡ true → (s : Session) × (find (λ (s : Session). s.is_open) ss ≡ Some s)
open_found [] h = absurd (let bad : false ≡ true = h in cc)
open_found (s ∷ ss) h = by (λ k. open_found ss k) s.is_open h
  where
    by : (is_any_open ss ≡ true → (t : Session) × (find (λ (s : Session). s.is_open) ss ≡ Some t)) → (b : Bool) → (b || is_any_open ss) ≡ true
        → (t : Session) × (cond b (Some s) (find (λ (s : Session). s.is_open) ss) ≡ Some t)
    by rest true k = (s, refl)
    by rest false k = rest k

-- a seat without a session is of a slot in which none is open, and the reverse
vacant_without : (e : Terms) (index : ℕ) (o : Option TheSession) (z : Seat) → z.session ≡ o → IsStored e index o None → is_vacant z ≡ true
vacant_without e index None z is h = rw (is) refl
vacant_without e index (Some t) z is h = absurd h

vacant_with : (e : Terms) (index : ℕ) (o : Option TheSession) (s : Session) (z : Seat)
    → z.session ≡ o → IsStored e index o (Some s) → is_vacant z ≡ false
vacant_with e index None s z is h = absurd h
vacant_with e index (Some t) s z is h = rw (is) refl

-- all seats are vacant exactly if no session is open
pub vacant_at_rest : (e : Terms) (index clock : ℕ) (table : Table) (ss : List Session) (b : Bool)
    → is_any_open ss ≡ b → IsTable e index clock table ss → list_all is_vacant table.seats.items ≡ not b
vacant_at_rest e index clock table ss false none h = list_all_from table.seats.items (λ at d below.
    let is = h.seats_are at d (some_buffers table) below in
    vacant_without e index (get_or table.seats.items at d).session (get_or table.seats.items at d) refl
    (subst (λ (o : Option Session). IsStored e index (get_or table.seats.items at d).session o) (nobody_in ss at none) is.session_is))
vacant_at_rest e index clock table ss true one h =
    let open_one = open_found ss one in
    let place = found_in_place (λ (s : Session). s.is_open) (λ s o. o) e.sessions ss h.alone open_one.0 open_one.1 in
    let at = open_one.0.slot in
    let below : at < length table.seats.items = omega (arith, place.0, h.places_are) in
    let z = some_seat table.seats.items below in
    let is = h.seats_are at z (some_buffers table) below in
    list_all_at is_vacant table.seats.items at z below
    (vacant_with e index (get_or table.seats.items at z).session open_one.0 (get_or table.seats.items at z) refl
    (subst (λ (o : Option Session). IsStored e index (get_or table.seats.items at z).session o) place.1 is.session_is))

-- without a fault, the entry and the index have none, and the clock is within its limit
pub rest_holds : (e : Terms) (index clock count : ℕ) → fault_at_rest e index clock count ≡ None → (fault_of e index ≡ None) × (clock < 2 ^ 62)
rest_holds e index clock count = by (fault_of e index) refl
  where
    early : (counted below : Bool) → nat_lt clock (2 ^ 62) ≡ below → cond (counted && below) None (Some Limits) ≡ None → clock < 2 ^ 62
    early counted true is h = grind (arith, nat_tests, is)
    early true false is h = absurd (let bad : Some Limits ≡ None = h in cc)
    early false false is h = absurd (let bad : Some Limits ≡ None = h in cc)

    unsecured : (secured : Bool)
        → cond secured (Some Limits) (cond (count == e.sessions && nat_lt clock (2 ^ 62)) None (Some Limits)) ≡ None → clock < 2 ^ 62
    unsecured true h = absurd (let bad : Some Limits ≡ None = h in cc)
    unsecured false h = early (count == e.sessions) (nat_lt clock (2 ^ 62)) refl h

    by : (fault : Option OpenFault) → fault_of e index ≡ fault
        → option_or fault
        (cond (has_secured_role e) (Some Limits) (cond (count == e.sessions && nat_lt clock (2 ^ 62)) None (Some Limits))) ≡ None
        → (fault_of e index ≡ None) × (clock < 2 ^ 62)
    by None is h = (is, unsecured (has_secured_role e) h)
    by (Some fault) is h = absurd (let bad : Some fault ≡ None = h in cc)
