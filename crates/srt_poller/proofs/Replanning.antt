-- How plans change at the beginning of a round.
use Rattle.std.proofs.Common.{◌≡◌, ◌≢◌, ◌⊎◌, ◌∙◌, inl, inr, refl, sym, ap, subst, ℕ, zero, suc, ◌+◌, ◌-◌, ◌<◌, ◌≤◌, ◌==◌, nat_le, nat_lt, min}
use Rattle.std.proofs.Common.{Bool, true, false, not, cond, ◌&&◌, ◌||◌, Option, None, Some, IfSome}
use Rattle.std.proofs.Common.{List, [], ◌∷◌, ◌++◌, length, map, take, slice_get, slice_set, get_or}
use Rattle.std.proofs.Common.{append_assoc, append-nil, arith}
use Rattle.std.specs.Prelude.{if◌then◌else◌}
use Rattle.std.specs.List.{fold}
use Rattle.std.proofs.lemmas.Bool.{cases_lt, cases_eq, and_from, and_parts, not-true, ne_eqb}
use Rattle.std.proofs.lemmas.Bool.Decides.{nat_tests}
use Rattle.std.proofs.lemmas.List.{length-append, length-map, take_all}
use Rattle.std.proofs.lemmas.List.Folds.{list_any-append}
use Rattle.std.proofs.lemmas.Option.{slice_get-get_or, slice_get_within, slice_get_past}
use Rattle.srt_types.specs.declared.shared.Schedule.{Schedule}
use Rattle.srt_lobby.specs.Names.{RouteName}
use Rattle.srt_lobby.specs.Changing.{shown_at, IsUnused, AreHidden}
use Rattle.srt_poller.specs.declared.plans.Plan.{Plan}
use Rattle.srt_poller.specs.Schedules.{has_come, opened}
use Rattle.srt_poller.specs.Beginnings.{all_shown, NoneMayOpen}
use Rattle.srt_poller.specs.Beforehand.{SameBefore, OpenLater, AgreeBefore}
use Rattle.srt_poller.specs.Openings.{NewRoute, names_in}
use Rattle.srt_poller.specs.Plans.{never, schedule_of, texts_of, is_requested, IsBefore, OpensInTime, Became, IsNewPlan, IsPlanOf, ArePlans, AreTimely}
use Rattle.srt_poller.specs.Plans.{Settled, waiting}
use Rattle.srt_poller.specs.Starts.{RoundStart, round_start, IsNameUsed, IsUsedIn, ClosesAllIn, IsKeptIn}
use Rattle.srt_poller.specs.Plans.{sooner, closed_from, may_open, update_at, with_open_round}
use Rattle.srt_poller.specs.Changes.{Opens}
use Rattle.srt_poller.proofs.ShownInRound.{no_schedule, opened_step, texts_opened, as_many}
use Rattle.srt_poller.proofs.Starting.{Grow, kept_grows, grow_none, grow_left, used_last, closes_last, grow_last, starts_more, grow_more, used_shown, is_used}

-- lists that go on
pub get_left : {A : Type 0} (xs ys : List A) (r : ℕ) → r < length xs → slice_get (xs ++ ys) r ≡ slice_get xs r
get_left [] ys r within = absurd (omega (arith, within))
get_left (x ∷ xs) ys zero within = refl
get_left (x ∷ xs) ys (suc r) within = get_left xs ys r (omega (arith, within))

get_right : {A : Type 0} (xs ys : List A) (n : ℕ) → slice_get (xs ++ ys) (length xs + n) ≡ slice_get ys n
get_right [] ys n = let same : 0 + n ≡ n = omega arith in ap (slice_get ys) same
get_right (x ∷ xs) ys n =
    let same : suc (length xs) + n ≡ suc (length xs + n) = omega arith in
    ap (slice_get (x ∷ xs ++ ys)) same ∙ get_right xs ys n

-- one plan changed
pub many_updated : (f : Schedule → Schedule) (ps : List Schedule) (r : ℕ) → length (update_at f ps r) ≡ length ps
many_updated f [] r = refl
many_updated f (p ∷ ps) zero = refl
many_updated f (p ∷ ps) (suc r) = ap suc (many_updated f ps r)

pub updated_here : (f : Schedule → Schedule) (ps : List Schedule) (r : ℕ) (s : Schedule) → slice_get ps r ≡ Some s →
    slice_get (update_at f ps r) r ≡ Some (f s)
updated_here f [] r s h = cc
updated_here f (p ∷ ps) zero s h = let same : p ≡ s = cc in ap (λ q. Some (f q)) same
updated_here f (p ∷ ps) (suc r) s h = updated_here f ps r s h

pub updated_other : (f : Schedule → Schedule) (ps : List Schedule) (r i : ℕ) → i ≢ r → slice_get (update_at f ps r) i ≡ slice_get ps i
updated_other f [] r i apart = refl
updated_other f (p ∷ ps) zero zero apart = absurd (apart refl)
updated_other f (p ∷ ps) zero (suc i) apart = refl
updated_other f (p ∷ ps) (suc r) zero apart = refl
updated_other f (p ∷ ps) (suc r) (suc i) apart = updated_other f ps r i (λ same. apart (ap suc same))

pub updated_plan : (f : Schedule → Schedule) (ps : List Plan) (r : ℕ) (p q : Plan) → slice_get ps r ≡ Some p → schedule_of q ≡ f (schedule_of p) →
    map schedule_of (slice_set ps r q) ≡ update_at f (map schedule_of ps) r
updated_plan f [] r p q h same = cc
updated_plan f (x ∷ ps) zero p q h same =
    let here : p ≡ x = cc in ap (λ (s : Schedule). s ∷ map schedule_of ps) (same ∙ ap (λ (y : Plan). f (schedule_of y)) here)
updated_plan f (x ∷ ps) (suc r) p q h same = ap (λ (l : List Schedule). schedule_of x ∷ l) (updated_plan f ps r p q h same)

pub take_updated : (f : Schedule → Schedule) (ps : List Schedule) (r : ℕ) → take r (update_at f ps r) ≡ take r ps
take_updated f [] r = refl
take_updated f (p ∷ ps) zero = refl
take_updated f (p ∷ ps) (suc r) = ap (λ (l : List Schedule). p ∷ l) (take_updated f ps r)

-- what agrees before a round
module _ (k : ℕ) where
  same_before : (s : Schedule) → SameBefore k s s
  same_before s j early = (refl, refl)

  pub agree_none : (ps : List Schedule) → AgreeBefore k ps ps []
  agree_none [] = tt
  agree_none (p ∷ ps) = (same_before p, agree_none ps)

  pub agree_update : (f : Schedule → Schedule) (ps : List Schedule) (r : ℕ) → ((s : Schedule) → slice_get ps r ≡ Some s → SameBefore k s (f s)) →
      AgreeBefore k ps (update_at f ps r) []
  agree_update f [] r h = tt
  agree_update f (p ∷ ps) zero h = (h p refl, agree_none ps)
  agree_update f (p ∷ ps) (suc r) h = (same_before p, agree_update f ps r h)

  pub agree_append : (ps later : List Schedule) (more : List RouteName) → OpenLater k later more → AgreeBefore k ps (ps ++ later) more
  agree_append [] later more h = h
  agree_append (p ∷ ps) later more h = (same_before p, agree_append ps later more h)

  open_later_then : (ps qs : List Schedule) (ms ns : List RouteName) → OpenLater k ps ms → AgreeBefore k ps qs ns → OpenLater k qs (ms ++ ns)
  open_later_then [] qs [] ns h agree = agree
  open_later_then [] qs (m ∷ ms) ns h agree = absurd h
  open_later_then (p ∷ ps) qs [] ns h agree = absurd h
  open_later_then (p ∷ ps) [] (m ∷ ms) ns h agree = absurd agree
  open_later_then (p ∷ ps) (q ∷ qs) (m ∷ ms) ns h agree =
      (λ j early. (agree.0 j early).0 ∙ h.0 j early, h.1, open_later_then ps qs ms ns h.2 agree.1)

  pub agree_then : (ps qs rs : List Schedule) (ms ns : List RouteName) → AgreeBefore k ps qs ms → AgreeBefore k qs rs ns → AgreeBefore k ps rs (ms ++ ns)
  agree_then [] qs rs ms ns h g = open_later_then qs rs ms ns h g
  agree_then (p ∷ ps) [] rs ms ns h g = absurd h
  agree_then (p ∷ ps) (q ∷ qs) [] ms ns h g = absurd g
  agree_then (p ∷ ps) (q ∷ qs) (r ∷ rs) ms ns h g =
      (λ j early. ((g.0 j early).0 ∙ (h.0 j early).0, (g.0 j early).1 ∙ (h.0 j early).1), agree_then ps qs rs ms ns h.1 g.1)

  other_number : (n j : ℕ) → j < k → k ≤ n → (n == j) ≡ false
  other_number n j early late = grind (arith, nat_tests)

  -- added routes wait
  pub wait_later : k ≤ never → (added : List NewRoute) → AreHidden (names_in added) → OpenLater k (map (λ n. waiting) added) (names_in added)
  wait_later small [] hidden = tt
  wait_later small (n ∷ added) hidden = (λ j early. other_number never j early small, hidden.0, wait_later small added hidden.1)

  -- an opening round that is not before this one becomes another such
  pub same_opening : (s : Schedule) (n : ℕ) → k ≤ s.open_round → k ≤ n → SameBefore k s (with_open_round n s)
  same_opening s n late late' j early = (other_number n j early late' ∙ sym (other_number s.open_round j early late), refl)

  -- a route is requested to close
  sooner_comes : (j : ℕ) → j < k → (o : Option ℕ) → has_come j (Some (sooner k o)) ≡ has_come j o
  sooner_comes j early None = let past : nat_le k j ≡ false = grind (arith, nat_tests) in past
  sooner_comes j early (Some c) = by (cases_lt j c)
    where
      by : (j < c) ⊎ (c ≤ j) → nat_le (min c k) j ≡ nat_le c j
      by (inl past) =
          let small : j < min c k = omega (arith, early, past) in
          let a : nat_le (min c k) j ≡ false = grind (arith, nat_tests) in
          let b : nat_le c j ≡ false = grind (arith, nat_tests) in
          a ∙ sym b
      by (inr come) =
          let small : min c k ≤ j = omega (arith, come) in
          let a : nat_le (min c k) j ≡ true = grind (arith, nat_tests) in
          let b : nat_le c j ≡ true = grind (arith, nat_tests) in
          a ∙ sym b

  pub same_closing : k ≤ never → (s : Schedule) → SameBefore k s (closed_from k s)
  same_closing small s j early = (by (nat_lt s.open_round k) refl, sooner_comes j early s.close_round)
    where
      by : (b : Bool) → nat_lt s.open_round k ≡ b → (cond b s.open_round never == j) ≡ (s.open_round == j)
      by true is = refl
      by false is =
          let late : k ≤ s.open_round = grind (arith, nat_tests) in
          other_number never j early small ∙ sym (other_number s.open_round j early late)

  pub agree_closed : k ≤ never → (requested : List ℕ) (ps : List Schedule) → AgreeBefore k ps (fold (update_at (closed_from k)) ps requested) []
  agree_closed small [] ps = agree_none ps
  agree_closed small (r ∷ requested) ps =
      agree_then ps (update_at (closed_from k) ps r) _ [] [] (agree_update (closed_from k) ps r (λ s at. same_closing small s))
      (agree_closed small requested (update_at (closed_from k) ps r))

-- a plan in a later round, with other reasons to wait, and beside more names
before_later : (k : ℕ) (o : Option ℕ) → IsBefore k o → IsBefore (suc k) o
before_later k None h = h
before_later k (Some c) h = omega (arith, h)

time_later : (k came : ℕ) (S : List RoundStart) (r : ℕ) (t : Schedule) → OpensInTime k came ⊥ S r t → OpensInTime (suc k) came (Unit {0}) S r t
time_later k came S r t h j from until before unclosed = by (cases_lt j k)
  where
    by : (j < k) ⊎ (k ≤ j) → IsKeptIn S r j ⊎ ((suc j ≡ suc k) × Unit {0})
    by (inl early) = elim (h j from early before unclosed) [
      | inl kept ↦ inl kept
      | inr w ↦ absurd w.1
    ]
    by (inr past) = inr (omega (arith, past, until), tt)

time_as : (k came : ℕ) (W W' : Type 0) (S S' : List RoundStart) (r : ℕ) (t : Schedule) → (W → W') → Grow S S' → OpensInTime k came W S r t →
    OpensInTime k came W' S' r t
time_as k came W W' S S' r t f grow h j from until before unclosed = elim (h j from until before unclosed) [
  | inl kept ↦ inl (kept_grows S S' r j grow kept)
  | inr w ↦ inr (w.0, f w.1)
]

plan_later : (k : ℕ) (S : List RoundStart) (r : ℕ) (a : Bool) (o : Option Schedule) (t : Schedule) → IsPlanOf k ⊥ S r a o t →
    IsPlanOf (suc k) (Unit {0}) S r a o t
plan_later k S r a (Some s) t h = record {
  same = h.same;
  in_time = time_later k s.open_round S r t h.in_time;
  opened = opened h.opened;
  later = h.later;
  missed = λ is. missed (h.missed is);
  kept = h.kept;
  sooner = h.sooner;
  closes = λ is. before_later k t.close_round (h.closes is);
}
  where
    missed : (s.open_round < k) ⊎ (a ≡ true) → (s.open_round < suc k) ⊎ (a ≡ true)
    missed (inl early) = inl (omega (arith, early))
    missed (inr is) = inr is

    opened : (t.open_round ≡ s.open_round) ⊎ ((t.open_round < k) ⊎ (t.open_round ≡ never)) →
        (t.open_round ≡ s.open_round) ⊎ ((t.open_round < suc k) ⊎ (t.open_round ≡ never))
    opened (inl is) = inl is
    opened (inr (inl early)) = inr (inl (omega (arith, early)))
    opened (inr (inr is)) = inr (inr is)
plan_later k S r a None t h = record {
  came = h.came;
  is_early = let early = h.is_early in omega (arith, early);
  in_time = time_later k h.came S r t h.in_time;
  opened = opened h.opened;
  later = h.later;
  kept = h.kept;
  closes = λ is. before_later k t.close_round (h.closes is);
}
  where
    opened : (t.open_round < k) ⊎ (t.open_round ≡ never) → (t.open_round < suc k) ⊎ (t.open_round ≡ never)
    opened (inl early) = inl (omega (arith, early))
    opened (inr is) = inr is

pub plan_as : (k : ℕ) (W W' : Type 0) (S S' : List RoundStart) (r : ℕ) (a : Bool) (o : Option Schedule) (t : Schedule) → (W → W') → Grow S S' →
    IsPlanOf k W S r a o t → IsPlanOf k W' S' r a o t
plan_as k W W' S S' r a (Some s) t w grow h = record {
  same = λ free. h.same (λ u. free (grow.used r s.open_round u));
  in_time = time_as k s.open_round W W' S S' r t w grow h.in_time;
  opened = h.opened;
  later = h.later;
  missed = h.missed;
  kept = h.kept;
  sooner = h.sooner;
  closes = h.closes;
}
plan_as k W W' S S' r a None t w grow h = record {
  came = h.came;
  is_early = h.is_early;
  in_time = time_as k h.came W W' S S' r t w grow h.in_time;
  opened = h.opened;
  later = h.later;
  kept = h.kept;
  closes = h.closes;
}

pub plans_as : (k : ℕ) (W W' : ℕ → Type 0) (S S' : List RoundStart) (schedules : List Schedule) (texts : List (List ℕ)) (requested : List ℕ)
    (ps : List Schedule) → ((r : ℕ) → r < length ps → W r → W' r) → Grow S S' → ArePlans k W S schedules texts requested ps →
    ArePlans k W' S' schedules texts requested ps
plans_as k W W' S S' schedules texts requested ps w grow h = record {
  as_many = h.as_many;
  fewer = h.fewer;
  known = h.known;
  each = λ r t at.
      plan_as k (W r) (W' r) S S' r _ (slice_get schedules r) t (w r (slice_get_within ps r t at)) grow (h.each r t at);
}

pub plans_later : (k : ℕ) (S : List RoundStart) (schedules : List Schedule) (texts : List (List ℕ)) (requested : List ℕ) (ps : List Schedule) →
    ArePlans k (λ r. ⊥) S schedules texts requested ps → ArePlans (suc k) (λ r. Unit {0}) S schedules texts requested ps
plans_later k S schedules texts requested ps h = record {
  as_many = h.as_many;
  fewer = h.fewer;
  known = h.known;
  each = λ r t at. plan_later k S r _ (slice_get schedules r) t (h.each r t at);
}

-- added routes wait
waits_there : (added : List NewRoute) (i : ℕ) (t : Schedule) → slice_get (map (λ n. waiting) added) i ≡ Some t → t ≡ waiting
waits_there [] i t h = cc
waits_there (n ∷ added) zero t h = let same : waiting ≡ t = cc in sym same
waits_there (n ∷ added) (suc i) t h = waits_there added i t h

-- one that came before this round, or in the last of some rounds
waits_new : (k round : ℕ) (W : Type 0) (S : List RoundStart) (r : ℕ) (a : Bool) (t : Schedule) → k ≤ never → k ≤ round - 1 → round ≤ suc k → W →
    t ≡ waiting → (a ≡ true → ⊥) → IsNewPlan round W S r a t
waits_new k round W S r a t small early last w is un = record {
  came = k;
  is_early = early;
  in_time = λ j from until before unclosed. inr (omega (arith, from, until, last), w);
  opened = inr (ap (λ (s : Schedule). s.open_round) is);
  later = let opens : t.open_round ≡ never = ap (λ (s : Schedule). s.open_round) is in omega (arith, small, opens);
  kept = λ unrequested. ap (λ (s : Schedule). s.close_round) is;
  closes = λ requested. absurd (un requested);
}

module _ (k round : ℕ) (W W' : ℕ → Type 0) (S S' : List RoundStart) (schedules : List Schedule) (texts more : List (List ℕ)) (requested : List ℕ)
    (ps : List Schedule) (added : List NewRoute)
    (old : (r : ℕ) (a : Bool) (o : Option Schedule) (t : Schedule) → r < length ps → IsPlanOf k (W r) S r a o t → IsPlanOf round (W' r) S' r a o t)
    (new : (r : ℕ) (a : Bool) (t : Schedule) → length ps ≤ r → t ≡ waiting → (a ≡ true → ⊥) → IsNewPlan round (W' r) S' r a t) where
  plans_with : length more ≡ length added → ArePlans k W S schedules texts requested ps →
      ArePlans round W' S' schedules (texts ++ more) requested (ps ++ map (λ n. waiting) added)
  plans_with many h = record {
    as_many = let a = h.as_many in omega (arith, a, many, length-append ps ws, length-append texts more, length-map added (λ n. waiting));
    fewer = omega (arith, h.fewer, length-append ps ws);
    known = λ r is. omega (arith, h.known r is, length-append ps ws);
    each = λ r t at. by r t at (cases_lt r (length ps));
  }
    where
      ws : List Schedule
      ws = map (λ n. waiting) added

      beyond : (r n : ℕ) (t : Schedule) → r ≡ length ps + n → slice_get (ps ++ ws) r ≡ Some t →
          IsPlanOf round (W' r) S' r (is_requested requested r) (slice_get schedules r) t
      beyond r n t same at =
          let none : slice_get schedules r ≡ None = slice_get_past schedules r (omega (arith, same, h.fewer)) in
          let here : t ≡ waiting = waits_there added n t (sym (get_right ps ws n) ∙ ap (slice_get (ps ++ ws)) (sym same) ∙ at) in
          let unrequested : is_requested requested r ≡ true → ⊥ = λ is. let within = h.known r is in omega (arith, within, same) in
          subst (λ (o : Option Schedule). IsPlanOf round (W' r) S' r (is_requested requested r) o t) (sym none)
          (new r (is_requested requested r) t (omega (arith, same)) here unrequested)

      by : (r : ℕ) (t : Schedule) → slice_get (ps ++ ws) r ≡ Some t → (r < length ps) ⊎ (length ps ≤ r) →
          IsPlanOf round (W' r) S' r (is_requested requested r) (slice_get schedules r) t
      by r t at (inl within) =
          old r (is_requested requested r) (slice_get schedules r) t within (h.each r t (sym (get_left ps ws r within) ∙ at))
      by r t at (inr past) = beyond r (r - length ps) t (omega (arith, past)) at

-- routes that are added before a round
pub plans_appended : (k : ℕ) (S : List RoundStart) (schedules : List Schedule) (texts more : List (List ℕ)) (requested : List ℕ) (ps : List Schedule)
    (added : List NewRoute) → k ≤ never → length more ≡ length added → ArePlans k (λ r. ⊥) S schedules texts requested ps →
    ArePlans (suc k) (λ r. Unit {0}) S schedules (texts ++ more) requested (ps ++ map (λ n. waiting) added)
plans_appended k S schedules texts more requested ps added small many h =
    plans_with k (suc k) (λ r. ⊥) (λ r. Unit {0}) S S schedules texts more requested ps added (λ r a o t within plan. plan_later k S r a o t plan)
    (λ r a t past is un. waits_new k (suc k) (Unit {0}) S r a t small (omega arith) (omega arith) tt is un) many h

-- routes that are added after the last round: they still wait
pub plans_late : (k : ℕ) (S : List RoundStart) (schedules : List Schedule) (texts more : List (List ℕ)) (requested : List ℕ) (ps : List Schedule)
    (added : List NewRoute) → k ≤ never → length more ≡ length added → ArePlans k (λ r. ⊥) S schedules texts requested ps →
    ArePlans k (λ r. length ps ≤ r) (starts_more (names_in added) S) schedules (texts ++ more) requested (ps ++ map (λ n. waiting) added)
plans_late k S schedules texts more requested ps added small many h =
    plans_with k k (λ r. ⊥) (λ r. length ps ≤ r) S (starts_more (names_in added) S) schedules texts more requested ps added
    (λ r a o t within plan. plan_as k ⊥ (length ps ≤ r) S (starts_more (names_in added) S) r a o t (λ w. absurd w) (grow_more (names_in added) S) plan)
    (λ r a t past is un. waits_new (k - 1) k (length ps ≤ r) (starts_more (names_in added) S) r a t (omega (arith, small)) (omega arith) (omega arith)
    past is un) many h

-- routes that are requested to close
pub or_true : (b : Bool) → (b || true) ≡ true
or_true true = refl
or_true false = refl

pub or_false : (b : Bool) → (b || false) ≡ b
or_false true = refl
or_false false = refl

pub requested_more : (requested : List ℕ) (r i : ℕ) → is_requested (requested ++ r ∷ []) i ≡ (is_requested requested i || (r == i))
requested_more requested r i =
    list_any-append (λ (route : ℕ). route == i) requested (r ∷ []) ∙ ap (λ (b : Bool). is_requested requested i || b) (or_false (r == i))

requested_itself : (r : ℕ) → (r == r) ≡ true
requested_itself r = grind (arith, nat_tests)

pub requested_other : (r i : ℕ) → i ≢ r → (r == i) ≡ false
requested_other r i apart = grind (arith, nat_tests)

plan_closed : (k : ℕ) (W : Type 0) (S : List RoundStart) (r : ℕ) (a : Bool) (o : Option Schedule) (t : Schedule) → k ≤ never →
    IfSome o (λ s. s.open_round < never) → IsPlanOf (suc k) W S r a o t → IsPlanOf (suc k) W S r true o (closed_from k t)
plan_closed k W S r a o t small timely h = by o timely h
  where
    closes : (c : Option ℕ) → sooner k c < suc k
    closes None = omega arith
    closes (Some n) = omega arith

    comes : (j : ℕ) (c : Option ℕ) → has_come j c ≡ true → nat_le (sooner k c) j ≡ true
    comes j None is = cc
    comes j (Some n) is =
        let come : n ≤ j = grind (arith, nat_tests) in
        let small : min n k ≤ j = omega (arith, come) in
        grind (arith, nat_tests)

    same : (s : Schedule) → (t.open_round ≡ s.open_round) ⊎ ((a ≡ true) × (t.open_round ≡ never)) → (b : Bool) →
        (cond b t.open_round never ≡ s.open_round) ⊎ ((true ≡ true) × (cond b t.open_round never ≡ never))
    same s (inl is) true = inl is
    same s (inr is) true = inr (refl, is.1)
    same s is false = inr (refl, refl)

    later : (n : ℕ) → n ≤ never → n ≤ t.open_round → (b : Bool) → n ≤ cond b t.open_round never
    later n small le true = le
    later n small le false = small

    early : (j : ℕ) (c : Option ℕ) → nat_le (sooner k c) j ≡ false → j < k
    early j None unclosed = grind (arith, nat_tests)
    early j (Some n) unclosed = let less : j < min n k = grind (arith, nat_tests) in omega (arith, less)

    opened_now : (b : Bool) → nat_lt t.open_round k ≡ b → (cond b t.open_round never < suc k) ⊎ (cond b t.open_round never ≡ never)
    opened_now true is = let less : t.open_round < k = grind (arith, nat_tests) in inl (omega (arith, less))
    opened_now false is = inr refl

    opens : (j : ℕ) → j < k → (b : Bool) → nat_lt t.open_round k ≡ b → j < cond b t.open_round never → j < t.open_round
    opens j before true is less = less
    opens j before false is less = let past : k ≤ t.open_round = grind (arith, nat_tests) in omega (arith, past, before)

    in_time : (came : ℕ) → OpensInTime (suc k) came W S r t → OpensInTime (suc k) came W S r (closed_from k t)
    in_time came h j from until before unclosed =
        let less : j < k = early j t.close_round unclosed in
        h j from until (opens j less (nat_lt t.open_round k) refl before) (sym (sooner_comes k j less t.close_round) ∙ unclosed)

    came_in : (came : ℕ) → came ≤ suc k - 1 → came ≤ never
    came_in came h = omega (arith, h, small)

    by : (o : Option Schedule) → IfSome o (λ s. s.open_round < never) → IsPlanOf (suc k) W S r a o t → IsPlanOf (suc k) W S r true o (closed_from k t)
    by (Some s) timely h = record {
      same = λ free. same s (h.same free) (nat_lt t.open_round k);
      in_time = in_time s.open_round h.in_time;
      opened = inr (opened_now (nat_lt t.open_round k) refl);
      later = later s.open_round (omega (arith, timely)) h.later (nat_lt t.open_round k);
      missed = λ is. inr refl;
      kept = λ is. absurd (let bad : ⊥ = cc in bad);
      sooner = λ j is. comes j t.close_round (h.sooner j is);
      closes = λ is. closes t.close_round;
    }
    by None timely h = record {
      came = h.came;
      is_early = h.is_early;
      in_time = in_time h.came h.in_time;
      opened = opened_now (nat_lt t.open_round k) refl;
      later = later h.came (came_in h.came h.is_early) h.later (nat_lt t.open_round k);
      kept = λ is. absurd (let bad : ⊥ = cc in bad);
      closes = λ is. closes t.close_round;
    }

pub timely_at : (schedules : List Schedule) → AreTimely schedules → (r : ℕ) → IfSome (slice_get schedules r) (λ s. s.open_round < never)
timely_at schedules timely r = by (slice_get schedules r) refl
  where
    by : (o : Option Schedule) → slice_get schedules r ≡ o → IfSome o (λ s. s.open_round < never)
    by (Some s) at = timely r s at
    by None at = _

module _ (k : ℕ) (W : ℕ → Type 0) (S : List RoundStart) (schedules : List Schedule) (texts : List (List ℕ)) (small : k ≤ never) (timely : AreTimely schedules)
  where
    closed_one : (requested : List ℕ) (ps : List Schedule) (r : ℕ) → r < length ps → ArePlans (suc k) W S schedules texts requested ps →
        ArePlans (suc k) W S schedules texts (requested ++ r ∷ []) (update_at (closed_from k) ps r)
    closed_one requested ps r within h = record {
      as_many = many_updated (closed_from k) ps r ∙ h.as_many;
      fewer = omega (arith, h.fewer, many_updated (closed_from k) ps r);
      known = λ i is. known i is (cases_eq i r);
      each = λ i t at. each i t at (cases_eq i r);
    }
      where
        known : (i : ℕ) → is_requested (requested ++ r ∷ []) i ≡ true → (i ≡ r) ⊎ (i ≢ r) → i < length (update_at (closed_from k) ps r)
        known i is (inl same) = omega (arith, same, within, many_updated (closed_from k) ps r)
        known i is (inr apart) =
            let old : is_requested requested i ≡ true =
            by (is_requested requested i)
            (ap (λ (b : Bool). is_requested requested i || b) (sym (requested_other r i apart)) ∙ sym (requested_more requested r i) ∙ is) in
            let was = h.known i old in omega (arith, was, many_updated (closed_from k) ps r)
          where
            by : (b : Bool) → (b || false) ≡ true → b ≡ true
            by true e = refl
            by false e = e

        here : (t : Schedule) → slice_get (update_at (closed_from k) ps r) r ≡ Some t →
            IsPlanOf (suc k) (W r) S r (is_requested (requested ++ r ∷ []) r) (slice_get schedules r) t
        here t is =
            let s : Schedule = get_or ps r no_schedule in
            let at : slice_get ps r ≡ Some s = slice_get-get_or ps r no_schedule within in
            let same : closed_from k s ≡ t = let e : Some (closed_from k s) ≡ Some t = sym (updated_here (closed_from k) ps r s at) ∙ is in cc in
            let asks : is_requested (requested ++ r ∷ []) r ≡ true =
            requested_more requested r r ∙ ap (λ (b : Bool). is_requested requested r || b) (requested_itself r) ∙ or_true (is_requested requested r) in
            subst (λ (q : Schedule). IsPlanOf (suc k) (W r) S r (is_requested (requested ++ r ∷ []) r) (slice_get schedules r) q) same
            (subst (λ (b : Bool). IsPlanOf (suc k) (W r) S r b (slice_get schedules r) (closed_from k s)) (sym asks)
            (plan_closed k (W r) S r (is_requested requested r) (slice_get schedules r) s small (timely_at schedules timely r) (h.each r s at)))

        each : (i : ℕ) (t : Schedule) → slice_get (update_at (closed_from k) ps r) i ≡ Some t → (i ≡ r) ⊎ (i ≢ r) →
            IsPlanOf (suc k) (W i) S i (is_requested (requested ++ r ∷ []) i) (slice_get schedules i) t
        each i t at (inl same) =
            subst (λ (n : ℕ). IsPlanOf (suc k) (W n) S n (is_requested (requested ++ r ∷ []) n) (slice_get schedules n) t) (sym same)
            (here t (ap (slice_get (update_at (closed_from k) ps r)) (sym same) ∙ at))
        each i t at (inr apart) =
            let asks : is_requested requested i ≡ is_requested (requested ++ r ∷ []) i =
            sym (requested_more requested r i ∙ ap (λ (b : Bool). is_requested requested i || b) (requested_other r i apart)
            ∙ or_false (is_requested requested i)) in
            subst (λ (b : Bool). IsPlanOf (suc k) (W i) S i b (slice_get schedules i) t) asks
            (h.each i t (sym (updated_other (closed_from k) ps r i apart) ∙ at))

    pub plans_closed : (new requested : List ℕ) (ps : List Schedule) → ((i : ℕ) → is_requested new i ≡ true → i < length ps) →
        ArePlans (suc k) W S schedules texts requested ps → ArePlans (suc k) W S schedules texts (requested ++ new) (fold (update_at (closed_from k)) ps new)
    plans_closed [] requested ps known h = subst (λ (l : List ℕ). ArePlans (suc k) W S schedules texts l ps) (sym (append-nil requested)) h
    plans_closed (r ∷ new) requested ps known h =
        let ps' = update_at (closed_from k) ps r in
        let first : is_requested (r ∷ new) r ≡ true = ap (λ (b : Bool). b || is_requested new r) (requested_itself r) in
        let rest = plans_closed new (requested ++ r ∷ []) ps'
        (λ i is. let was = known i (either (r == i) (is_requested new i) is) in omega (arith, was, many_updated (closed_from k) ps r))
        (closed_one requested ps r (known r first) h) in
        subst (λ (l : List ℕ). ArePlans (suc k) W S schedules texts l (fold (update_at (closed_from k)) ps' new)) (append_assoc requested (r ∷ []) new) rest
      where
        either : (a b : Bool) → b ≡ true → (a || b) ≡ true
        either true b is = refl
        either false b is = is

-- one route is checked: it is visible, it waits, or there is nothing to do
number_as : (a b : ℕ) → (a == b) ≡ true → a ≡ b
number_as a b is = grind (arith, nat_tests)

number_is : (a b : ℕ) → a ≡ b → (a == b) ≡ true
number_is a b is = grind (arith, nat_tests)

number_isnt : (a b : ℕ) → (a ≡ b → ⊥) → (a == b) ≡ false
number_isnt a b apart = ne_eqb a b apart

-- why it may become visible in this round
pub data Comes (k : ℕ) (t : Schedule) : Type 0 where
  ComesNow : t.open_round ≡ k → Comes k t
  Waited : t.open_round ≡ never → has_come k t.close_round ≡ false → Comes k t

why : (k : ℕ) (t : Schedule) → may_open k t ≡ true → Comes k t
why k t is = by (t.open_round == k) refl is
  where
    waits : ((t.open_round == never) && not (has_come k t.close_round)) ≡ true → Comes k t
    waits h = let p = and_parts _ _ h in Waited (number_as t.open_round never p.0) (not-true _ p.1)

    by : (b : Bool) → (t.open_round == k) ≡ b → (b || ((t.open_round == never) && not (has_come k t.close_round))) ≡ true → Comes k t
    by true e h = ComesNow (number_as t.open_round k e)
    by false e h = waits h

closed_before : (k : ℕ) (c : Option ℕ) → IsBefore (suc k) c → has_come k c ≡ false → ⊥
closed_before k None h e = h
closed_before k (Some n) h e = let come : nat_le n k ≡ true = grind (arith, nat_tests) in let bad : true ≡ false = sym come ∙ e in cc

closed_now : (k : ℕ) (c : Option ℕ) → has_come k c ≡ false → not (has_come k c) ≡ true
closed_now k c h = ap not h

module _ (k : ℕ) (small : k < never) (S S' : List RoundStart) (grow : Grow S S') (r : ℕ) (a : Bool) (t : Schedule) (comes : Comes k t) where
  -- the round of the schedule has come
  has_passed : (W : Type 0) (s : Schedule) → Became (suc k) W S r a s t → s.open_round ≤ k
  has_passed W s h = by comes
    where
      missed : (s.open_round < suc k) ⊎ (a ≡ true) → has_come k t.close_round ≡ false → s.open_round ≤ k
      missed (inl early) e = omega (arith, early)
      missed (inr is) e = absurd (closed_before k t.close_round (h.closes is) e)

      by : Comes k t → s.open_round ≤ k
      by (ComesNow is) = omega (arith, is, h.later)
      by (Waited is e) = missed (h.missed is) e

  -- it hasn't opened before
  not_yet : (j : ℕ) → j < k → j < t.open_round
  not_yet j early = by comes
    where
      by : Comes k t → j < t.open_round
      by (ComesNow is) = omega (arith, is, early)
      by (Waited is e) = omega (arith, is, early, small)

  earlier : (came : ℕ) → OpensInTime (suc k) came (Unit {0}) S r t → (j : ℕ) → came ≤ j → j < k → has_come j t.close_round ≡ false → IsKeptIn S' r j
  earlier came h j from early unclosed = elim (h j from (omega (arith, early)) (not_yet j early) unclosed) [
    | inl kept ↦ kept_grows S S' r j grow kept
    | inr w ↦ absurd (let same = w.0 in let bad : ⊥ = omega (arith, same, early) in bad)
  ]

  plan_opened : (o : Option Schedule) → IfSome o (λ s. s.open_round < never) → IsPlanOf (suc k) (Unit {0}) S r a o t →
      IsPlanOf (suc k) ⊥ S' r a o (with_open_round k t)
  plan_opened (Some s) timely h = record {
    same = λ free. same (h.same (λ u. free (grow.used r s.open_round u))) comes;
    in_time = λ j from until before unclosed. inl (earlier s.open_round h.in_time j from before unclosed);
    opened = inr (inl (omega arith));
    later = has_passed (Unit {0}) s h;
    missed = λ is. inl (let past = has_passed (Unit {0}) s h in omega (arith, past));
    kept = h.kept;
    sooner = h.sooner;
    closes = h.closes;
  }
    where
      same : (t.open_round ≡ s.open_round) ⊎ ((a ≡ true) × (t.open_round ≡ never)) → Comes k t → (k ≡ s.open_round) ⊎ ((a ≡ true) × (k ≡ never))
      same (inl is) (ComesNow now) = inl (sym now ∙ is)
      same (inl is) (Waited wait e) = absurd (omega (arith, is, wait, timely))
      same (inr is) (ComesNow now) = inr (is.0, sym now ∙ is.1)
      same (inr is) (Waited wait e) = absurd (closed_before k t.close_round (h.closes is.0) e)
  plan_opened None timely h = record {
    came = h.came;
    is_early = h.is_early;
    in_time = λ j from until before unclosed. inl (earlier h.came h.in_time j from before unclosed);
    opened = inl (omega arith);
    later = let early = h.is_early in omega (arith, early);
    kept = h.kept;
    closes = h.closes;
  }

  plan_waits : (o : Option Schedule) → IfSome o (λ s. s.open_round < never) → IsUsedIn S' r k → IsPlanOf (suc k) (Unit {0}) S r a o t →
      IsPlanOf (suc k) ⊥ S' r a o (with_open_round never t)
  plan_waits o timely used h = by o timely h
    where
      in_time : (came : ℕ) → OpensInTime (suc k) came (Unit {0}) S r t → OpensInTime (suc k) came ⊥ S' r (with_open_round never t)
      in_time came h j from until before unclosed = by (cases_lt j k)
        where
          by : (j < k) ⊎ (k ≤ j) → IsKeptIn S' r j ⊎ ((suc j ≡ suc k) × ⊥)
          by (inl early) = inl (earlier came h j from early unclosed)
          by (inr past) =
              let same : k ≡ j = omega (arith, past, until) in
              inl (inr (subst (λ (n : ℕ). IsUsedIn S' r n) same used))

      same : (s : Schedule) → s.open_round < never → (IsUsedIn S' r s.open_round → ⊥) → Comes k t →
          (t.open_round ≡ s.open_round) ⊎ ((a ≡ true) × (t.open_round ≡ never)) → (never ≡ s.open_round) ⊎ ((a ≡ true) × (never ≡ never))
      same s timely free (ComesNow now) (inl is) = absurd (free (subst (λ (n : ℕ). IsUsedIn S' r n) (sym now ∙ is) used))
      same s timely free (Waited wait e) (inl is) = absurd (let bad : ⊥ = omega (arith, is, wait, timely) in bad)
      same s timely free now (inr is) = inr (is.0, refl)

      by : (o : Option Schedule) → IfSome o (λ s. s.open_round < never) → IsPlanOf (suc k) (Unit {0}) S r a o t →
          IsPlanOf (suc k) ⊥ S' r a o (with_open_round never t)
      by (Some s) timely h = record {
        same = λ free. same s timely free comes (h.same (λ u. free (grow.used r s.open_round u)));
        in_time = in_time s.open_round h.in_time;
        opened = inr (inr refl);
        later = omega (arith, timely);
        missed = λ is. inl (let past = has_passed (Unit {0}) s h in omega (arith, past));
        kept = h.kept;
        sooner = h.sooner;
        closes = h.closes;
      }
      by None timely h = record {
        came = h.came;
        is_early = h.is_early;
        in_time = in_time h.came h.in_time;
        opened = inr refl;
        later = let early = h.is_early in omega (arith, early, small);
        kept = h.kept;
        closes = h.closes;
      }

-- a route with nothing to do in this round, or one that closes all
module _ (k : ℕ) (S S' : List RoundStart) (grow : Grow S S') (r : ℕ) (a : Bool) (t : Schedule) where
  decided : (came : ℕ) → (came ≤ k → k < t.open_round → has_come k t.close_round ≡ false → IsKeptIn S' r k) → OpensInTime (suc k) came (Unit {0}) S r t →
      OpensInTime (suc k) came ⊥ S' r t
  decided came now h j from until before unclosed = elim (h j from until before unclosed) [
    | inl kept ↦ inl (kept_grows S S' r j grow kept)
    | inr w ↦
        let same : k ≡ j = let e = w.0 in omega (arith, e) in
        inl (subst (λ (n : ℕ). IsKeptIn S' r n) same
        (now (let le : came ≤ k = omega (arith, from, same) in le) (let less : k < t.open_round = omega (arith, before, same) in less)
        (ap (λ (n : ℕ). has_come n t.close_round) same ∙ unclosed)))
  ]

  plan_decided : (o : Option Schedule)
      → ((came : ℕ) → (came ≤ k → k < t.open_round → t.open_round ≡ never) → came ≤ k → k < t.open_round → has_come k t.close_round ≡ false → IsKeptIn S' r k)
      → IsPlanOf (suc k) (Unit {0}) S r a o t → IsPlanOf (suc k) ⊥ S' r a o t
  plan_decided (Some s) now h = record {
    same = λ free. h.same (λ u. free (grow.used r s.open_round u));
    in_time = decided s.open_round (now s.open_round (λ came before. unopened came before h.opened)) h.in_time;
    opened = h.opened;
    later = h.later;
    missed = h.missed;
    kept = h.kept;
    sooner = h.sooner;
    closes = h.closes;
  }
    where
      unopened : s.open_round ≤ k → k < t.open_round → (t.open_round ≡ s.open_round) ⊎ ((t.open_round < suc k) ⊎ (t.open_round ≡ never)) →
          t.open_round ≡ never
      unopened came before (inl is) = absurd (let bad : ⊥ = omega (arith, is, came, before) in bad)
      unopened came before (inr (inl early)) = absurd (let bad : ⊥ = omega (arith, early, before) in bad)
      unopened came before (inr (inr is)) = is
  plan_decided None now h = record {
    came = h.came;
    is_early = h.is_early;
    in_time = decided h.came (now h.came (λ came before. unopened before h.opened)) h.in_time;
    opened = h.opened;
    later = h.later;
    kept = h.kept;
    closes = h.closes;
  }
    where
      unopened : k < t.open_round → (t.open_round < suc k) ⊎ (t.open_round ≡ never) → t.open_round ≡ never
      unopened before (inl early) = absurd (let bad : ⊥ = omega (arith, early, before) in bad)
      unopened before (inr is) = is

  plan_rests : (o : Option Schedule) → may_open k t ≡ false → IsPlanOf (suc k) (Unit {0}) S r a o t → IsPlanOf (suc k) ⊥ S' r a o t
  plan_rests o rests h =
      plan_decided o (λ came unopened from before unclosed.
      let waits : (t.open_round == never) ≡ true = number_is t.open_round never (unopened from before) in
      let may : may_open k t ≡ true =
      or_right (t.open_round == k) _ (and_from _ _ waits (closed_now k t.close_round unclosed)) in
      absurd (let bad : true ≡ false = sym may ∙ rests in let wrong : ⊥ = cc in wrong)) h
    where
      or_right : (x y : Bool) → y ≡ true → (x || y) ≡ true
      or_right true y e = refl
      or_right false y e = e

  plan_kept : (o : Option Schedule) → ClosesAllIn S' k → IsPlanOf (suc k) (Unit {0}) S r a o t → IsPlanOf (suc k) ⊥ S' r a o t
  plan_kept o closes h = plan_decided o (λ came unopened from before unclosed. inl closes) h

-- a round that closes all, and one in which nothing may open
pub settled_closing : (k : ℕ) (names : List RouteName) (texts : List (List ℕ)) (ps : List Schedule) → Settled (round_start k true names) texts ps ps
settled_closing k names texts ps S schedules requested timely h = record {
  as_many = h.as_many;
  fewer = h.fewer;
  known = h.known;
  each = λ r t at.
      plan_kept k S (S ++ round_start k true names ∷ []) (grow_left S (round_start k true names ∷ [])) r _ t (slice_get schedules r)
      (closes_last S (round_start k true names) refl) (h.each r t at);
}

rests_at : (k : ℕ) (ps : List Schedule) (r : ℕ) (t : Schedule) → NoneMayOpen k ps → slice_get ps r ≡ Some t → may_open k t ≡ false
rests_at k [] r t rests at = cc
rests_at k (p ∷ ps) zero t rests at = let same : p ≡ t = cc in ap (may_open k) (sym same) ∙ rests.0
rests_at k (p ∷ ps) (suc r) t rests at = rests_at k ps r t rests.1 at

pub settled_resting : (k : ℕ) (names : List RouteName) (texts : List (List ℕ)) (ps : List Schedule) → NoneMayOpen k ps →
    Settled (round_start k false names) texts ps ps
settled_resting k names texts ps rests S schedules requested timely h = record {
  as_many = h.as_many;
  fewer = h.fewer;
  known = h.known;
  each = λ r t at.
      plan_rests k S (S ++ round_start k false names ∷ []) (grow_left S (round_start k false names ∷ [])) r _ t (slice_get schedules r)
      (rests_at k ps r t rests at) (h.each r t at);
}

-- the routes up to one were checked
pub record LookedAt (k i : ℕ) (ps ps' : List Schedule) (ns ns' : List RouteName) : Type 0 where
  pub as_many : length ps' ≡ length ps
  pub named : ns' ≡ opened k (take i ps') ns
  pub rest : (j : ℕ) → i ≤ j → slice_get ps' j ≡ slice_get ps j
  pub agree : AgreeBefore k ps ps' []
  pub planned : (S : List RoundStart) (schedules : List Schedule) (requested : List ℕ) → AreTimely schedules
      → ArePlans (suc k) (λ r. Unit {0}) S schedules (texts_of ns) requested ps
      → ArePlans (suc k) (λ r. i ≤ r) (S ++ round_start k false ns' ∷ []) schedules (texts_of ns) requested ps'

pub looked_none : (k : ℕ) (ps : List Schedule) (ns : List RouteName) → LookedAt k 0 ps ps ns ns
looked_none k ps ns = record {
  as_many = refl;
  named = refl;
  rest = λ j late. refl;
  agree = agree_none k ps;
  planned = λ S schedules requested timely h.
      plans_as (suc k) (λ r. Unit {0}) (λ r. 0 ≤ r) S (S ++ round_start k false ns ∷ []) schedules (texts_of ns) requested ps (λ r within w. omega arith)
      (grow_left S (round_start k false ns ∷ [])) h;
}

pub looked_all : (k i : ℕ) (ps ps' : List Schedule) (ns ns' : List RouteName) → length ps ≤ i → LookedAt k i ps ps' ns ns' → Opens k ps ps' ns ns'
looked_all k i ps ps' ns ns' all h = record {
  as_many = h.as_many;
  agree = h.agree;
  named = h.named ∙ ap (λ (l : List Schedule). opened k l ns) (take_all i ps' (let a = h.as_many in omega (arith, a, all)));
  planned = λ S schedules requested timely plans.
      let starts = S ++ round_start k false ns' ∷ [] in
      plans_as (suc k) (λ r. i ≤ r) (λ r. ⊥) starts starts schedules (texts_of ns) requested ps'
      (λ r within late. let a = h.as_many in let bad : ⊥ = omega (arith, a, all, within, late) in bad) (grow_none starts)
      (h.planned S schedules requested timely plans);
}

-- the next one has this plan now
module _ (k i : ℕ) (ps middle ps' : List Schedule) (ns ns' ns'' : List RouteName) (t : Schedule) (many : length ps ≡ length ns)
    (h : LookedAt k i ps middle ns ns') (at : slice_get middle i ≡ Some t) where
  module _ (f : Schedule → Schedule) (is : ps' ≡ update_at f middle i) where
    next_rest : (j : ℕ) → suc i ≤ j → slice_get ps' j ≡ slice_get ps j
    next_rest j late =
        ap (λ (l : List Schedule). slice_get l j) is ∙ updated_other f middle i j (λ same. let bad : ⊥ = omega (arith, same, late) in bad)
        ∙ h.rest j (omega (arith, late))

    next_named : (if◌then◌else◌ {A = List RouteName} ((f t).open_round == k) (shown_at i ns') ns') ≡ ns'' → ns'' ≡ opened k (take (suc i) ps') ns
    next_named e =
        let here : slice_get ps' i ≡ Some (f t) = ap (λ (l : List Schedule). slice_get l i) is ∙ updated_here f middle i t at in
        let as_many : length ps' ≡ length ns = ap length is ∙ many_updated f middle i ∙ h.as_many ∙ many in
        let before : opened k (take i ps') ns ≡ ns' = ap (λ (l : List Schedule). opened k l ns) (ap (take i) is ∙ take_updated f middle i) ∙ sym h.named in
        let count : i + 1 ≡ suc i = omega arith in
        sym (
        ap (λ (n : ℕ). opened k (take n ps') ns) (sym count) ∙ opened_step k i ps' (f t) ns here as_many
        ∙ ap (λ (l : List RouteName). if◌then◌else◌ ((f t).open_round == k) (shown_at i l) l) before ∙ e
        )

    module _ (grows : (r : ℕ) → IsNameUsed ns' r → IsNameUsed ns'' r) where
      next_planned : ((S : List RoundStart) (a : Bool) (o : Option Schedule) → IfSome o (λ s. s.open_round < never) →
          IsPlanOf (suc k) (Unit {0}) (S ++ round_start k false ns' ∷ []) i a o t → IsPlanOf (suc k) ⊥ (S ++ round_start k false ns'' ∷ []) i a o (f t)) →
          (S : List RoundStart) (schedules : List Schedule) (requested : List ℕ) → AreTimely schedules →
          ArePlans (suc k) (λ r. Unit {0}) S schedules (texts_of ns) requested ps →
          ArePlans (suc k) (λ r. suc i ≤ r) (S ++ round_start k false ns'' ∷ []) schedules (texts_of ns) requested ps'
      next_planned plan S schedules requested timely plans = record {
        as_many = ap length is ∙ many_updated f middle i ∙ g.as_many;
        fewer = omega (arith, g.fewer, ap length is, many_updated f middle i);
        known = λ r asks. let was = g.known r asks in omega (arith, was, ap length is, many_updated f middle i);
        each = λ r s there. each r s (ap (λ (l : List Schedule). slice_get l r) (sym is) ∙ there) (cases_eq r i);
      }
        where
          old : List RoundStart
          old = S ++ round_start k false ns' ∷ []

          new : List RoundStart
          new = S ++ round_start k false ns'' ∷ []

          g : ArePlans (suc k) (λ r. i ≤ r) old schedules (texts_of ns) requested middle
          g = h.planned S schedules requested timely plans

          here : (s : Schedule) → slice_get (update_at f middle i) i ≡ Some s →
              IsPlanOf (suc k) (suc i ≤ i) new i (is_requested requested i) (slice_get schedules i) s
          here s there =
              let same : f t ≡ s = let e : Some (f t) ≡ Some s = sym (updated_here f middle i t at) ∙ there in cc in
              subst (λ (q : Schedule). IsPlanOf (suc k) (suc i ≤ i) new i (is_requested requested i) (slice_get schedules i) q) same
              (plan_as (suc k) ⊥ (suc i ≤ i) new new i (is_requested requested i) (slice_get schedules i) (f t) (λ w. absurd w) (grow_none new)
              (plan S (is_requested requested i) (slice_get schedules i) (timely_at schedules timely i)
              (plan_as (suc k) (i ≤ i) (Unit {0}) old old i (is_requested requested i) (slice_get schedules i) t (λ w. tt) (grow_none old) (g.each i t at))))

          each : (r : ℕ) (s : Schedule) → slice_get (update_at f middle i) r ≡ Some s → (r ≡ i) ⊎ (r ≢ i) →
              IsPlanOf (suc k) (suc i ≤ r) new r (is_requested requested r) (slice_get schedules r) s
          each r s there (inl same) =
              subst (λ (n : ℕ). IsPlanOf (suc k) (suc i ≤ n) new n (is_requested requested n) (slice_get schedules n) s) (sym same)
              (here s (ap (slice_get (update_at f middle i)) (sym same) ∙ there))
          each r s there (inr apart) =
              plan_as (suc k) (i ≤ r) (suc i ≤ r) old new r (is_requested requested r) (slice_get schedules r) s
              (λ late. omega (arith, late, apart)) (grow_last k false ns' ns'' grows S) (g.each r s (sym (updated_other f middle i r apart) ∙ there))

    pub looked_next : ((r : ℕ) → IsNameUsed ns' r → IsNameUsed ns'' r) → SameBefore k t (f t) →
        (if◌then◌else◌ {A = List RouteName} ((f t).open_round == k) (shown_at i ns') ns') ≡ ns'' →
        ((S : List RoundStart) (a : Bool) (o : Option Schedule) → IfSome o (λ s. s.open_round < never) →
        IsPlanOf (suc k) (Unit {0}) (S ++ round_start k false ns' ∷ []) i a o t → IsPlanOf (suc k) ⊥ (S ++ round_start k false ns'' ∷ []) i a o (f t)) →
        LookedAt k (suc i) ps ps' ns ns''
    looked_next grows same e plan = record {
      as_many = ap length is ∙ many_updated f middle i ∙ h.as_many;
      named = next_named e;
      rest = next_rest;
      agree = agree_then k ps middle ps' [] [] h.agree
          (subst (λ (l : List Schedule). AgreeBefore k middle l []) (sym is)
          (agree_update k f middle i (λ s there. let same_s : t ≡ s = let e : Some t ≡ Some s = sym at ∙ there in cc in
          subst (λ (q : Schedule). SameBefore k q (f q)) same_s same)));
      planned = next_planned grows plan;
    }

pub timely_more : (schedules : List Schedule) (s : Schedule) → s.open_round < never → AreTimely schedules → AreTimely (schedules ++ s ∷ [])
timely_more schedules s timely h r t at = by (cases_lt r (length schedules))
  where
    last : (n : ℕ) → r ≡ length schedules + n → slice_get (s ∷ []) n ≡ Some t → t.open_round < never
    last zero same is = let here : s ≡ t = cc in subst (λ (q : Schedule). q.open_round < never) here timely
    last (suc n) same is = cc

    by : (r < length schedules) ⊎ (length schedules ≤ r) → t.open_round < never
    by (inl within) = h r t (sym (get_left schedules (s ∷ []) r within) ∙ at)
    by (inr past) =
        let n = r - length schedules in
        let same : r ≡ length schedules + n = omega (arith, past) in
        last n same (sym (get_right schedules (s ∷ []) n) ∙ ap (slice_get (schedules ++ s ∷ [])) (sym same) ∙ at)

pub looked_known : {k i : ℕ} {ps ps' : List Schedule} {ns ns' : List RouteName} → length ps ≡ length ns → LookedAt k i ps ps' ns ns' →
    length ps' ≡ length ns'
looked_known {k} {i} {ps} {ps'} {ns} {ns'} known h =
    h.as_many ∙ known ∙ sym (as_many ns' ns (ap all_shown h.named ∙ texts_opened k (take i ps') ns))

-- a route becomes visible in this round; or another visible route has its name, and it waits
abbrev pub OpensOne : (round r : ℕ) → (plans plans' : List Schedule) → (names names' : List RouteName) → Type 0
OpensOne round r plans plans' names names' =
    ((plans' ≡ update_at (with_open_round round) plans r) × (names' ≡ shown_at r names))
    ⊎ ((IsUnused r names → ⊥) × (plans' ≡ update_at (with_open_round never) plans r) × (names' ≡ names))

-- the next route may become visible
pub looked_opens : (k i : ℕ) (ps middle ps' : List Schedule) (ns ns' ns'' : List RouteName) (t : Schedule) → k < never → length ps ≡ length ns →
    LookedAt k i ps middle ns ns' → slice_get middle i ≡ Some t → may_open k t ≡ true → OpensOne k i middle ps' ns' ns'' →
    LookedAt k (suc i) ps ps' ns ns''
looked_opens k i ps middle ps' ns ns' ns'' t small known h at may opens = by opens
  where
    comes : Comes k t
    comes = why k t may

    late : Comes k t → k ≤ t.open_round
    late (ComesNow is) = omega (arith, is)
    late (Waited is e) = omega (arith, is, small)

    by : OpensOne k i middle ps' ns' ns'' → LookedAt k (suc i) ps ps' ns ns''
    by (inl shown) =
        let grows : (r : ℕ) → IsNameUsed ns' r → IsNameUsed ns'' r =
        λ r u. subst (λ (l : List RouteName). IsNameUsed l r) (sym shown.1) (used_shown i ns' r u) in
        looked_next k i ps middle ps' ns ns' ns'' t known h at (with_open_round k) shown.0 grows (same_opening k t k (late comes) (omega arith))
        (ap (λ (b : Bool). if◌then◌else◌ b (shown_at i ns') ns') (number_is k k refl) ∙ sym shown.1)
        (λ S a o timely plan. plan_opened k small (S ++ round_start k false ns' ∷ []) (S ++ round_start k false ns'' ∷ []) (grow_last k false ns' ns'' grows S)
        i a t comes o timely plan)
    by (inr used) =
        let grows : (r : ℕ) → IsNameUsed ns' r → IsNameUsed ns'' r = λ r u. subst (λ (l : List RouteName). IsNameUsed l r) (sym used.2) u in
        let in_use : IsNameUsed ns'' i = grows i (is_used ns' i used.0) in
        looked_next k i ps middle ps' ns ns' ns'' t known h at (with_open_round never) used.1 grows
        (same_opening k t never (late comes) (omega (arith, small)))
        (ap (λ (b : Bool). if◌then◌else◌ b (shown_at i ns') ns') (number_isnt never k (λ same. let bad : ⊥ = omega (arith, small, same) in bad)) ∙ sym used.2)
        (λ S a o timely plan. plan_waits k small (S ++ round_start k false ns' ∷ []) (S ++ round_start k false ns'' ∷ []) (grow_last k false ns' ns'' grows S)
        i a t comes o timely (used_last S (round_start k false ns'') i in_use) plan)

-- the next route has nothing to do
pub looked_rests : (k i : ℕ) (ps middle : List Schedule) (ns ns' : List RouteName) (t : Schedule) → length ps ≡ length ns →
    LookedAt k i ps middle ns ns' → slice_get middle i ≡ Some t → may_open k t ≡ false → LookedAt k (suc i) ps middle ns ns'
looked_rests k i ps middle ns ns' t known h at rests =
    looked_next k i ps middle middle ns ns' ns' t known h at (λ s. s) (sym (not_updated middle i)) (λ r u. u) (same_before k t)
    (ap (λ (b : Bool). if◌then◌else◌ b (shown_at i ns') ns') (or_none (t.open_round == k) _ rests))
    (λ S a o timely plan. plan_rests k (S ++ round_start k false ns' ∷ []) (S ++ round_start k false ns' ∷ []) (grow_none (S ++ round_start k false ns' ∷ []))
    i a t o rests plan)
  where
    or_none : (x y : Bool) → (x || y) ≡ false → x ≡ false
    or_none true y e = e
    or_none false y e = refl

    not_updated : (qs : List Schedule) (r : ℕ) → update_at (λ s. s) qs r ≡ qs
    not_updated [] r = refl
    not_updated (q ∷ qs) zero = refl
    not_updated (q ∷ qs) (suc r) = ap (λ (l : List Schedule). q ∷ l) (not_updated qs r)

-- before the first round
pub plans_at_first : (k : ℕ) (schedules : List Schedule) (texts : List (List ℕ)) → length schedules ≡ length texts → AreTimely schedules →
    ArePlans k (λ r. ⊥) [] schedules texts [] schedules
plans_at_first k schedules texts many timely = record {
  as_many = many;
  fewer = omega arith;
  known = λ r is. absurd (let bad : ⊥ = cc in bad);
  each = λ r t at. subst (λ (o : Option Schedule). IsPlanOf k ⊥ [] r false o t) (sym at) (itself r t (timely r t at));
}
  where
    itself : (r : ℕ) (t : Schedule) → t.open_round < never → Became k ⊥ [] r false t t
    itself r t small = record {
      same = λ free. inl refl;
      in_time = λ j from until before unclosed. absurd (let bad : ⊥ = omega (arith, from, before) in bad);
      opened = inl refl;
      later = omega arith;
      missed = λ is. absurd (let bad : ⊥ = omega (arith, is, small) in bad);
      kept = λ is. refl;
      sooner = λ j is. is;
      closes = λ is. absurd (let bad : ⊥ = cc in bad);
    }
