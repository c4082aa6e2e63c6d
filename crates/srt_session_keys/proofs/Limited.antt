-- A route, and each group of addresses, is limited.
use Rattle.std.proofs.Common.{◌≡◌, ℕ, ◌+◌, ◌-◌, ◌*◌, ◌<◌, ◌≤◌, ◌==◌, max, Bool, true, false}
use Rattle.std.proofs.Common.{List, [], ◌∷◌, ◌++◌, refl, sym, ap, ◌∙◌, arith, slice_index, length, add-one, subst}
use Rattle.std.proofs.lemmas.List.{get_or-set_other}
use Rattle.std.proofs.lemmas.Grind.{get_or-set_at}
use Rattle.std.proofs.lemmas.Bool.{eqb-true, eqb-false}
use Rattle.std.proofs.Math.ListN.{length-set}
use Rattle.std.proofs.Math.Nat.{mul-suc}
use Rattle.std.proofs.lemmas.Bool.Decides.{nat_tests}
use Rattle.srt_session_keys.specs.Limiter.{Request, Moments, group_of, is_admitted, moved, moments_with, moments_after, admissions, AreBetween}
use Rattle.srt_session_keys.specs.Limiter.{RouteIsLimited, GroupIsLimited}

-- the route's moment isn't far ahead where a request is admitted
route_near : (moments : Moments) (request : Request) → is_admitted moments request ≡ true → moments.route ≤ request.now + 950_000
route_near moments request e = grind (arith, nat_tests, e)

-- nor is that of the group
group_near : (moments : Moments) (request : Request) → is_admitted moments request ≡ true →
    slice_index moments.groups (group_of request) ≤ request.now + 9_500_000
group_near moments request e = grind (arith, nat_tests, e)

-- the moment of a limit, and how many were admitted since a time
record IsLimited (interval from until count moment : ℕ) : Type 0 where
  pub ahead : from + interval * count ≤ max moment from
  pub few : interval * count ≤ until - from + 20 * interval

none_yet : (interval from until moment : ℕ) → IsLimited interval from until 0 moment
none_yet interval from until moment = record { ahead = omega arith; few = omega arith }

-- one more
one_more : (interval from until count moment now : ℕ) → from ≤ now → now ≤ until → moment ≤ now + 19 * interval →
    IsLimited interval from until count moment → IsLimited interval from until (count + 1) (max moment now + interval)
one_more interval from until count moment now h1 h2 h3 before =
    let a = before.ahead in
    let e : interval * (count + 1) ≡ interval * count + interval = rw (add-one, mul-suc) refl in
    record { ahead = rw e (omega arith); few = rw e (omega arith) }

route_step : (from until : ℕ) (recent earlier : List Request) (request : Request) (b : Bool) →
    is_admitted (moments_after (recent ++ earlier)) request ≡ b → from ≤ request.now → request.now ≤ until →
    IsLimited 50_000 from until (admissions (λ r. true) recent earlier) (moments_after (recent ++ earlier)).route →
    IsLimited 50_000 from until (admissions (λ r. true) (request ∷ recent) earlier) (moments_after ((request ∷ recent) ++ earlier)).route
unfolding admissions moments_after
route_step from until recent earlier request true e h1 h2 before =
    let near = route_near (moments_after (recent ++ earlier)) request e in
    rw e (one_more 50_000 from until _ _ request.now h1 h2 near before)
route_step from until recent earlier request false e h1 h2 before = rw e before

route_limited : (from until : ℕ) (recent earlier : List Request) → AreBetween from until recent →
    IsLimited 50_000 from until (admissions (λ r. true) recent earlier) (moments_after (recent ++ earlier)).route
unfolding admissions
route_limited from until [] earlier h = none_yet 50_000 from until (moments_after earlier).route
route_limited from until (request ∷ recent) earlier h =
    route_step from until recent earlier request _ refl h.0 h.1 (route_limited from until recent earlier h.2)

pub route_is_limited : RouteIsLimited
route_is_limited from until recent earlier ordered h =
    let l = route_limited from until recent earlier h in omega (arith, l.few)

-- a route has 64 groups
groups_step : (moments : Moments) (request : Request) (b : Bool) → is_admitted moments request ≡ b →
    length moments.groups ≡ 64 → length (moments_with request moments).groups ≡ 64
groups_step moments request true e h = rw e (length-set _ _ _ ∙ h)
groups_step moments request false e h = rw e h

pub groups_are : (requests : List Request) → length (moments_after requests).groups ≡ 64
unfolding moments_after
groups_are [] = refl
groups_are (request ∷ requests) = groups_step (moments_after requests) request _ refl (groups_are requests)

group_step : (group from until : ℕ) (recent earlier : List Request) (request : Request) (b same : Bool) →
    is_admitted (moments_after (recent ++ earlier)) request ≡ b → (group_of request == group) ≡ same →
    from ≤ request.now → request.now ≤ until →
    IsLimited 500_000 from until (admissions (λ r. group_of r == group) recent earlier) (slice_index (moments_after (recent ++ earlier)).groups group) →
    IsLimited 500_000 from until (admissions (λ r. group_of r == group) (request ∷ recent) earlier)
    (slice_index (moments_after ((request ∷ recent) ++ earlier)).groups group)
unfolding admissions moments_after
group_step group from until recent earlier request true true e s h1 h2 before =
    let is = eqb-true (group_of request) group s in
    let groups = (moments_after (recent ++ earlier)).groups in
    let near = group_near (moments_after (recent ++ earlier)) request e in
    let here : slice_index groups group ≤ request.now + 9_500_000 = subst (λ (g : ℕ). slice_index groups g ≤ request.now + 9_500_000) is near in
    let within : group_of request < length groups = omega (arith, groups_are (recent ++ earlier)) in
    let new = get_or-set_at groups (group_of request) group (moved (slice_index groups (group_of request)) request.now 500_000) 0 (sym is) within in
    let same = ap (λ (g : ℕ). moved (slice_index groups g) request.now 500_000) is in
    rw (e, s, new, same) (one_more 500_000 from until _ _ request.now h1 h2 here before)
group_step group from until recent earlier request true false e s h1 h2 before =
    let groups = (moments_after (recent ++ earlier)).groups in
    let other = get_or-set_other groups (group_of request) group (moved (slice_index groups (group_of request)) request.now 500_000) 0
    (λ p. eqb-false (group_of request) group s (sym p)) in
    rw (e, s, other) before
group_step group from until recent earlier request false same e s h1 h2 before = rw e before

group_limited : (group from until : ℕ) (recent earlier : List Request) → AreBetween from until recent →
    IsLimited 500_000 from until (admissions (λ r. group_of r == group) recent earlier) (slice_index (moments_after (recent ++ earlier)).groups group)
unfolding admissions
group_limited group from until [] earlier h = none_yet 500_000 from until (slice_index (moments_after earlier).groups group)
group_limited group from until (request ∷ recent) earlier h =
    group_step group from until recent earlier request _ _ refl refl h.0 h.1 (group_limited group from until recent earlier h.2)

pub group_is_limited : GroupIsLimited
group_is_limited group from until recent earlier inside ordered h =
    let l = group_limited group from until recent earlier h in omega (arith, l.few)
