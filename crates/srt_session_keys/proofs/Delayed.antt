-- If all requests come later by the same delay, the same ones are admitted.
use Rattle.std.proofs.Common.{◌≡◌, ℕ, ◌+◌, ◌<◌, ◌==◌, max, nat_lt, Bool, true, false, List, []}
use Rattle.std.proofs.Common.{◌∷◌, refl, sym, ◌∙◌, arith, slice_index, slice_set, length, map, replicate, zero, suc}
use Rattle.std.proofs.lemmas.List.{get_or-set_other}
use Rattle.std.proofs.lemmas.Grind.{get_or-set_at}
use Rattle.std.proofs.lemmas.Bool.{eqb-true, eqb-false}
use Rattle.srt_session_keys.proofs.Limited.{groups_are}
use Rattle.std.proofs.lemmas.Bool.Decides.{nat_tests}
use Rattle.srt_session_keys.specs.Limiter.{Request, Moments, group_of, is_admitted, moved, moments_with, moments_after, delayed, DelaysChangeNothing}

-- each moment is later by the delay, where it counts
record AreLater (delay : ℕ) (moments later : Moments) : Type 0 where
  pub route : max later.route delay ≡ moments.route + delay
  pub groups : (group : ℕ) → max (slice_index later.groups group) delay ≡ slice_index moments.groups group + delay

-- a test of a moment comes out the same
same_test : (delay moment later now room : ℕ) → max later delay ≡ moment + delay →
    nat_lt (now + delay + room) later ≡ nat_lt (now + room) moment
same_test delay moment later now room e = grind (arith, nat_tests, e)

same_answer : (delay : ℕ) (moments later : Moments) (request : Request) → AreLater delay moments later →
    is_admitted later (delayed delay request) ≡ is_admitted moments request
same_answer delay moments later request h =
    let g = same_test delay (slice_index moments.groups (group_of request)) (slice_index later.groups (group_of request)) request.now 9_500_000
    (h.groups (group_of request)) in
    let r = same_test delay moments.route later.route request.now 950_000 h.route in
    rw (g, r) refl

-- a moment after an admitted request is later too
moved_later : (delay moment later now interval : ℕ) → max later delay ≡ moment + delay →
    max (moved later (now + delay) interval) delay ≡ moved moment now interval + delay
moved_later delay moment later now interval e = omega (arith, e)

-- in the lists of the groups
groups_later : (delay k group interval now : ℕ) (groups later : List ℕ) (same : Bool) → (k == group) ≡ same →
    k < length groups → k < length later →
    ((g : ℕ) → max (slice_index later g) delay ≡ slice_index groups g + delay) →
    max (slice_index (slice_set later k (moved (slice_index later k) (now + delay) interval)) group) delay ≡
    slice_index (slice_set groups k (moved (slice_index groups k) now interval)) group + delay
groups_later delay k group interval now groups later true s in1 in2 h =
    let is = eqb-true k group s in
    let a = get_or-set_at groups k group (moved (slice_index groups k) now interval) 0 (sym is) in1 in
    let b = get_or-set_at later k group (moved (slice_index later k) (now + delay) interval) 0 (sym is) in2 in
    rw (a, b) (moved_later delay (slice_index groups k) (slice_index later k) now interval (h k))
groups_later delay k group interval now groups later false s in1 in2 h =
    let a = get_or-set_other groups k group (moved (slice_index groups k) now interval) 0 (λ p. eqb-false k group s (sym p)) in
    let b = get_or-set_other later k group (moved (slice_index later k) (now + delay) interval) 0 (λ p. eqb-false k group s (sym p)) in
    rw (a, b) (h group)

later_step : (delay : ℕ) (moments later : Moments) (request : Request) (b : Bool) → is_admitted moments request ≡ b →
    length moments.groups ≡ 64 → length later.groups ≡ 64 → AreLater delay moments later →
    AreLater delay (moments_with request moments) (moments_with (delayed delay request) later)
later_step delay moments later request true e in1 in2 h =
    let f : is_admitted later (delayed delay request) ≡ true = same_answer delay moments later request h ∙ e in
    rw (e, f)
    (record {
      route = moved_later delay moments.route later.route request.now 50_000 h.route;
      groups = λ group. groups_later delay (group_of request) group 500_000 request.now moments.groups later.groups _ refl (omega arith) (omega arith) h.groups;
    })
later_step delay moments later request false e in1 in2 h =
    let f : is_admitted later (delayed delay request) ≡ false = same_answer delay moments later request h ∙ e in rw (e, f) h

zeros : (n g : ℕ) → slice_index (replicate n 0) g ≡ 0
zeros zero g = refl
zeros (suc n) zero = refl
zeros (suc n) (suc g) = zeros n g

are_later : (delay : ℕ) (requests : List Request) → AreLater delay (moments_after requests) (moments_after (map (delayed delay) requests))
unfolding moments_after
are_later delay [] =
    record { route = omega arith; groups = λ g. let e : slice_index (replicate 64 0) g ≡ 0 = zeros 64 g in rw e (omega arith) }
are_later delay (request ∷ requests) =
    later_step delay (moments_after requests) (moments_after (map (delayed delay) requests)) request _ refl
    (groups_are requests) (groups_are (map (delayed delay) requests)) (are_later delay requests)

pub delays_change_nothing : DelaysChangeNothing
delays_change_nothing delay requests request =
    same_answer delay (moments_after requests) (moments_after (map (delayed delay) requests)) request (are_later delay requests)
