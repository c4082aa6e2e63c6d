-- How a sample changes a clock: what holds of every clock, and what the code computes.
use Rattle.std.proofs.Common.{◌≡◌, ℕ, ◌-◌, ◌≤◌, max, Bool, true, false, if◌then◌else◌, Option, None, Some, List}
use Rattle.std.proofs.Common.{[], ◌∷◌, ℤ, pos, ◌+ℤ◌, ◌-ℤ◌, ap, sym, subst, refl, ◌∙◌, arith}
use Rattle.std.specs.Prelude.{nat_le}
use Rattle.std.specs.Option.{ForSome}
use Rattle.std.proofs.lemmas.Int.{ints, clamps}
use Rattle.srt_types.proofs.Lifts.{lift_is}
use Rattle.srt_timing.specs.Clock.{Sample, lateness, unexpired, with_sample, change_by, closed_from, closed, sampled, clock_after}
use Rattle.srt_timing.specs.Clock.{IsSlow, LatenessIsNear, CorrectionsAreSlow, AreAsLate, RightClocksStand}
use Rattle.srt_timing.specs.Clock.{window_expiry_us, window_length_us}
use Rattle.srt_timing.specs.declared.drift_windows.Clock.{Clock}
use Rattle.srt_timing.specs.declared.drift_windows.Window.{Window}

-- what holds of both holds of the one that a test selects
if_either : {X : Type 0} (P : X → Type 0) (b : Bool) (x y : X) → P x → P y → P (if b then x else y)
if_either P true x y p q = p
if_either P false x y p q = q

no_value : {X : Type 0} (P : X → Type 0) → ForSome {T = X} None P
no_value P x e = absurd cc

one_value : {X : Type 0} (P : X → Type 0) (x : X) → P x → ForSome (Some x) P
one_value P x p y e = let same : x ≡ y = cc in subst P same p

-- a window that is kept is the one that was there
pub kept : (P : Window → Type 0) (time : ℕ) (o : Option Window) → ForSome o P → ForSome (unexpired time o) P
kept P time None h = no_value P
kept P time (Some w) h =
    if_either (λ (o : Option Window). ForSome o P) (nat_le window_expiry_us (time - w.start)) None (Some w) (no_value P) (one_value P w (h w refl))

-- what holds of the new sample's lateness and of the window's holds of the window after the sample
pub taken : (P : ℤ → Type 0) (late : ℤ) (s : Sample) (o : Option Window) → P late → ForSome o (λ w. P w.lateness) → P (with_sample late s o).lateness
taken P late s None p h = p
taken P late s (Some w) p h =
    if_either (λ (v : Window). P v.lateness) (nat_le s.round_trip w.round_trip)
    (record { start = w.start; round_trip = s.round_trip; lateness = late }) w p (h w refl)

pub lateness_is_near : LatenessIsNear
lateness_is_near correction s short =
    let h = (lift_is s.stamp (pos s.time -ℤ correction)).0 in
    record { above = omega (arith, ints, h.above, short); below = omega (arith, ints, h.below, short) }

pub change_is_slow : (elapsed : ℕ) (late reference : ℤ) → IsSlow (change_by elapsed late reference) elapsed
change_is_slow elapsed late reference =
    record { above = omega (arith, ints, clamps); below = omega (arith, ints, clamps) }

-- a window of the code that closes
pub closed_some : (time : ℕ) (late reference : ℤ) (c : Clock) (value : ℤ) (moved : ℕ) → c.reference ≡ Some reference
    → value ≡ c.correction +ℤ change_by (time - c.moved) late reference → moved ≡ max c.moved time
    → ◌≡◌ {A = Clock} record { correction = value; moved = moved; reference = c.reference; window = None } (closed time late c)
closed_some time late reference c value moved e v m =
    subst (λ (o : Option ℤ). ◌≡◌ {A = Clock} record { correction = value; moved = moved; reference = o; window = None } (closed_from o time late c)) (sym e)
    (λ i. record { correction = v i; moved = m i; reference = Some reference; window = None })

-- a clock is slow after a window closes, and after each sample
closed_is_slow : (o : Option ℤ) (time : ℕ) (late : ℤ) (c : Clock) → IsSlow c.correction c.moved
    → IsSlow (closed_from o time late c).correction (closed_from o time late c).moved
closed_is_slow None time late c h = record { above = omega (arith, ints, h.above); below = omega (arith, ints, h.below) }
closed_is_slow (Some reference) time late c h =
    let k = change_is_slow (time - c.moved) late reference in
    record { above = omega (arith, ints, h.above, k.above); below = omega (arith, ints, h.below, k.below) }

closed_is_moved : (o : Option ℤ) (time : ℕ) (late : ℤ) (c : Clock) → (closed_from o time late c).moved ≤ max c.moved time
closed_is_moved None time late c = omega arith
closed_is_moved (Some reference) time late c = omega arith

pub record IsFollowed (time : ℕ) (old new : Clock) : Type 0 where
  pub slow : IsSlow new.correction new.moved
  pub moved : new.moved ≤ max old.moved time

followed : (s : Sample) (c : Clock) → IsSlow c.correction c.moved → IsFollowed s.time c (sampled s c)
unfolding sampled
followed s c h =
    let w = with_sample (lateness c.correction s) s (unexpired s.time c.window) in
    if_either (λ (d : Clock). IsFollowed s.time c d) (nat_le window_length_us (s.time - w.start)) (closed s.time w.lateness c)
    (record c { window = Some w })
    (record {
      slow = closed_is_slow c.reference s.time w.lateness c h;
      moved = closed_is_moved c.reference s.time w.lateness c;
    })
    (record { slow = h; moved = omega arith })

pub corrections_are_slow : CorrectionsAreSlow
corrections_are_slow [] order = (record { above = omega (arith, ints); below = omega (arith, ints) }, omega arith)
corrections_are_slow (s ∷ samples) order =
    let h = corrections_are_slow samples order.1 in
    let f = followed s (clock_after samples) h.0 in
    (f.slow, omega (arith, f.moved, h.1, order.0))

-- a clock that wasn't corrected, and whose reference and window have this lateness
record IsRight (late : ℤ) (c : Clock) : Type 0 where
  correction : c.correction ≡ pos 0
  reference : ForSome c.reference (λ r. r ≡ late)
  window : ForSome c.window (λ w. w.lateness ≡ late)

no_change : (elapsed : ℕ) (late : ℤ) → change_by elapsed late late ≡ pos 0
no_change elapsed late = omega (arith, ints, clamps)

closed_is_right : (o : Option ℤ) (time : ℕ) (late : ℤ) (c : Clock) → c.correction ≡ pos 0 → ForSome o (λ r. r ≡ late)
    → IsRight late (closed_from o time late c)
closed_is_right None time late c e h = record { correction = e; reference = one_value _ late refl; window = no_value _ }
closed_is_right (Some reference) time late c e h =
    let r = h reference refl in
    let k = no_change (time - c.moved) late in
    let moves : change_by (time - c.moved) late reference ≡ pos 0 = ap (λ (x : ℤ). change_by (time - c.moved) late x) r ∙ k in
    record { correction = omega (arith, ints, e, moves); reference = one_value _ reference r; window = no_value _ }

right_after : (late : ℤ) (s : Sample) (c : Clock) → lateness (pos 0) s ≡ late → IsRight late c → IsRight late (sampled s c)
unfolding sampled
right_after late s c e h =
    let l : lateness c.correction s ≡ late = ap (λ (x : ℤ). lateness x s) h.correction ∙ e in
    let o = unexpired s.time c.window in
    let w = with_sample (lateness c.correction s) s o in
    let same : w.lateness ≡ late =
    taken (λ (x : ℤ). x ≡ late) (lateness c.correction s) s o l (kept (λ (v : Window). v.lateness ≡ late) s.time c.window h.window) in
    if_either (λ (d : Clock). IsRight late d) (nat_le window_length_us (s.time - w.start)) (closed s.time w.lateness c) (record c { window = Some w })
    (subst (λ (x : ℤ). IsRight late (closed s.time x c)) (sym same) (closed_is_right c.reference s.time late c h.correction h.reference))
    (record { correction = h.correction; reference = h.reference; window = one_value _ w same })

clock_is_right : (late : ℤ) (samples : List Sample) → AreAsLate late samples → IsRight late (clock_after samples)
clock_is_right late [] h = record { correction = refl; reference = no_value _; window = no_value _ }
clock_is_right late (s ∷ samples) h = right_after late s (clock_after samples) h.0 (clock_is_right late samples h.1)

pub right_clocks_stand : RightClocksStand
right_clocks_stand late samples h = (clock_is_right late samples h).correction
