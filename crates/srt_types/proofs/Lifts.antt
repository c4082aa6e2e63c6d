-- An integer is its remainder plus a multiple of the modulus; the time that a timestamp denotes.
use Rattle.std.proofs.Common.{◌≡◌, ℕ, ◌+◌, ◌-◌, ◌/◌, ◌%◌, ◌^◌, ℤ, pos, negsuc, ◌+ℤ◌, ◌-ℤ◌, ◌*ℤ◌, ◌≤ℤ◌, ◌<ℤ◌, arith}
use Rattle.std.specs.Int.{int_rem_euclid}
use Rattle.std.proofs.lemmas.Int.{ints}
use Rattle.srt_types.specs.Lift.{IsLift, lift, stamped_from, LiftIsTheTime, LiftMoves, TimesFromFirst}

pub turns_of : (z : ℤ) → (q : ℤ) × (z ≡ int_rem_euclid z (pos (2 ^ 32)) +ℤ (q *ℤ pos (2 ^ 32)))
turns_of (pos a) = (pos (a / 2 ^ 32), omega (arith, ints))
turns_of (negsuc a) = (negsuc (a / 2 ^ 32), omega (arith, ints))

rem_low : (z : ℤ) → pos 0 ≤ℤ int_rem_euclid z (pos (2 ^ 32))
rem_low (pos a) = omega (arith, ints)
rem_low (negsuc a) = omega (arith, ints)

rem_high : (z : ℤ) → int_rem_euclid z (pos (2 ^ 32)) <ℤ pos (2 ^ 32)
rem_high (pos a) = omega (arith, ints)
rem_high (negsuc a) = omega (arith, ints)

-- the time of a timestamp, if it is k multiples of 2^32 away from the timestamp in the same multiple as e
pub lifted : (t : ℕ) (e inside k n : ℤ) → inside ≡ int_rem_euclid e (pos (2 ^ 32))
    → n ≡ e +ℤ (pos t -ℤ inside) +ℤ (k *ℤ pos (2 ^ 32)) → e ≤ℤ (n +ℤ pos (2 ^ 31)) → n <ℤ (e +ℤ pos (2 ^ 31))
    → IsLift t e n
lifted t e inside k n i m above below =
    let q = turns_of e in
    record { above = above; below = below; same = (q.0 +ℤ k, omega (arith, ints, q.1)) }

is_lift : (word : ℕ) (around : ℤ) → IsLift word around (lift word around)
unfolding lift
is_lift word around =
    let z = pos word -ℤ (around -ℤ pos (2 ^ 31)) in
    let q = turns_of z in
    record { above = omega (arith, ints, rem_low z); below = omega (arith, ints, rem_high z); same = (pos 0 -ℤ q.0, omega (arith, ints, q.1)) }

lift_is_one : (word : ℕ) (around m n : ℤ) → IsLift word around m → IsLift word around n → m ≡ n
lift_is_one word around m n h k = omega (arith, ints, h.above, h.below, h.same.1, k.above, k.below, k.same.1)

pub lift_from : (word : ℕ) (around n : ℤ) → IsLift word around n → n ≡ lift word around
lift_from word around n h = lift_is_one word around n (lift word around) h (is_lift word around)

pub lift_is : LiftIsTheTime
lift_is word around = (is_lift word around, λ n h. lift_from word around n h)

pub lift_moves : LiftMoves
lift_moves word less c around e =
    let h = is_lift less around in
    let q = turns_of (pos word -ℤ c) in
    lift_is_one word (around +ℤ c) (lift word (around +ℤ c)) (lift less around +ℤ c) (is_lift word (around +ℤ c))
    (record {
      above = omega (arith, ints, h.above);
      below = omega (arith, ints, h.below);
      same = (h.same.0 -ℤ q.0, omega (arith, ints, h.same.1, q.1, e));
    })

own_turns : (first word : ℕ) → (q : ℤ) × (pos word ≡ pos first +ℤ pos (stamped_from first word) +ℤ (q *ℤ pos (2 ^ 32)))
own_turns first word = (pos ((word + (2 ^ 32 - first % 2 ^ 32)) / 2 ^ 32) -ℤ pos 1 -ℤ pos (first / 2 ^ 32), omega (arith, ints))

pub times_from_first : TimesFromFirst
times_from_first first word around =
    let h = is_lift (stamped_from first word) around in
    let q = own_turns first word in
    lift_is_one word (pos first +ℤ around) (lift word (pos first +ℤ around))
    (pos first +ℤ lift (stamped_from first word) around) (is_lift word (pos first +ℤ around))
    (record {
      above = omega (arith, ints, h.above);
      below = omega (arith, ints, h.below);
      same = (h.same.0 -ℤ q.0, omega (arith, ints, h.same.1, q.1));
    })
