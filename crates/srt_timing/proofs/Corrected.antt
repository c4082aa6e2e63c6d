-- A corrected timestamp denotes, at a time, the corrected time of the timestamp.
use Rattle.std.proofs.Common.{◌≡◌, ℕ, ◌^◌, ℤ, pos, ◌+ℤ◌, ◌-ℤ◌, arith}
use Rattle.std.specs.Int.{int_rem_euclid}
use Rattle.std.proofs.lemmas.Int.{ints}
use Rattle.srt_types.specs.Lift.{IsLift, lift}
use Rattle.srt_types.proofs.Lifts.{lift_is, lift_from, turns_of}
use Rattle.srt_timing.specs.Deadline.{corrected_time}

pub corrected_near : (correction time : ℤ) (stamp corrected : ℕ)
    → pos corrected ≡ int_rem_euclid (pos stamp +ℤ correction) (pos (2 ^ 32))
    → lift corrected time ≡ corrected_time correction time stamp
corrected_near correction time stamp corrected e =
    let h = (lift_is corrected time).0 in
    let q = turns_of (pos stamp +ℤ correction) in
    let is : IsLift stamp (time -ℤ correction) (lift corrected time -ℤ correction) = record {
      above = omega (arith, ints, h.above);
      below = omega (arith, ints, h.below);
      same = (h.same.0 -ℤ q.0, omega (arith, ints, h.same.1, q.1, e));
    } in
    let same = lift_from stamp (time -ℤ correction) (lift corrected time -ℤ correction) is in
    omega (arith, ints, same)
