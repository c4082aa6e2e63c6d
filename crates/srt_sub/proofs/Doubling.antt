-- The rules for resending all: doubled timeouts, and what holds if it is time.
use Rattle.std.proofs.Common.{◌≡◌, ℕ, ◌*◌, ◌/◌, ◌^◌, ◌<◌, ◌≤◌, min, Bool, true, false, List, refl, arith}
use Rattle.std.specs.Prelude.{nat_le}
use Rattle.std.proofs.Math.Nat.{le-mul_of_pos_right, le-div_iff_mul-le}
use Rattle.std.proofs.Math.Pow.{pow_mono}
use Rattle.std.proofs.lemmas.Bool.Decides.{nat_tests}
use Rattle.srt_sub.specs.Subscribing.{Note, tries, has_waited}
use Rattle.srt_sub.specs.declared.resend_all.Resending.{Resending}
use Rattle.srt_sub.specs.declared.resend_all.Resending.TheVariants.{AtEachTimeout, Once, BackingOff}

pub power_some : (k : ℕ) → 0 < 2 ^ k
power_some k = let one : 1 ≤ 2 ^ k = pow_mono {i = 0} {j = k} (omega arith) in omega (arith, one)

-- a doubled number is at least the number
pub at_least : (n t : ℕ) → n ≤ n * 2 ^ min t 6
at_least n t = le-mul_of_pos_right n (power_some (min t 6))

-- a time is at least a number times k exactly if the k-th part of the time is at least the number
pub divided : (n time k : ℕ) → 0 < k → nat_le n (time / k) ≡ nat_le (n * k) time
divided n time k some = by (nat_le n (time / k)) refl
  where
    absent : (b : Bool) → nat_le (n * k) time ≡ b → (n * k ≤ time → n ≤ time / k) → time / k < n → false ≡ b
    absent false e back gt = refl
    absent true e back gt = let le = back (grind (arith, nat_tests, e)) in absurd (omega (arith, le, gt))

    by : (b : Bool) → nat_le n (time / k) ≡ b → b ≡ nat_le (n * k) time
    by true e =
        let le : n ≤ time / k = grind (arith, nat_tests, e) in
        let whole : n * k ≤ time = (le-div_iff_mul-le some).0 le in
        grind (arith, nat_tests, whole)
    by false e =
        let gt : time / k < n = grind (arith, nat_tests, e) in
        let whole : n * k ≤ time → n ≤ time / k = (le-div_iff_mul-le some).1 in
        absent (nat_le (n * k) time) refl whole gt

-- it is time to resend all once: this wasn't done since the last growth
pub first_time : (rule : Resending) (delay time : ℕ) (recent : Bool) (notes : List Note)
    → rule ≡ Once → has_waited rule delay time recent notes ≡ true → tries notes ≡ 0
first_time AtEachTimeout delay time recent notes e h = absurd cc
first_time Once delay time recent notes e h = grind (arith, nat_tests, h)
first_time BackingOff delay time recent notes e h = absurd cc
