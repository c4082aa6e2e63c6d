-- Decimal digits read one after the other.
use Rattle.std.proofs.Common.{◌≡◌, ℕ, zero, suc, ◌+◌, ◌-◌, ◌*◌, ◌<◌, ◌≤◌, Bool, true, false, cond, List, [], ◌∷◌, length, drop, slice_index}
use Rattle.std.proofs.Common.{Option, None, refl, arith}
use Rattle.std.proofs.lemmas.Bool.Decides.{nat_tests}
use Rattle.srt_config.specs.Numbers.{digits_from, is_digit, below}

next : (limit : ℕ) (d : Bool) (o : Option ℕ) → (below limit o ≡ None) → below limit (cond d o None) ≡ None
next limit true o h = h
next limit false o h = refl

-- a number that has reached the limit stays there
pub too_great : (limit n : ℕ) (bs : List ℕ) → limit ≤ n → below limit (digits_from n bs) ≡ None
too_great limit n [] h = grind (arith, nat_tests)
too_great limit n (b ∷ bs) h = next limit (is_digit b) (digits_from (n * 10 + (b - 48)) bs) (too_great limit (n * 10 + (b - 48)) bs (omega arith))

-- one more digit reaches it
pub grows_over : (limit n : ℕ) (bs : List ℕ) (i : ℕ) → i < length bs → limit ≤ n * 10 + (slice_index bs i - 48) → below limit (digits_from n (drop i bs)) ≡ None
grows_over limit n [] i within h = absurd (omega arith)
grows_over limit n (b ∷ bs) zero within h = next limit (is_digit b) (digits_from (n * 10 + (b - 48)) bs) (too_great limit (n * 10 + (b - 48)) bs h)
grows_over limit n (b ∷ bs) (suc i) within h = grows_over limit n bs i (omega arith) h

-- another byte ends the number
pub no_digit : (n : ℕ) (bs : List ℕ) (i : ℕ) → i < length bs → is_digit (slice_index bs i) ≡ false → digits_from n (drop i bs) ≡ None
no_digit n [] i within h = absurd (omega arith)
no_digit n (b ∷ bs) zero within h = rw h refl
no_digit n (b ∷ bs) (suc i) within h = no_digit n bs i (omega arith) h
