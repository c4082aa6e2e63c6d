-- Digits read one after the other.
use Rattle.std.proofs.Common.{◌≡◌, ℕ, zero, suc, ◌+◌, ◌<◌, List, [], ◌∷◌, length, drop, slice_index, Option, None, Some, ap, arith, add-one}
use Rattle.srt_procfs.specs.Numbers.{with_digit, digits_from}

-- a byte that makes no number ends the reading
pub ends : (base n : ℕ) (bs : List ℕ) (i : ℕ) → i < length bs → with_digit base n (slice_index bs i) ≡ None → digits_from base (Some n) (drop i bs) ≡ None
ends base n [] i within h = absurd (omega arith)
ends base n (b ∷ bs) zero within h = ap (λ (o : Option ℕ). digits_from base o bs) h
ends base n (b ∷ bs) (suc i) within h = ends base n bs i (omega arith) h

after : (base n m : ℕ) (bs : List ℕ) (i : ℕ) → i < length bs → with_digit base n (slice_index bs i) ≡ Some m
    → digits_from base (Some n) (drop i bs) ≡ digits_from base (Some m) (drop (suc i) bs)
after base n m [] i within h = absurd (omega arith)
after base n m (b ∷ bs) zero within h = ap (λ (o : Option ℕ). digits_from base o bs) h
after base n m (b ∷ bs) (suc i) within h = after base n m bs i (omega arith) h

-- another one goes into the number
pub goes_on : (base n m : ℕ) (bs : List ℕ) (i : ℕ) → i < length bs → with_digit base n (slice_index bs i) ≡ Some m
    → digits_from base (Some n) (drop i bs) ≡ digits_from base (Some m) (drop (i + 1) bs)
goes_on base n m bs i within h = rw add-one (after base n m bs i within h)
