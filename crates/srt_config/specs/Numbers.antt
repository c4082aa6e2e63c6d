-- Numbers in decimal digits (our choice).
use Rattle.std.specs.Prelude.{ℕ, ◌+◌, ◌-◌, ◌*◌, ◌==◌, nat_le, nat_lt, Bool, false, ◌&&◌, List, [], ◌∷◌, Option, None, Some, if◌then◌else◌}

abbrev pub is_digit : ℕ → Bool
is_digit b = nat_le 48 b && nat_le b 57

-- the number of these digits, after the number of the digits before them
abbrev pub digits_from : ℕ → List ℕ → Option ℕ
digits_from n [] = Some n
digits_from n (b ∷ bytes) = if is_digit b then digits_from (n * 10 + (b - 48)) bytes else None

-- a zero followed by another byte
abbrev pub has_leading_zero : List ℕ → Bool
has_leading_zero [] = false
has_leading_zero (b ∷ []) = false
has_leading_zero (b ∷ c ∷ bytes) = b == 48

abbrev pub below : (limit : ℕ) → Option ℕ → Option ℕ
below limit None = None
below limit (Some n) = if nat_lt n limit then Some n else None

-- the number of decimal digits without leading zeros, if it is below the limit
unfoldable pub number_in : (limit : ℕ) → List ℕ → Option ℕ
number_in limit [] = None
number_in limit (b ∷ bytes) = if has_leading_zero (b ∷ bytes) then None else below limit (digits_from 0 (b ∷ bytes))
