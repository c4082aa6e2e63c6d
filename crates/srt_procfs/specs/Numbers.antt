-- Numbers in digits of the bases 2 to 16.
use Rattle.std.specs.Prelude.{ℕ, ◌+◌, ◌-◌, ◌*◌, ◌^◌, Bool, ◌&&◌, nat_le, nat_lt, List, [], ◌∷◌, Option, None, Some, if◌then◌else◌}

-- the byte is one of those from the first to the last
abbrev pub is_between : (first last byte : ℕ) → Bool
is_between first last byte = nat_le first byte && nat_le byte last

-- the value of a digit: 0 to 9, A to F or a to f; 16 for any other byte
abbrev pub digit_of : (byte : ℕ) → ℕ
digit_of byte =
    if is_between 48 57 byte then byte - 48
    else (if is_between 65 70 byte then byte - 65 + 10
    else (if is_between 97 102 byte then byte - 97 + 10 else 16))

-- a number with one more digit, while it is below 2^64
abbrev pub with_digit : (base number byte : ℕ) → Option ℕ
with_digit base number byte =
    if nat_lt (digit_of byte) base && nat_lt (number * base + digit_of byte) (2 ^ 64) then Some (number * base + digit_of byte) else None

-- the number of these digits, after that of the digits before them
abbrev pub digits_from : (base : ℕ) → Option ℕ → List ℕ → Option ℕ
digits_from base None bytes = None
digits_from base (Some number) [] = Some number
digits_from base (Some number) (b ∷ bytes) = digits_from base (with_digit base number b) bytes

-- the number of a text of one digit or more
abbrev pub number_in : (base : ℕ) → List ℕ → Option ℕ
number_in base [] = None
number_in base (b ∷ bytes) = digits_from base (Some 0) (b ∷ bytes)

-- the number in a word, if there is one
abbrev pub number_of : Option (List ℕ) → Option ℕ
number_of None = None
number_of (Some word) = number_in 10 word

-- a number times another one, and a sum, if they are below 2^64
abbrev pub times_of : (factor : ℕ) → Option ℕ → Option ℕ
times_of factor None = None
times_of factor (Some n) = if nat_lt (n * factor) (2 ^ 64) then Some (n * factor) else None

abbrev pub sum_of : Option ℕ → Option ℕ → Option ℕ
sum_of None n = None
sum_of (Some m) None = None
sum_of (Some m) (Some n) = if nat_lt (m + n) (2 ^ 64) then Some (m + n) else None
