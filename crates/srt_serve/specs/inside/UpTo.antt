-- What holds of each of the first numbers.
use Rattle.std.specs.Prelude.{ℕ, ◌<◌}

-- each number below this one fits
abbrev pub UpTo : (fits : ℕ → Type 0) → ℕ → Type 0
UpTo fits n = (i : ℕ) → i < n → fits i
