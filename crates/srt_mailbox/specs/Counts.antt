-- Counters that saturate at the greatest 64-bit number.
use Rattle.std.specs.Prelude.{◌≡◌, ◌⊎◌, ℕ, ◌<◌, ◌-◌, ◌^◌, min}

-- n, or 2^64 - 1 if n is greater
abbrev pub counted : ℕ → ℕ
counted n = min n (2 ^ 64 - 1)

-- the counter grew, or has reached its maximum
abbrev pub Grew : ℕ → ℕ → Type 0
Grew a b = (a < b) ⊎ (b ≡ 2 ^ 64 - 1)
