-- Saturating counters.
use Rattle.std.specs.Prelude.{ℕ, ◌-◌, ◌^◌, min, Bool, true, false}

-- the stored value of a counter: it stops at 2^64 - 1
abbrev pub capped : ℕ → ℕ
capped n = min n (2 ^ 64 - 1)

-- 1 if the condition holds, else 0
abbrev pub one_if : Bool → ℕ
one_if true = 1
one_if false = 0
