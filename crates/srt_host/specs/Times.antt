-- Times in microseconds (our choice).
use Rattle.std.specs.Prelude.{ℕ, ℤ, pos, negsuc, ◌+◌, ◌*◌, ◌/◌, ◌%◌, ◌-◌, ◌^◌, min, nat_lt, if◌then◌else◌, Option, None, Some}

-- the clock's time in microseconds, once this many nanoseconds have passed since its start. It is below 2^62: from then on it stays at the
-- last one
abbrev pub time_after : (last nanos : ℕ) → ℕ
time_after last nanos = if nat_lt (nanos / 1_000) (2 ^ 62) then nanos / 1_000 else last

-- the system's time, by the nanoseconds since 1970: 0 if they aren't known
abbrev pub time_of : Option ℕ → ℕ
time_of (Some nanos) = min (nanos / 1_000) (2 ^ 64 - 1)
time_of None = 0

-- a number below 0 counts as 0
abbrev pub at_least_0 : ℤ → ℕ
at_least_0 (pos n) = n
at_least_0 (negsuc n) = 0

-- the nanoseconds of a time since 1970 in seconds, and of the nanoseconds behind it, modulo 2^64
abbrev pub nanos_of : (seconds nanos : ℤ) → ℕ
nanos_of seconds nanos = (at_least_0 seconds * 1_000_000_000 % 2 ^ 64 + at_least_0 nanos) % 2 ^ 64
