-- How many lines a second may have, by all calls so far, the newest first.
use Rattle.std.specs.Prelude.{◌≡◌, ℕ, ◌+◌, ◌-◌, ◌/◌, ◌^◌, Bool, true, nat_lt, nat_le, ◌&&◌, List, [], ◌∷◌, min, if◌then◌else◌}
use Rattle.srt_log.specs.declared.line_limits.LineLimit.{LineLimit}

-- a line to be written, or a poll, at a time in microseconds
pub record LimitCall : Type 0 where
  pub is_line : Bool
  pub moment : ℕ

-- the latest second so far
abbrev pub second_of : List LimitCall → ℕ
second_of [] = 0
second_of (a ∷ calls) = if nat_lt (second_of calls) (a.moment / 1_000_000) then a.moment / 1_000_000 else second_of calls

-- a new second has begun at this moment
abbrev pub begins : List LimitCall → (moment : ℕ) → Bool
begins calls moment = nat_lt (second_of calls) (moment / 1_000_000)

-- one line more, up to 2^64 - 1
abbrev pub counted : (is_line : Bool) → (lines : ℕ) → ℕ
counted is_line lines = if is_line then min (lines + 1) (2 ^ 64 - 1) else lines

-- the lines that were to be written in the latest second
abbrev pub lines_in : List LimitCall → ℕ
lines_in [] = 0
lines_in (a ∷ calls) = counted a.is_line (if begins calls a.moment then 0 else lines_in calls)

-- a line at this moment is one of the first of its second, of which it may have so many
abbrev pub is_within : (most : ℕ) → List LimitCall → (moment : ℕ) → Bool
is_within most calls moment = nat_le (lines_in (record { is_line = true; moment = moment } ∷ calls)) most

-- what the latest second had beyond as many, where a new one begins at this moment
abbrev pub omitted_within : (most : ℕ) → List LimitCall → (moment : ℕ) → ℕ
omitted_within most calls moment = if begins calls moment then lines_in calls - most else 0

-- the limit knows the latest second and its lines
pub record StandsFor (limit : LineLimit) (calls : List LimitCall) : Type 0 where
  pub second_is : limit.second ≡ second_of calls
  pub lines_are : limit.lines ≡ lines_in calls

-- one more, if so
abbrev pub more_if : Bool → ℕ → ℕ
more_if b n = if b then n + 1 else n

-- the lines that were written in the latest second, with the number that it may have
abbrev pub written_within : (most : ℕ) → List LimitCall → ℕ
written_within most [] = 0
written_within most (a ∷ calls) =
    more_if (a.is_line && is_within most calls a.moment) (if begins calls a.moment then 0 else written_within most calls)

-- all lines so far, those that were written, and those whose number was returned as left out, where a second may have so many
abbrev pub all_lines : List LimitCall → ℕ
all_lines [] = 0
all_lines (a ∷ calls) = more_if a.is_line (all_lines calls)

abbrev pub all_written : (most : ℕ) → List LimitCall → ℕ
all_written most [] = 0
all_written most (a ∷ calls) = more_if (a.is_line && is_within most calls a.moment) (all_written most calls)

abbrev pub all_omitted : (most : ℕ) → List LimitCall → ℕ
all_omitted most [] = 0
all_omitted most (a ∷ calls) = all_omitted most calls + omitted_within most calls a.moment
