-- Dates of the Gregorian calendar, and the days from 1970-01-01 to them.
use Rattle.std.specs.Prelude.{ℕ, zero, suc, ◌+◌, ◌-◌, ◌%◌, ◌≤◌, Bool, not, ◌==◌, ◌&&◌, ◌||◌, if◌then◌else◌}
use Rattle.srt_log.specs.declared.dates.Date.{Date}

-- a year has a 29th of February
abbrev pub is_leap : (year : ℕ) → Bool
is_leap year = (year % 4 == 0) && (not (year % 100 == 0) || (year % 400 == 0))

-- the days of a year
abbrev pub year_length : (year : ℕ) → ℕ
year_length year = if is_leap year then 366 else 365

-- the days of a month, 1 to 12
abbrev pub month_length : (leap : Bool) → (month : ℕ) → ℕ
month_length leap month =
    if month == 2 then (if leap then 29 else 28)
    else (if (month == 4) || (month == 6) || (month == 9) || (month == 11) then 30 else 31)

-- the days of n years, from 1970 on
unfoldable pub days_before_year : (years : ℕ) → ℕ
days_before_year zero = 0
days_before_year (suc years) = days_before_year years + year_length (1970 + years)

-- the days of n months, from January on
unfoldable pub days_before_month : (leap : Bool) → (months : ℕ) → ℕ
days_before_month leap zero = 0
days_before_month leap (suc months) = days_before_month leap months + month_length leap (suc months)

-- a date from 1970-01-01 to 9999-12-31
pub record IsDate (date : Date) : Type 0 where
  pub first_year : 1970 ≤ date.year
  pub last_year : date.year ≤ 9999
  pub first_month : 1 ≤ date.month
  pub last_month : date.month ≤ 12
  pub first_day : 1 ≤ date.day
  pub last_day : date.day ≤ month_length (is_leap date.year) date.month

-- the days from 1970-01-01 to a date
abbrev pub days_of : Date → ℕ
days_of date = days_before_year (date.year - 1970) + days_before_month (is_leap date.year) (date.month - 1) + (date.day - 1)

-- those to 10000-01-01
abbrev pub days_end : ℕ
days_end = 2_932_897
