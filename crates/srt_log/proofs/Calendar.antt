-- The days of years and of months, one after the other.
use Rattle.std.proofs.Common.{◌≡◌, ℕ, ◌+◌, ◌-◌, Bool, true, false, cond, refl, ap, arith, add-one}
use Rattle.srt_log.specs.Dates.{year_length, month_length, days_before_year, days_before_month}

pub next_year : (years : ℕ) → days_before_year (years + 1) ≡ days_before_year years + year_length (1970 + years)
unfolding days_before_year
next_year years = rw add-one refl

-- the year 9999 ends with the last day that has a date
pub last_year : days_before_year 8029 + 365 ≡ 2_932_897
unfolding days_before_year
last_year = refl

pub next_month : (leap : Bool) (months : ℕ) → days_before_month leap (months + 1) ≡ days_before_month leap months + month_length leap (months + 1)
unfolding days_before_month
next_month leap months = rw add-one refl

-- the twelve months have as many days as their year
pub whole_year : (leap : Bool) → days_before_month leap 12 ≡ cond leap 366 365
unfolding days_before_month
whole_year true = refl
whole_year false = refl

-- nothing is before the first year, and the first month
pub no_years : days_before_year 0 ≡ 0
unfolding days_before_year
no_years = refl

pub no_months : (leap : Bool) → days_before_month leap 0 ≡ 0
unfolding days_before_month
no_months leap = refl

-- December has 31 days
pub december : (leap : Bool) → days_before_month leap 12 ≡ days_before_month leap 11 + 31
unfolding days_before_month
december leap = refl

-- years are counted from 1970, and months from 1
pub since : (years : ℕ) → days_before_year (1970 + years - 1970) ≡ days_before_year years
since years = let same : 1970 + years - 1970 ≡ years = omega arith in ap days_before_year same

pub before : (leap : Bool) (months : ℕ) → days_before_month leap (months + 1 - 1) ≡ days_before_month leap months
before leap months = let same : months + 1 - 1 ≡ months = omega arith in ap (days_before_month leap) same
