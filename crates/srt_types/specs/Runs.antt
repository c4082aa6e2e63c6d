-- Ranges of words, and runs of numbers (appendix A, packet sequence list coding).
use Rattle.std.specs.Prelude.{◌≡◌, ℕ, zero, suc, ◌+◌, ◌^◌, ◌<◌, Bool, true, false, List, [], ◌∷◌, map, nat_le, ◌==◌, ◌||◌, if◌then◌else◌}
use Rattle.srt_types.specs.Window.{offset_of, counted_from}

-- the sequence numbers from first to last, both included, modulo 2^31
pub record Range : Type 0 where
  pub first : ℕ
  pub last : ℕ

-- the distance from the first to the last number, modulo 2^31
abbrev pub span : Range → ℕ
span r = offset_of r.last r.first

-- whether the range contains the word of the number n
abbrev pub is_in : Range → ℕ → Bool
is_in r n = nat_le (offset_of n r.first) (span r)

-- whether one of the ranges contains the word of n
abbrev pub is_requested : List Range → ℕ → Bool
is_requested [] n = false
is_requested (r ∷ rs) n = is_in r n || is_requested rs n

-- a range of words as a range of numbers relative to an initial number
abbrev pub range_from : (initial : ℕ) → Range → Range
range_from initial r = record { first = counted_from initial r.first; last = counted_from initial r.last }

-- the same for each range of a list
abbrev pub ranges_from : (initial : ℕ) → List Range → List Range
ranges_from initial ranges = map (range_from initial) ranges

-- a range relative to an initial number contains n exactly if the range itself contains initial + n
abbrev pub RangesFromInitial : Type 0
RangesFromInitial = (initial n : ℕ) (r : Range) → r.first < 2 ^ 31 → r.last < 2 ^ 31 → is_in (range_from initial r) n ≡ is_in r (initial + n)

-- the list from, from + 1, .., of length count
abbrev pub numbers_from : (from count : ℕ) → List ℕ
numbers_from from zero = []
numbers_from from (suc count) = from ∷ numbers_from (from + 1) count

-- the first of the numbers from, from + 1, .. that passes the test, of as many as places; from + places if none does
abbrev pub least_from : (ℕ → Bool) → (from places : ℕ) → ℕ
least_from test from zero = from
least_from test from (suc places) = elim (test from) [ true ↦ from | false ↦ least_from test (from + 1) places ]

-- a run of consecutive numbers, both ends included
pub record Run : Type 0 where
  pub low : ℕ
  pub high : ℕ

-- puts a number in front of ascending runs: it extends the first run if it is adjacent, else it is a run by itself
abbrev pub run_before : ℕ → List Run → List Run
run_before n [] = record { low = n; high = n } ∷ []
run_before n (r ∷ rs) = if r.low == n + 1 then record { low = n; high = r.high } ∷ rs else record { low = n; high = n } ∷ r ∷ rs

-- ascending numbers grouped into runs of maximum length
abbrev pub runs : List ℕ → List Run
runs [] = []
runs (n ∷ ns) = run_before n (runs ns)
