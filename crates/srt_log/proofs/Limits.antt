-- That no line of a second is left out untold.
use Rattle.std.proofs.Common.{◌≡◌, ℕ, ◌+◌, ◌-◌, ◌^◌, ◌≤◌, Bool, true, false, ◌&&◌, nat_le, cond, List, [], ◌∷◌, min, refl, arith}
use Rattle.std.proofs.lemmas.Bool.Decides.{nat_tests}
use Rattle.srt_log.specs.declared.line_limits.LineKind.{LineKind}
use Rattle.srt_log.specs.LineLimit.{LimitCall, begins, counted, lines_in, more_if, all_lines, all_written, all_omitted}
use Rattle.srt_log.specs.LineShares.{share_of, calls_of, CountsEachLine}
use Rattle.srt_log.proofs.Apart.{few_of}

-- a second has no more lines than there are in all
counted_more : (begins line : Bool) (n all : ℕ) → n ≤ all → counted line (cond begins 0 n) ≤ more_if line all
counted_more true true n all h = omega (arith, h)
counted_more true false n all h = omega (arith, h)
counted_more false true n all h = omega (arith, h)
counted_more false false n all h = h

some_lines : (calls : List LimitCall) → lines_in calls ≤ all_lines calls
some_lines [] = omega arith
some_lines (a ∷ calls) = counted_more (begins calls a.moment) a.is_line (lines_in calls) (all_lines calls) (some_lines calls)

fewer_before : (line : Bool) (all : ℕ) → more_if line all ≤ 2 ^ 64 - 1 → all ≤ 2 ^ 64 - 1
fewer_before true all h = omega (arith, h)
fewer_before false all h = h

-- the numbers after a line more in a second of n lines
line_told : (most n all written omitted : ℕ) (t : Bool) → most ≤ 50 → nat_le (min (n + 1) (2 ^ 64 - 1)) most ≡ t → all + 1 ≤ 2 ^ 64 - 1
    → n ≤ all → all ≡ written + omitted + (n - most)
    → all + 1 ≡ more_if t written + omitted + (min (n + 1) (2 ^ 64 - 1) - most)
line_told most n all written omitted true small h few some e = grind (arith, nat_tests, small, h, few, some, e)
line_told most n all written omitted false small h few some e = grind (arith, nat_tests, small, h, few, some, e)

-- the first line of a second
first_told : (most n all written omitted : ℕ) (t : Bool) → most ≤ 50 → nat_le 1 most ≡ t → all ≡ written + omitted + (n - most)
    → all + 1 ≡ more_if t written + (omitted + (n - most)) + (1 - most)
first_told most n all written omitted true small h e = grind (arith, nat_tests, small, h, e)
first_told most n all written omitted false small h e = grind (arith, nat_tests, small, h, e)

call_told : (begins line : Bool) (most n all written omitted : ℕ) → most ≤ 50 → more_if line all ≤ 2 ^ 64 - 1 → n ≤ all
    → all ≡ written + omitted + (n - most)
    → more_if line all ≡ more_if (line && nat_le (counted true (cond begins 0 n)) most) written + (omitted + cond begins (n - most) 0)
    + (counted line (cond begins 0 n) - most)
call_told true true most n all written omitted small few some e = first_told most n all written omitted _ small refl e
call_told true false most n all written omitted small few some e = omega (arith, e)
call_told false true most n all written omitted small few some e =
    let told = line_told most n all written omitted _ small refl few some e in omega (arith, told)
call_told false false most n all written omitted small few some e = omega (arith, e)

counted_within : (most : ℕ) (calls : List LimitCall) → most ≤ 50 → all_lines calls ≤ 2 ^ 64 - 1
    → all_lines calls ≡ all_written most calls + all_omitted most calls + (lines_in calls - most)
counted_within most [] small few = omega arith
counted_within most (a ∷ calls) small few =
    call_told (begins calls a.moment) a.is_line most (lines_in calls) (all_lines calls) (all_written most calls) (all_omitted most calls)
    small few (some_lines calls) (counted_within most calls small (fewer_before a.is_line (all_lines calls) few))

pub counts_each_line : (kind : LineKind) → CountsEachLine kind
counts_each_line kind calls few = counted_within (share_of kind) (calls_of kind calls) (few_of kind) few
