use Rattle.std.proofs.Common.{◌≡◌, ◌+◌}
use Rattle.srt_log.specs.Dates.{days_before_year}
use Rattle.srt_log.proofs.dates.year_of.Given as goal

abbrev pub invariant-loop-years : goal.invariant-loop-years
invariant-loop-years l = l.fn.days ≡ days_before_year l.years + l.left
