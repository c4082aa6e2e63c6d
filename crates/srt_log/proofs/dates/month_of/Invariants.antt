use Rattle.std.proofs.Common.{◌≡◌, ◌+◌}
use Rattle.srt_log.specs.Dates.{days_before_month}
use Rattle.srt_log.proofs.dates.month_of.Given as goal

abbrev pub invariant-loop-month : goal.invariant-loop-month
invariant-loop-month l = l.fn.index ≡ days_before_month l.leap l.month + l.left
