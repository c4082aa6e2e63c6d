use Rattle.std.proofs.Common.{◌≡◌, ◌++◌, [], take}
use Rattle.srt_explain.specs.Grouping.{first_ones}
use Rattle.srt_explain.proofs.grouping.push_first_ones.Given as goal

abbrev pub invariant-loop-at : goal.invariant-loop-at
invariant-loop-at l = l.list.items ≡ l.fn.list.items ++ first_ones [] (take l.at l.warnings)
