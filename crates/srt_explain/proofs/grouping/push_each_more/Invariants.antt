use Rattle.std.proofs.Common.{◌≡◌, ◌++◌, take}
use Rattle.std.specs.List.{flat_map}
use Rattle.srt_explain.specs.Grouping.{more_of}
use Rattle.srt_explain.proofs.grouping.push_each_more.Given as goal

abbrev pub invariant-loop-risk : goal.invariant-loop-risk
invariant-loop-risk l = l.list.items ≡ l.fn.list.items ++ flat_map (more_of l.warnings) (take l.risk-index l.risks)
