use Rattle.std.proofs.Common.{◌≡◌, take}
use Rattle.std.specs.List.{count_by}
use Rattle.srt_explain.specs.Grouping.{has_risk}
use Rattle.srt_explain.proofs.grouping.count_of.Given as goal

abbrev pub invariant-loop-warning : goal.invariant-loop-warning
invariant-loop-warning l = l.count ≡ count_by (has_risk l.risk) (take l.warning-index l.warnings)
