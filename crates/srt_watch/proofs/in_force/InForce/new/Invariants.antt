use Rattle.std.proofs.Common.{◌≡◌}
use Rattle.srt_watch.specs.Requests.{first_indexes}
use Rattle.srt_watch.proofs.in_force.InForce.new.Given as goal

abbrev pub invariant-loop-index : goal.invariant-loop-index
invariant-loop-index l = l.indexes.items ≡ first_indexes l.index
