use Rattle.std.proofs.Common.{◌≡◌, ◌++◌}
use Rattle.srt_samples.specs.Samples.{groups}
use Rattle.srt_samples.proofs.writing.put_groups.Given as goal

abbrev pub invariant-loop-at : goal.invariant-loop-at
invariant-loop-at l = l.out.items ≡ l.fn.out.items ++ groups l.text l.at
