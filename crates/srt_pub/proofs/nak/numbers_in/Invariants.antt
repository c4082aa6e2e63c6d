use Rattle.std.proofs.Common.{◌≡◌, take}
use Rattle.srt_pub.specs.Counting.{capped, numbers_in_pairs}
use Rattle.srt_pub.proofs.nak.numbers_in.Given as goal

abbrev pub invariant-loop-run : goal.invariant-loop-run
invariant-loop-run l = l.count ≡ capped (numbers_in_pairs (take l.run-index l.run-items))
