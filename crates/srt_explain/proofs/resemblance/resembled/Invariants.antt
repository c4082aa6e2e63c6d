use Rattle.std.proofs.Common.{◌≡◌, ◌-◌, ◌^◌, None, length}
use Rattle.srt_explain.specs.Resemblance.{nearest, nearest_of}
use Rattle.srt_explain.proofs.resemblance.resembled.Given as goal

abbrev pub invariant-loop-rest : goal.invariant-loop-rest
invariant-loop-rest l = nearest_of l.text l.found l.rest ≡ nearest_of l.text (nearest None (2 ^ 64 - 1)) l.keys

abbrev pub decreases-loop-rest : goal.decreases-loop-rest
decreases-loop-rest l = length l.rest
