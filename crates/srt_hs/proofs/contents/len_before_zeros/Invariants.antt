use Rattle.std.proofs.Common.{◌≡◌, ◌≤◌, length, take}
use Rattle.srt_hs.specs.Grammar.{without_zeros}
use Rattle.srt_hs.proofs.contents.len_before_zeros.Given as goal

abbrev pub invariant-loop-end : goal.invariant-loop-end
invariant-loop-end l = (l.end ≤ length l.bytes) × (without_zeros (take l.end l.bytes) ≡ without_zeros l.bytes)

abbrev pub decreases-loop-end : goal.decreases-loop-end
decreases-loop-end l = l.end
