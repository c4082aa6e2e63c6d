use Rattle.std.proofs.Common.{◌≡◌, ℕ, ◌<◌, ◌≤◌, false}
use Rattle.srt_sendbuf.specs.Places.{lost_at}
use Rattle.srt_sendbuf.proofs.ring.Ring.walk.Given as goal

abbrev pub invariant-loop-at : goal.invariant-loop-at
invariant-loop-at l = (d : ℕ) → l.from ≤ d → d < l.at → lost_at l.self d ≡ false
