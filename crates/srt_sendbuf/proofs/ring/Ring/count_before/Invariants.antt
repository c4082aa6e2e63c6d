use Rattle.std.proofs.Common.{◌≡◌, ℕ, ◌<◌, true}
use Rattle.srt_sendbuf.specs.Places.{kept_at, is_old}
use Rattle.srt_sendbuf.proofs.ring.Ring.count_before.Given as goal

abbrev pub invariant-loop-at : goal.invariant-loop-at
invariant-loop-at l = (d : ℕ) → d < l.at → is_old l.before (kept_at l.self d) ≡ true
