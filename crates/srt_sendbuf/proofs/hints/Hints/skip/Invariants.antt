use Rattle.std.proofs.Common.{◌≡◌, ℕ, ◌<◌, ◌≤◌, false}
use Rattle.std.specs.Prelude.{◌/◌}
use Rattle.srt_sendbuf.specs.inside.Hints.{hint_at}
use Rattle.srt_sendbuf.proofs.hints.Hints.skip.Given as goal

abbrev pub invariant-loop-block : goal.invariant-loop-block
invariant-loop-block l = (s : ℕ) → l.slot ≤ s → s / 64 < l.block → hint_at l.self s ≡ false
