use Rattle.std.proofs.Common.{◌≡◌, ℕ, ◌-◌}
use Rattle.srt_aes.specs.Aes.{inv_state_after}
use Rattle.srt_aes.proofs.inverse.open.Given as goal

abbrev pub invariant-loop-count : goal.invariant-loop-count
invariant-loop-count l = l.state ≡ inv_state_after l.words l.last l.fn.block (l.count - 1)
