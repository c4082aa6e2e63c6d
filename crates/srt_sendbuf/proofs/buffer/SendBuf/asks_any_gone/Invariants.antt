use Rattle.std.proofs.Common.{◌≡◌, ℕ, length}
use Rattle.srt_types.specs.Runs.{ranges_from}
use Rattle.srt_sendbuf.specs.Sending.{Sending, asks_for_gone}
use Rattle.srt_sendbuf.specs.Stands.{StandsFor}
use Rattle.srt_sendbuf.proofs.buffer.SendBuf.asks_any_gone.Given as goal

-- the ranges that were read contain no number from the base up to the front
abbrev pub invariant-loop-range : goal.invariant-loop-range
invariant-loop-range l =
    (width initial : ℕ) (r : Sending)
    → StandsFor width initial l.fn.self r → asks_for_gone (ranges_from initial l.losses) r ≡ asks_for_gone (ranges_from initial l.ranges) r

abbrev pub decreases-loop-range : goal.decreases-loop-range
decreases-loop-range l = length l.ranges
