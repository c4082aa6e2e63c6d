use Rattle.std.proofs.Common.{◌≡◌, length}
use Rattle.srt_types.specs.Window.{word_of}
use Rattle.srt_types.specs.Runs.{is_requested}
use Rattle.srt_loss.proofs.reading.LossRef.asks.Given as goal

-- no range read so far contains the number
abbrev pub invariant-loop-first : goal.invariant-loop-first
invariant-loop-first l = is_requested l.ranges (word_of l.number) ≡ is_requested l.self (word_of l.number)

abbrev pub decreases-loop-first : goal.decreases-loop-first
decreases-loop-first l = length l.ranges
