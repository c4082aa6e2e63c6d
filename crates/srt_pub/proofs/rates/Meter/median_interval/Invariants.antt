use Rattle.std.proofs.Common.{◌≡◌, ℕ, List}
use Rattle.srt_pub.specs.Kept.{AreLatest}
use Rattle.srt_pub.specs.Publishing.{longest_up_to_median}
use Rattle.srt_pub.proofs.rates.Meter.median_interval.Given as goal

-- the maximum over the intervals of the previous places
abbrev pub invariant-loop-at : goal.invariant-loop-at
invariant-loop-at l = (times : List ℕ) → AreLatest l.self.at l.self.times.items times → l.median ≡ longest_up_to_median times l.at
