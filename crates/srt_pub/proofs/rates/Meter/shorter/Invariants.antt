use Rattle.std.proofs.Common.{◌≡◌, ◌≤◌, ℕ, List}
use Rattle.srt_pub.specs.Kept.{AreLatest}
use Rattle.srt_pub.specs.Publishing.{shorter}
use Rattle.srt_pub.proofs.rates.Meter.shorter.Given as goal

-- the intervals of the previous places are counted
abbrev pub invariant-loop-place : goal.invariant-loop-place
invariant-loop-place l = record {
  counted : (times : List ℕ) → AreLatest l.self.at l.self.times.items times → l.count ≡ shorter times l.time l.place;
  few : l.count ≤ l.place;
}
