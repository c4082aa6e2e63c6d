use Rattle.std.proofs.Common.{◌≡◌, ℕ, ◌-◌, ◌<◌, ◌≤◌, false}
use Rattle.srt_sendbuf.specs.Places.{lost_at, HasSame}
use Rattle.srt_sendbuf.proofs.ring.Ring.find_lost.Given as goal

abbrev pub invariant-loop-at : goal.invariant-loop-at
invariant-loop-at l =
    record {
      same : HasSame l.fn.self l.self;
      lost : (d : ℕ) → lost_at l.self d ≡ lost_at l.fn.self d;
      low : l.from ≤ l.at;
      high : l.at ≤ l.end;
      before : (d : ℕ) → l.from ≤ d → d < l.at → lost_at l.fn.self d ≡ false;
    }

abbrev pub decreases-loop-at : goal.decreases-loop-at
decreases-loop-at l = l.end - l.at
