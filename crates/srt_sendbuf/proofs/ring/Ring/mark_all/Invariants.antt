use Rattle.std.proofs.Common.{◌≡◌, ℕ, ◌+◌, ◌-◌, ◌≤◌, true, ◌&&◌, if◌then◌else◌}
use Rattle.std.specs.Prelude.{nat_le, nat_lt}
use Rattle.srt_sendbuf.specs.Places.{lost_at, marks_of, HasSame}
use Rattle.srt_sendbuf.proofs.ring.Ring.mark_all.Given as goal

abbrev pub invariant-loop-at : goal.invariant-loop-at
invariant-loop-at l =
    record {
      same : HasSame l.fn.self l.self;
      marks : marks_of l.self ≤ marks_of l.fn.self + (l.at - l.from);
      lost : (d : ℕ) → lost_at l.self d ≡ (if nat_le l.from d && nat_lt d l.at then true else lost_at l.fn.self d);
    }
