use Rattle.std.proofs.Common.{◌≡◌, ℕ, ◌+◌, ◌-◌}
use Rattle.srt_sendbuf.specs.Places.{kept_at, lost_at, length_of, width_of}
use Rattle.srt_sendbuf.proofs.ring.Ring.slide_by.Given as goal

abbrev pub invariant-loop : goal.invariant-loop
invariant-loop l =
    record {
      width : width_of l.self ≡ width_of l.fn.self;
      length : length_of l.self ≡ length_of l.fn.self - l.counter;
      kept : (d : ℕ) → kept_at l.self d ≡ kept_at l.fn.self (d + l.counter);
      lost : (d : ℕ) → lost_at l.self d ≡ lost_at l.fn.self (d + l.counter);
    }
