use Rattle.std.proofs.Common.{◌≡◌, ◌+◌, ◌-◌}
use Rattle.srt_explain.specs.Resemblance.{same_at, passing}
use Rattle.srt_explain.proofs.resemblance.agreeing_front.Given as goal

abbrev pub invariant-loop-at : goal.invariant-loop-at
invariant-loop-at l =
    passing (same_at l.one l.other) 0 l.most ≡ l.at + passing (same_at l.one l.other) l.at (l.most - l.at)
