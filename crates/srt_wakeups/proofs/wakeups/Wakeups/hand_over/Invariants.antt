use Rattle.std.proofs.Common.{◌≤◌}
use Rattle.srt_wakeups.proofs.wakeups.Wakeups.hand_over.Given as goal

-- each turn makes one inbox ready at most
abbrev pub invariant-loop : goal.invariant-loop
invariant-loop l = l.begun ≤ l.counter
