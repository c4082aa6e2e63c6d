use Rattle.std.proofs.Common.{◌<◌, ◌≤◌, ◌+◌, ◌*◌}
use Rattle.srt_wakeups.proofs.bit_set.AtomicBitSet.next_from.Given as goal

-- the bits from `from` on of this word are those of the routes from `route` on
abbrev pub invariant-loop-at : goal.invariant-loop-at
invariant-loop-at l = (l.from < 64) × (l.route ≤ l.at * 64 + l.from)
