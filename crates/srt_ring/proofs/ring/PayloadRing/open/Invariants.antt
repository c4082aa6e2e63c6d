use Rattle.std.proofs.Common.{◌≡◌, ◌≤◌, length}
use Rattle.srt_ring.proofs.ring.PayloadRing.open.Given as goal

abbrev pub invariant-loop : goal.invariant-loop
invariant-loop l = (length l.buffers.items ≡ l.counter) × (l.counter ≤ l.width)
