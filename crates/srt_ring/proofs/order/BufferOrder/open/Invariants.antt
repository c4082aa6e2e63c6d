use Rattle.std.proofs.Common.{◌≡◌, ℕ, ◌<◌, length, get_or}
use Rattle.srt_ring.proofs.order.BufferOrder.open.Given as goal

abbrev pub invariant-loop-at : goal.invariant-loop-at
invariant-loop-at l = (length l.buffers.items ≡ l.at) × ((k : ℕ) → k < l.at → get_or l.buffers.items k 0 ≡ k)
