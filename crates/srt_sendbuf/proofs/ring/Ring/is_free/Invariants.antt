use Rattle.std.proofs.Common.{◌≡◌, ℕ, ◌<◌, ◌≤◌, false}
use Rattle.srt_ring.specs.Buffers.{slot_of}
use Rattle.srt_ring.specs.Ring.{first_of}
use Rattle.srt_sendbuf.specs.Places.{lost_at, width_of}
use Rattle.srt_sendbuf.proofs.ring.Ring.is_free.Given as goal

abbrev pub invariant-loop-slot : goal.invariant-loop-slot
invariant-loop-slot l =
    (d : ℕ) → d < width_of l.self → l.start ≤ slot_of (width_of l.self) (first_of l.self.payloads) d
    → slot_of (width_of l.self) (first_of l.self.payloads) d < l.slot
    → lost_at l.self d ≡ false
