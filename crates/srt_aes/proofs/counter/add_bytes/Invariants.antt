use Rattle.std.proofs.Common.{◌≡◌, ◌<◌, ◌≤◌, ℕ, slice_index, bit_xor, length}
use Rattle.srt_aes.proofs.counter.add_bytes.Given as goal

abbrev pub invariant-loop-i : goal.invariant-loop-i
invariant-loop-i l =
    ((k : ℕ) → k < l.i → slice_index l.bytes k ≡ bit_xor (slice_index l.fn.bytes k) (slice_index l.other k)) ×
    ((k : ℕ) → l.i ≤ k → slice_index l.bytes k ≡ slice_index l.fn.bytes k)
