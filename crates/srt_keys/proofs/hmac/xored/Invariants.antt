use Rattle.std.proofs.Common.{◌≡◌, ◌<◌, ℕ, slice_index, bit_xor, length}
use Rattle.srt_keys.proofs.hmac.xored.Given as goal

abbrev pub invariant-loop-i : goal.invariant-loop-i
invariant-loop-i l =
    (length l.sums ≡ 64) × ((k : ℕ) → k < l.i → slice_index l.sums k ≡ bit_xor (slice_index l.bytes k) l.byte)
