-- The bits of eight planes as the bytes of eight words: a transposition of 8 by 8 bits at each eight positions, in three layers of
-- SWAPMOVE (May, Penna and Clark, 2000).
use Rattle.std.specs.Prelude.{ℕ, ◌+◌, ◌-◌, ◌*◌, ◌/◌, ◌%◌, ◌^◌, ◌==◌, List, map, bit_and, bit_xor, slice_index, if◌then◌else◌}
use Rattle.std.specs.List.{range_with_len}

-- the bits that two words exchange: those of the second one under the mask, and those of the first one that many places higher
abbrev pub exchanged : (by mask first second : ℕ) → ℕ
exchanged by mask first second = bit_and (bit_xor (first / 2 ^ by) second) mask

-- the first word after SWAPMOVE, and the second one
unfoldable pub first_after : (by mask first second : ℕ) → ℕ
first_after by mask first second = bit_xor first (exchanged by mask first second * 2 ^ by % 2 ^ 64)

unfoldable pub second_after : (by mask first second : ℕ) → ℕ
second_after by mask first second = bit_xor second (exchanged by mask first second)

-- word k after SWAPMOVE of each two words at this distance
unfoldable pub word_after : (by mask : ℕ) → (words : List ℕ) → (k : ℕ) → ℕ
word_after by mask words k =
    if k / by % 2 == 0 then first_after by mask (slice_index words k) (slice_index words (k + by))
    else second_after by mask (slice_index words (k - by)) (slice_index words k)

unfoldable pub swapped : (by mask : ℕ) → List ℕ → List ℕ
swapped by mask words = map (λ k. word_after by mask words k) (range_with_len 0 8)

-- the words whose bytes are those of the blocks that planes hold
unfoldable pub transposed_words : (planes : List ℕ) → List ℕ
transposed_words planes =
    swapped 4 0x0f0f_0f0f_0f0f_0f0f (swapped 2 0x3333_3333_3333_3333 (swapped 1 0x5555_5555_5555_5555 planes))
