-- How the sixteen bytes of blocks are held in eight words of 64 bits, the planes, four blocks in each word: bit p of a byte
-- is a bit of plane p. ShiftRows() is never done: which bit holds which byte of the state turns from round to round.
use Rattle.std.specs.Prelude.{ℕ, zero, suc, ◌+◌, ◌-◌, ◌*◌, ◌/◌, ◌%◌, ◌^◌, ◌==◌, List, [], ◌∷◌, map, bit_and, bit_xor, slice_index, slice_index_or}
use Rattle.std.specs.Prelude.{◌++◌, ◌≡◌, ◌<◌, ◌≤◌, if◌then◌else◌}
use Rattle.std.specs.List.{range_with_len}
use Rattle.std.specs.Int.{bit_at, bit_not, w64}
use Rattle.srt_aes.specs.Aes.{round_key, aes}
use Rattle.srt_aes.specs.inside.Circuit.{on_words, substituted}

-- vectors of two words, from the first words and the second words of each
abbrev pub joined : (count : ℕ) → (first second : List ℕ) → List (List ℕ)
joined count first second = map (λ k. slice_index first k ∷ slice_index second k ∷ []) (range_with_len 0 count)

-- the bits at a position, the first word's first
abbrev pub bits_at : (count : ℕ) → (position : ℕ) → List ℕ → List ℕ
bits_at count position words = map (λ k. bit_at (slice_index words k) position) (range_with_len 0 count)

-- the number with these bits, the lowest first
abbrev pub number : List ℕ → ℕ
number [] = 0
number (bit ∷ bits) = bit + 2 * number bits

-- the byte whose bits are at a position of the planes
unfoldable pub byte_at : (position : ℕ) → (planes : List ℕ) → ℕ
byte_at position planes = number (bits_at 8 position planes)

-- where the byte at an index of a state is held: row by row, and row r turned by r columns this many times
abbrev pub slot : (turn index : ℕ) → ℕ
slot turn index = index % 4 * 4 + (index / 4 + turn * (index % 4)) % 4

-- the position of that byte of a block in the planes
abbrev pub place : (turn block index : ℕ) → ℕ
place turn block index = 4 * slot turn index + block

-- a block that planes hold
unfoldable pub block_in : (turn block : ℕ) → (planes : List ℕ) → List ℕ
block_in turn block planes = map (λ index. byte_at (place turn block index) planes) (range_with_len 0 16)

-- a word whose bits come from the positions low places on, where the mask has a bit, and from high places on elsewhere
unfoldable pub turned_word : (low high mask : ℕ) → ℕ → ℕ
turned_word low high mask word =
    bit_xor (bit_and (bit_xor (word / 2 ^ low) (word * 2 ^ (64 - low) % 2 ^ 64)) mask)
    (bit_and (bit_xor (word / 2 ^ high) (word * 2 ^ (64 - high) % 2 ^ 64)) (bit_not w64 mask))

-- each of the planes so
abbrev pub turned_words : (low high mask : ℕ) → List ℕ → List ℕ
turned_words low high mask planes =
    map (λ k. turned_word low high mask (slice_index planes k)) (range_with_len 0 8)

-- planes added bit by bit
unfoldable pub sums : List ℕ → List ℕ → List ℕ
sums planes others = map (λ k. bit_xor (slice_index planes k) (slice_index others k)) (range_with_len 0 8)

-- MixColumns(), of each byte's next one and of the sums c of it with that: next + {02} c + sums two rows on
unfoldable pub mix_sums : (next pairs further : List ℕ) → List ℕ
mix_sums next pairs further =
    let b = λ (k : ℕ). slice_index next k in
    let c = λ (k : ℕ). slice_index pairs k in
    let d = λ (k : ℕ). slice_index further k in
    bit_xor (bit_xor (b 0) (c 7)) (d 0) ∷ bit_xor (bit_xor (bit_xor (b 1) (c 0)) (c 7)) (d 1) ∷
    bit_xor (bit_xor (b 2) (c 1)) (d 2) ∷ bit_xor (bit_xor (bit_xor (b 3) (c 2)) (c 7)) (d 3) ∷
    bit_xor (bit_xor (bit_xor (b 4) (c 3)) (c 7)) (d 4) ∷ bit_xor (bit_xor (b 5) (c 4)) (d 5) ∷
    bit_xor (bit_xor (b 6) (c 5)) (d 6) ∷ bit_xor (bit_xor (b 7) (c 6)) (d 7) ∷ []

-- a turn of the bits: see turned_word
pub record Bend : Type 0 where
  pub low : ℕ
  pub high : ℕ
  pub mask : ℕ

-- to the next row, in a state whose rows are turned this many times
abbrev pub to_next_row : (turn : ℕ) → Bend
to_next_row turn =
    if turn == 1 then record { low = 20; high = 4; mask = 0x0fff_0fff_0fff_0fff }
    else if turn == 2 then record { low = 24; high = 8; mask = 0x00ff_00ff_00ff_00ff }
    else if turn == 3 then record { low = 28; high = 12; mask = 0x000f_000f_000f_000f }
    else record { low = 16; high = 16; mask = 0xffff_ffff_ffff_ffff }

-- two rows on
abbrev pub two_rows_on : (turn : ℕ) → Bend
two_rows_on turn =
    if turn % 2 == 1 then record { low = 40; high = 24; mask = 0x00ff_00ff_00ff_00ff }
    else record { low = 32; high = 32; mask = 0xffff_ffff_ffff_ffff }

-- the planes bent so
abbrev pub bent : Bend → List ℕ → List ℕ
bent bend planes = turned_words bend.low bend.high bend.mask planes

-- MixColumns() of a state, where these bring a row's bytes to the next row and two rows on
abbrev pub mixed_by : (to_next two_on : Bend) → List ℕ → List ℕ
mixed_by to_next two_on planes =
    let next = bent to_next planes in
    let pairs = sums planes next in
    mix_sums next pairs (bent two_on pairs)

-- the same of a state whose rows are turned this many times
unfoldable pub mix_words : (turn : ℕ) → List ℕ → List ℕ
mix_words turn planes = mixed_by (to_next_row turn) (two_rows_on turn) planes

-- the planes of the round key of a round
abbrev pub key_planes : List (List ℕ) → (round : ℕ) → List ℕ
key_planes keys round = slice_index_or keys round []

-- the planes after a number of rounds that aren't the last one
unfoldable pub words_after : (keys : List (List ℕ)) → (planes : List ℕ) → (rounds : ℕ) → List ℕ
words_after keys planes zero = sums planes (key_planes keys 0)
words_after keys planes (suc rounds) =
    sums (mix_words ((rounds + 1) % 4) (substituted on_words (words_after keys planes rounds))) (key_planes keys (rounds + 1))

-- the planes after all rounds
unfoldable pub closed_words : (keys : List (List ℕ)) → (rounds : ℕ) → (planes : List ℕ) → List ℕ
closed_words keys rounds planes =
    sums (substituted on_words (words_after keys planes (rounds - 1))) (key_planes keys rounds)

-- no plane has a bit past the 64th
abbrev pub AreNarrow : (planes : List ℕ) → Type 0
AreNarrow planes =
    (position : ℕ) → 64 ≤ position →
    bits_at 8 position planes ≡ (0 ∷ 0 ∷ 0 ∷ 0 ∷ 0 ∷ 0 ∷ 0 ∷ 0 ∷ [])

-- the planes hold a round key, the same in each of the four blocks, turned as the state is in that round
pub record HoldsKey (planes : List ℕ) (turn : ℕ) (key : List ℕ) : Type 0 where
  pub held : (block : ℕ) → block < 4 → block_in turn block planes ≡ key
  pub narrow : AreNarrow planes

-- the planes hold the round keys of a schedule
abbrev pub HoldKeys : (keys : List (List ℕ)) → (schedule : List ℕ) → (rounds : ℕ) → Type 0
HoldKeys keys schedule rounds =
    (round : ℕ) → round ≤ rounds → HoldsKey (key_planes keys round) (round % 4) (round_key schedule round)

-- a bit of a byte, four times, at the positions of a slot
unfoldable pub nibble : (byte bit slot : ℕ) → ℕ
nibble byte bit slot = bit_at byte bit * 15 * 2 ^ (4 * slot) % 2 ^ 64

-- planes that hold a byte in a slot of each block, and zeros
abbrev pub nibbles : (byte slot : ℕ) → List ℕ
nibbles byte slot = map (λ k. nibble byte k slot) (range_with_len 0 8)

-- planes that hold the first bytes of a block, the same in each of the four blocks
unfoldable pub spread_words : (turn : ℕ) → (bytes : List ℕ) → (count : ℕ) → List ℕ
spread_words turn bytes zero = 0 ∷ 0 ∷ 0 ∷ 0 ∷ 0 ∷ 0 ∷ 0 ∷ 0 ∷ []
spread_words turn bytes (suc count) =
    sums (spread_words turn bytes count) (nibbles (slice_index bytes count) (slot turn count))

-- planes that hold the numbers of four counter blocks in their last bytes, the first of which is a multiple of 4
unfoldable pub counter_planes : (first : ℕ) → List ℕ
counter_planes first =
    0xa000_0000_0000_0000 ∷ 0xc000_0000_0000_0000 ∷ nibble first 2 15 ∷ nibble first 3 15 ∷ nibble first 4 15 ∷
    nibble first 5 15 ∷ nibble first 6 15 ∷ nibble first 7 15 ∷ []

-- a counter block with another number, below 256 and in place of 0
unfoldable pub numbered : (block : List ℕ) → (n : ℕ) → List ℕ
numbered block n =
    map (λ i. bit_xor (slice_index block i) (if i == 15 then n else 0)) (range_with_len 0 16)

-- the first blocks of a key stream
unfoldable pub numbered_stream : (key block : List ℕ) → (blocks : ℕ) → List ℕ
numbered_stream key block zero = []
numbered_stream key block (suc blocks) = numbered_stream key block blocks ++ aes key (numbered block blocks)
