-- AES (FIPS 197) as functions on lists of bytes, which are numbers below 256, in the standard's words. A state is the list
-- of its 16 bytes, column after column: byte r + 4 * c is in row r and column c (section 3.4).
use Rattle.std.specs.Prelude.{◌≡◌, true, ◌||◌, ℕ, zero, suc, ◌+◌, ◌-◌, ◌*◌, ◌/◌, ◌%◌, ◌==◌, nat_lt, ◌&&◌, List, [], ◌∷◌, ◌++◌, length, take, drop}
use Rattle.std.specs.Prelude.{bit_xor, slice_index, map, if◌then◌else◌}
use Rattle.std.specs.List.{range_with_len}

-- the S-box (figure 7)
unfoldable pub sub_table : List ℕ
sub_table =
    0x63 ∷ 0x7c ∷ 0x77 ∷ 0x7b ∷ 0xf2 ∷ 0x6b ∷ 0x6f ∷ 0xc5 ∷ 0x30 ∷ 0x01 ∷ 0x67 ∷ 0x2b ∷ 0xfe ∷ 0xd7 ∷ 0xab ∷ 0x76 ∷
    0xca ∷ 0x82 ∷ 0xc9 ∷ 0x7d ∷ 0xfa ∷ 0x59 ∷ 0x47 ∷ 0xf0 ∷ 0xad ∷ 0xd4 ∷ 0xa2 ∷ 0xaf ∷ 0x9c ∷ 0xa4 ∷ 0x72 ∷ 0xc0 ∷
    0xb7 ∷ 0xfd ∷ 0x93 ∷ 0x26 ∷ 0x36 ∷ 0x3f ∷ 0xf7 ∷ 0xcc ∷ 0x34 ∷ 0xa5 ∷ 0xe5 ∷ 0xf1 ∷ 0x71 ∷ 0xd8 ∷ 0x31 ∷ 0x15 ∷
    0x04 ∷ 0xc7 ∷ 0x23 ∷ 0xc3 ∷ 0x18 ∷ 0x96 ∷ 0x05 ∷ 0x9a ∷ 0x07 ∷ 0x12 ∷ 0x80 ∷ 0xe2 ∷ 0xeb ∷ 0x27 ∷ 0xb2 ∷ 0x75 ∷
    0x09 ∷ 0x83 ∷ 0x2c ∷ 0x1a ∷ 0x1b ∷ 0x6e ∷ 0x5a ∷ 0xa0 ∷ 0x52 ∷ 0x3b ∷ 0xd6 ∷ 0xb3 ∷ 0x29 ∷ 0xe3 ∷ 0x2f ∷ 0x84 ∷
    0x53 ∷ 0xd1 ∷ 0x00 ∷ 0xed ∷ 0x20 ∷ 0xfc ∷ 0xb1 ∷ 0x5b ∷ 0x6a ∷ 0xcb ∷ 0xbe ∷ 0x39 ∷ 0x4a ∷ 0x4c ∷ 0x58 ∷ 0xcf ∷
    0xd0 ∷ 0xef ∷ 0xaa ∷ 0xfb ∷ 0x43 ∷ 0x4d ∷ 0x33 ∷ 0x85 ∷ 0x45 ∷ 0xf9 ∷ 0x02 ∷ 0x7f ∷ 0x50 ∷ 0x3c ∷ 0x9f ∷ 0xa8 ∷
    0x51 ∷ 0xa3 ∷ 0x40 ∷ 0x8f ∷ 0x92 ∷ 0x9d ∷ 0x38 ∷ 0xf5 ∷ 0xbc ∷ 0xb6 ∷ 0xda ∷ 0x21 ∷ 0x10 ∷ 0xff ∷ 0xf3 ∷ 0xd2 ∷
    0xcd ∷ 0x0c ∷ 0x13 ∷ 0xec ∷ 0x5f ∷ 0x97 ∷ 0x44 ∷ 0x17 ∷ 0xc4 ∷ 0xa7 ∷ 0x7e ∷ 0x3d ∷ 0x64 ∷ 0x5d ∷ 0x19 ∷ 0x73 ∷
    0x60 ∷ 0x81 ∷ 0x4f ∷ 0xdc ∷ 0x22 ∷ 0x2a ∷ 0x90 ∷ 0x88 ∷ 0x46 ∷ 0xee ∷ 0xb8 ∷ 0x14 ∷ 0xde ∷ 0x5e ∷ 0x0b ∷ 0xdb ∷
    0xe0 ∷ 0x32 ∷ 0x3a ∷ 0x0a ∷ 0x49 ∷ 0x06 ∷ 0x24 ∷ 0x5c ∷ 0xc2 ∷ 0xd3 ∷ 0xac ∷ 0x62 ∷ 0x91 ∷ 0x95 ∷ 0xe4 ∷ 0x79 ∷
    0xe7 ∷ 0xc8 ∷ 0x37 ∷ 0x6d ∷ 0x8d ∷ 0xd5 ∷ 0x4e ∷ 0xa9 ∷ 0x6c ∷ 0x56 ∷ 0xf4 ∷ 0xea ∷ 0x65 ∷ 0x7a ∷ 0xae ∷ 0x08 ∷
    0xba ∷ 0x78 ∷ 0x25 ∷ 0x2e ∷ 0x1c ∷ 0xa6 ∷ 0xb4 ∷ 0xc6 ∷ 0xe8 ∷ 0xdd ∷ 0x74 ∷ 0x1f ∷ 0x4b ∷ 0xbd ∷ 0x8b ∷ 0x8a ∷
    0x70 ∷ 0x3e ∷ 0xb5 ∷ 0x66 ∷ 0x48 ∷ 0x03 ∷ 0xf6 ∷ 0x0e ∷ 0x61 ∷ 0x35 ∷ 0x57 ∷ 0xb9 ∷ 0x86 ∷ 0xc1 ∷ 0x1d ∷ 0x9e ∷
    0xe1 ∷ 0xf8 ∷ 0x98 ∷ 0x11 ∷ 0x69 ∷ 0xd9 ∷ 0x8e ∷ 0x94 ∷ 0x9b ∷ 0x1e ∷ 0x87 ∷ 0xe9 ∷ 0xce ∷ 0x55 ∷ 0x28 ∷ 0xdf ∷
    0x8c ∷ 0xa1 ∷ 0x89 ∷ 0x0d ∷ 0xbf ∷ 0xe6 ∷ 0x42 ∷ 0x68 ∷ 0x41 ∷ 0x99 ∷ 0x2d ∷ 0x0f ∷ 0xb0 ∷ 0x54 ∷ 0xbb ∷ 0x16 ∷ []

-- the inverse S-box (figure 14)
unfoldable pub inv_sub_table : List ℕ
inv_sub_table =
    0x52 ∷ 0x09 ∷ 0x6a ∷ 0xd5 ∷ 0x30 ∷ 0x36 ∷ 0xa5 ∷ 0x38 ∷ 0xbf ∷ 0x40 ∷ 0xa3 ∷ 0x9e ∷ 0x81 ∷ 0xf3 ∷ 0xd7 ∷ 0xfb ∷
    0x7c ∷ 0xe3 ∷ 0x39 ∷ 0x82 ∷ 0x9b ∷ 0x2f ∷ 0xff ∷ 0x87 ∷ 0x34 ∷ 0x8e ∷ 0x43 ∷ 0x44 ∷ 0xc4 ∷ 0xde ∷ 0xe9 ∷ 0xcb ∷
    0x54 ∷ 0x7b ∷ 0x94 ∷ 0x32 ∷ 0xa6 ∷ 0xc2 ∷ 0x23 ∷ 0x3d ∷ 0xee ∷ 0x4c ∷ 0x95 ∷ 0x0b ∷ 0x42 ∷ 0xfa ∷ 0xc3 ∷ 0x4e ∷
    0x08 ∷ 0x2e ∷ 0xa1 ∷ 0x66 ∷ 0x28 ∷ 0xd9 ∷ 0x24 ∷ 0xb2 ∷ 0x76 ∷ 0x5b ∷ 0xa2 ∷ 0x49 ∷ 0x6d ∷ 0x8b ∷ 0xd1 ∷ 0x25 ∷
    0x72 ∷ 0xf8 ∷ 0xf6 ∷ 0x64 ∷ 0x86 ∷ 0x68 ∷ 0x98 ∷ 0x16 ∷ 0xd4 ∷ 0xa4 ∷ 0x5c ∷ 0xcc ∷ 0x5d ∷ 0x65 ∷ 0xb6 ∷ 0x92 ∷
    0x6c ∷ 0x70 ∷ 0x48 ∷ 0x50 ∷ 0xfd ∷ 0xed ∷ 0xb9 ∷ 0xda ∷ 0x5e ∷ 0x15 ∷ 0x46 ∷ 0x57 ∷ 0xa7 ∷ 0x8d ∷ 0x9d ∷ 0x84 ∷
    0x90 ∷ 0xd8 ∷ 0xab ∷ 0x00 ∷ 0x8c ∷ 0xbc ∷ 0xd3 ∷ 0x0a ∷ 0xf7 ∷ 0xe4 ∷ 0x58 ∷ 0x05 ∷ 0xb8 ∷ 0xb3 ∷ 0x45 ∷ 0x06 ∷
    0xd0 ∷ 0x2c ∷ 0x1e ∷ 0x8f ∷ 0xca ∷ 0x3f ∷ 0x0f ∷ 0x02 ∷ 0xc1 ∷ 0xaf ∷ 0xbd ∷ 0x03 ∷ 0x01 ∷ 0x13 ∷ 0x8a ∷ 0x6b ∷
    0x3a ∷ 0x91 ∷ 0x11 ∷ 0x41 ∷ 0x4f ∷ 0x67 ∷ 0xdc ∷ 0xea ∷ 0x97 ∷ 0xf2 ∷ 0xcf ∷ 0xce ∷ 0xf0 ∷ 0xb4 ∷ 0xe6 ∷ 0x73 ∷
    0x96 ∷ 0xac ∷ 0x74 ∷ 0x22 ∷ 0xe7 ∷ 0xad ∷ 0x35 ∷ 0x85 ∷ 0xe2 ∷ 0xf9 ∷ 0x37 ∷ 0xe8 ∷ 0x1c ∷ 0x75 ∷ 0xdf ∷ 0x6e ∷
    0x47 ∷ 0xf1 ∷ 0x1a ∷ 0x71 ∷ 0x1d ∷ 0x29 ∷ 0xc5 ∷ 0x89 ∷ 0x6f ∷ 0xb7 ∷ 0x62 ∷ 0x0e ∷ 0xaa ∷ 0x18 ∷ 0xbe ∷ 0x1b ∷
    0xfc ∷ 0x56 ∷ 0x3e ∷ 0x4b ∷ 0xc6 ∷ 0xd2 ∷ 0x79 ∷ 0x20 ∷ 0x9a ∷ 0xdb ∷ 0xc0 ∷ 0xfe ∷ 0x78 ∷ 0xcd ∷ 0x5a ∷ 0xf4 ∷
    0x1f ∷ 0xdd ∷ 0xa8 ∷ 0x33 ∷ 0x88 ∷ 0x07 ∷ 0xc7 ∷ 0x31 ∷ 0xb1 ∷ 0x12 ∷ 0x10 ∷ 0x59 ∷ 0x27 ∷ 0x80 ∷ 0xec ∷ 0x5f ∷
    0x60 ∷ 0x51 ∷ 0x7f ∷ 0xa9 ∷ 0x19 ∷ 0xb5 ∷ 0x4a ∷ 0x0d ∷ 0x2d ∷ 0xe5 ∷ 0x7a ∷ 0x9f ∷ 0x93 ∷ 0xc9 ∷ 0x9c ∷ 0xef ∷
    0xa0 ∷ 0xe0 ∷ 0x3b ∷ 0x4d ∷ 0xae ∷ 0x2a ∷ 0xf5 ∷ 0xb0 ∷ 0xc8 ∷ 0xeb ∷ 0xbb ∷ 0x3c ∷ 0x83 ∷ 0x53 ∷ 0x99 ∷ 0x61 ∷
    0x17 ∷ 0x2b ∷ 0x04 ∷ 0x7e ∷ 0xba ∷ 0x77 ∷ 0xd6 ∷ 0x26 ∷ 0xe1 ∷ 0x69 ∷ 0x14 ∷ 0x63 ∷ 0x55 ∷ 0x21 ∷ 0x0c ∷ 0x7d ∷ []

-- SubBytes() of one byte (section 5.1.1)
unfoldable pub sub_byte : ℕ → ℕ
sub_byte byte = slice_index sub_table byte

-- InvSubBytes() of one byte (section 5.3.2)
unfoldable pub inv_sub_byte : ℕ → ℕ
inv_sub_byte byte = slice_index inv_sub_table byte

-- SubBytes() (section 5.1.1)
abbrev pub sub_bytes : List ℕ → List ℕ
sub_bytes state = map sub_byte state

-- InvSubBytes() (section 5.3.2)
abbrev pub inv_sub_bytes : List ℕ → List ℕ
inv_sub_bytes state = map inv_sub_byte state

-- the bytes of a state at these places
abbrev pub picked : List ℕ → (places : List ℕ) → List ℕ
picked state places = map (λ place. slice_index state place) places

-- ShiftRows() (section 5.1.2): row r moves to the left by r columns
abbrev pub shift_rows : List ℕ → List ℕ
shift_rows state =
    picked state (0 ∷ 5 ∷ 10 ∷ 15 ∷ 4 ∷ 9 ∷ 14 ∷ 3 ∷ 8 ∷ 13 ∷ 2 ∷ 7 ∷ 12 ∷ 1 ∷ 6 ∷ 11 ∷ [])

-- InvShiftRows() (section 5.3.1): row r moves to the right by r columns
abbrev pub inv_shift_rows : List ℕ → List ℕ
inv_shift_rows state =
    picked state (0 ∷ 13 ∷ 10 ∷ 7 ∷ 4 ∷ 1 ∷ 14 ∷ 11 ∷ 8 ∷ 5 ∷ 2 ∷ 15 ∷ 12 ∷ 9 ∷ 6 ∷ 3 ∷ [])

-- a byte times {02} in GF(2^8): xtime() (section 4.2.1)
unfoldable pub xtime : ℕ → ℕ
xtime byte = if nat_lt byte 128 then 2 * byte else bit_xor (2 * byte - 256) 0x1b

-- four bytes added in GF(2^8)
abbrev pub xor4 : ℕ → ℕ → ℕ → ℕ → ℕ
xor4 a b c d = bit_xor (bit_xor (bit_xor a b) c) d

-- {02} a + {03} b + c + d, a byte of MixColumns() (section 5.1.3)
abbrev pub mixed : ℕ → ℕ → ℕ → ℕ → ℕ
mixed a b c d = xor4 (xtime a) (bit_xor (xtime b) b) c d

-- MixColumns() of the column whose first byte is at a place
abbrev pub mix_column : List ℕ → (at : ℕ) → List ℕ
mix_column state at =
    let a = slice_index state at in
    let b = slice_index state (at + 1) in
    let c = slice_index state (at + 2) in
    let d = slice_index state (at + 3) in
    mixed a b c d ∷ mixed b c d a ∷ mixed c d a b ∷ mixed d a b c ∷ []

-- MixColumns() (section 5.1.3)
abbrev pub mix_columns : List ℕ → List ℕ
mix_columns state = mix_column state 0 ++ mix_column state 4 ++ mix_column state 8 ++ mix_column state 12

-- a byte times {09}, {0b}, {0d} and {0e}
unfoldable pub times_9 : ℕ → ℕ
times_9 byte = bit_xor (xtime (xtime (xtime byte))) byte

unfoldable pub times_b : ℕ → ℕ
times_b byte = bit_xor (bit_xor (xtime (xtime (xtime byte))) (xtime byte)) byte

unfoldable pub times_d : ℕ → ℕ
times_d byte = bit_xor (bit_xor (xtime (xtime (xtime byte))) (xtime (xtime byte))) byte

unfoldable pub times_e : ℕ → ℕ
times_e byte = bit_xor (bit_xor (xtime (xtime (xtime byte))) (xtime (xtime byte))) (xtime byte)

-- {0e} a + {0b} b + {0d} c + {09} d, a byte of InvMixColumns() (section 5.3.3)
unfoldable pub inv_mixed : ℕ → ℕ → ℕ → ℕ → ℕ
inv_mixed a b c d = xor4 (times_e a) (times_b b) (times_d c) (times_9 d)

-- InvMixColumns() of the column whose first byte is at a place
abbrev pub inv_mix_column : List ℕ → (at : ℕ) → List ℕ
inv_mix_column state at =
    let a = slice_index state at in
    let b = slice_index state (at + 1) in
    let c = slice_index state (at + 2) in
    let d = slice_index state (at + 3) in
    inv_mixed a b c d ∷ inv_mixed b c d a ∷ inv_mixed c d a b ∷ inv_mixed d a b c ∷ []

-- InvMixColumns() (section 5.3.3)
unfoldable pub inv_mix_columns : List ℕ → List ℕ
inv_mix_columns state =
    inv_mix_column state 0 ++ inv_mix_column state 4 ++ inv_mix_column state 8 ++ inv_mix_column state 12

-- AddRoundKey() (section 5.1.4)
abbrev pub add_round_key : List ℕ → List ℕ → List ℕ
add_round_key state key = map (λ k. bit_xor (slice_index state k) (slice_index key k)) (range_with_len 0 16)

-- Rcon[i] = {02}^(i - 1), the first byte of its word (section 5.2)
unfoldable pub rcon : ℕ → ℕ
rcon zero = 0x8d
rcon (suc i) = if i == 0 then 1 else xtime (rcon i)

-- SubWord() (section 5.2)
abbrev pub sub_word : List ℕ → List ℕ
sub_word word =
    sub_byte (slice_index word 0) ∷ sub_byte (slice_index word 1) ∷ sub_byte (slice_index word 2) ∷
    sub_byte (slice_index word 3) ∷ []

-- the word after temp, RotWord(), SubWord() and Rcon of the round, as bytes (section 5.2)
abbrev pub turned_word : List ℕ → (round : ℕ) → List ℕ
turned_word temp round =
    bit_xor (sub_byte (slice_index temp 1)) (rcon round) ∷ sub_byte (slice_index temp 2) ∷
    sub_byte (slice_index temp 3) ∷ sub_byte (slice_index temp 0) ∷ []

-- what is added to w[i - Nk] for w[i], of temp = w[i - 1] (figure 11, the loop)
unfoldable pub temp_after : (nk i : ℕ) → List ℕ → List ℕ
temp_after nk i temp =
    if i % nk == 0 then turned_word temp (i / nk)
    else if nat_lt 6 nk && (i % nk == 4) then sub_word temp else temp

-- word i of a list of words, as bytes
abbrev pub word_of : List ℕ → ℕ → List ℕ
word_of words i =
    slice_index words (4 * i) ∷ slice_index words (4 * i + 1) ∷ slice_index words (4 * i + 2) ∷
    slice_index words (4 * i + 3) ∷ []

-- w[i] from the words before it
unfoldable pub next_word : (nk i : ℕ) → List ℕ → List ℕ
next_word nk i words =
    let before = word_of words (i - nk) in
    let temp = temp_after nk i (word_of words (i - 1)) in
    bit_xor (slice_index before 0) (slice_index temp 0) ∷ bit_xor (slice_index before 1) (slice_index temp 1) ∷
    bit_xor (slice_index before 2) (slice_index temp 2) ∷ bit_xor (slice_index before 3) (slice_index temp 3) ∷ []

-- KeyExpansion() (figure 11): the words of the key and count more, as bytes
unfoldable pub expanded : List ℕ → (count : ℕ) → List ℕ
expanded key zero = key
expanded key (suc count) =
    let words = expanded key count in words ++ next_word (length key / 4) (length key / 4 + count) words

-- the lengths that keys may have, in bytes (figure 4)
abbrev pub IsKeyLength : ℕ → Type 0
IsKeyLength length = ((length == 16) || ((length == 24) || (length == 32))) ≡ true

-- Nr, the number of rounds, of a key (figure 4)
abbrev pub rounds_of : List ℕ → ℕ
rounds_of key = length key / 4 + 6

-- the key schedule, 16 bytes for each round and 16 before them (section 5.2)
abbrev pub schedule_of : List ℕ → List ℕ
schedule_of key = expanded key (3 * (length key / 4) + 28)

-- the round key of a round in a key schedule
unfoldable pub round_key : List ℕ → (round : ℕ) → List ℕ
round_key schedule round = map (λ k. slice_index schedule (16 * round + k)) (range_with_len 0 16)

-- the state after a number of rounds that aren't the last one (figure 5)
unfoldable pub state_after : (schedule block : List ℕ) → (rounds : ℕ) → List ℕ
state_after schedule block zero = add_round_key block (round_key schedule 0)
state_after schedule block (suc rounds) =
    add_round_key (mix_columns (shift_rows (sub_bytes (state_after schedule block rounds))))
    (round_key schedule (rounds + 1))

-- Cipher() (figure 5), of a key schedule and its number of rounds
abbrev pub cipher : (schedule : List ℕ) → (rounds : ℕ) → (block : List ℕ) → List ℕ
cipher schedule rounds block =
    add_round_key (shift_rows (sub_bytes (state_after schedule block (rounds - 1)))) (round_key schedule rounds)

-- AES: the block that a key makes of a block
unfoldable pub aes : (key block : List ℕ) → List ℕ
aes key block = cipher (schedule_of key) (rounds_of key) block

-- the state of InvCipher() after a number of rounds that aren't the last one (figure 12)
unfoldable pub inv_state_after : (schedule : List ℕ) → (rounds : ℕ) → (block : List ℕ) → (count : ℕ) → List ℕ
inv_state_after schedule rounds block zero = add_round_key block (round_key schedule rounds)
inv_state_after schedule rounds block (suc count) =
    inv_mix_columns (add_round_key (inv_sub_bytes (inv_shift_rows (inv_state_after schedule rounds block count)))
    (round_key schedule (rounds - (count + 1))))

-- InvCipher() (figure 12), of a key schedule and its number of rounds
abbrev pub inv_cipher : (schedule : List ℕ) → (rounds : ℕ) → (block : List ℕ) → List ℕ
inv_cipher schedule rounds block =
    add_round_key (inv_sub_bytes (inv_shift_rows (inv_state_after schedule rounds block (rounds - 1))))
    (round_key schedule 0)

-- AES backwards: the block of which a key makes a block
unfoldable pub inv_aes : (key block : List ℕ) → List ℕ
inv_aes key block = inv_cipher (schedule_of key) (rounds_of key) block
