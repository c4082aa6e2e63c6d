-- The definitions computed over the examples of FIPS 197.
use Rattle.std.proofs.Common.{◌≡◌, ℕ, ◌+◌, List, [], ◌∷◌, refl, take, drop, length}
use Rattle.std.specs.List.{range_with_len}
use Rattle.srt_aes.specs.Aes.{aes, inv_aes, sub_byte, sub_table, inv_sub_table, inv_sub_byte, xtime, inv_mixed, inv_mix_columns, times_9, times_b}
use Rattle.srt_aes.specs.Aes.{times_d, times_e, rcon, temp_after, next_word, expanded, round_key, state_after, inv_state_after, schedule_of}

-- 00112233445566778899aabbccddeeff
abbrev plain : List ℕ
plain =
    0x00 ∷ 0x11 ∷ 0x22 ∷ 0x33 ∷ 0x44 ∷ 0x55 ∷ 0x66 ∷ 0x77 ∷ 0x88 ∷ 0x99 ∷ 0xaa ∷ 0xbb ∷ 0xcc ∷ 0xdd ∷ 0xee ∷ 0xff ∷ []

-- 69c4e0d86a7b0430d8cdb78070b4c55a
abbrev closed_128 : List ℕ
closed_128 =
    0x69 ∷ 0xc4 ∷ 0xe0 ∷ 0xd8 ∷ 0x6a ∷ 0x7b ∷ 0x04 ∷ 0x30 ∷ 0xd8 ∷ 0xcd ∷ 0xb7 ∷ 0x80 ∷ 0x70 ∷ 0xb4 ∷ 0xc5 ∷ 0x5a ∷ []

-- dda97ca4864cdfe06eaf70a0ec0d7191
abbrev closed_192 : List ℕ
closed_192 =
    0xdd ∷ 0xa9 ∷ 0x7c ∷ 0xa4 ∷ 0x86 ∷ 0x4c ∷ 0xdf ∷ 0xe0 ∷ 0x6e ∷ 0xaf ∷ 0x70 ∷ 0xa0 ∷ 0xec ∷ 0x0d ∷ 0x71 ∷ 0x91 ∷ []

-- 8ea2b7ca516745bfeafc49904b496089
abbrev closed_256 : List ℕ
closed_256 =
    0x8e ∷ 0xa2 ∷ 0xb7 ∷ 0xca ∷ 0x51 ∷ 0x67 ∷ 0x45 ∷ 0xbf ∷ 0xea ∷ 0xfc ∷ 0x49 ∷ 0x90 ∷ 0x4b ∷ 0x49 ∷ 0x60 ∷ 0x89 ∷ []

-- appendix C.1
pub closes_128 : aes (range_with_len 0 16) plain ≡ closed_128
unfolding aes sub_byte sub_table xtime rcon temp_after next_word expanded round_key state_after
closes_128 = refl

-- appendix C.2
pub closes_192 : aes (range_with_len 0 24) plain ≡ closed_192
unfolding aes sub_byte sub_table xtime rcon temp_after next_word expanded round_key state_after
closes_192 = refl

-- appendix C.3
pub closes_256 : aes (range_with_len 0 32) plain ≡ closed_256
unfolding aes sub_byte sub_table xtime rcon temp_after next_word expanded round_key state_after
closes_256 = refl

-- appendix C.1, the inverse cipher
pub opens_128 : inv_aes (range_with_len 0 16) closed_128 ≡ plain
unfolding inv_aes inv_mixed inv_mix_columns sub_byte sub_table inv_sub_byte inv_sub_table xtime times_9 times_b
    times_d times_e rcon temp_after next_word expanded round_key inv_state_after
opens_128 = refl

-- appendix C.3, the inverse cipher
pub opens_256 : inv_aes (range_with_len 0 32) closed_256 ≡ plain
unfolding inv_aes inv_mixed inv_mix_columns sub_byte sub_table inv_sub_byte inv_sub_table xtime times_9 times_b
    times_d times_e rcon temp_after next_word expanded round_key inv_state_after
opens_256 = refl

-- appendix A.1: the last word of the schedule of 2b7e151628aed2a6abf7158809cf4f3c
pub last_word_128 :
    drop 172 (schedule_of (0x2b ∷ 0x7e ∷ 0x15 ∷ 0x16 ∷ 0x28 ∷ 0xae ∷ 0xd2 ∷ 0xa6 ∷ 0xab ∷ 0xf7 ∷ 0x15 ∷ 0x88 ∷
    0x09 ∷ 0xcf ∷ 0x4f ∷ 0x3c ∷ [])) ≡ (0xb6 ∷ 0x63 ∷ 0x0c ∷ 0xa6 ∷ [])
unfolding sub_byte sub_table xtime rcon temp_after next_word expanded
last_word_128 = refl
