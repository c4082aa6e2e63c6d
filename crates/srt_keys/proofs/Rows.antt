-- The definitions computed over examples.
use Rattle.std.proofs.Common.{◌≡◌, ℕ, List, [], ◌∷◌, ◌++◌, Some, refl}
use Rattle.std.specs.List.{range_with_len}
use Rattle.srt_aes.specs.Aes.{aes, inv_aes, sub_byte, sub_table, inv_sub_byte, inv_sub_table, xtime, inv_mixed, inv_mix_columns, times_9, times_b}
use Rattle.srt_aes.specs.Aes.{times_d, times_e, rcon, temp_after, next_word, expanded, round_key, state_after, inv_state_after}
use Rattle.srt_keys.specs.Wrap.{wrap, unwrap, wrap_after, unwrap_after}

-- RFC 3394, section 4.1: 00112233445566778899aabbccddeeff under 000102030405060708090a0b0c0d0e0f
abbrev text : List ℕ
text =
    0x00 ∷ 0x11 ∷ 0x22 ∷ 0x33 ∷ 0x44 ∷ 0x55 ∷ 0x66 ∷ 0x77 ∷ 0x88 ∷ 0x99 ∷ 0xaa ∷ 0xbb ∷ 0xcc ∷ 0xdd ∷ 0xee ∷ 0xff ∷ []

abbrev wrapped : List ℕ
wrapped =
    0x1f ∷ 0xa6 ∷ 0x8b ∷ 0x0a ∷ 0x81 ∷ 0x12 ∷ 0xb4 ∷ 0x47 ∷ 0xae ∷ 0xf3 ∷ 0x4b ∷ 0xd8 ∷ 0xfb ∷ 0x5a ∷ 0x7b ∷ 0x82 ∷
    0x9d ∷ 0x3e ∷ 0x86 ∷ 0x23 ∷ 0x71 ∷ 0xd2 ∷ 0xcf ∷ 0xe5 ∷ []

pub wraps_text : wrap (range_with_len 0 16) text ≡ wrapped
unfolding wrap_after aes sub_byte sub_table xtime rcon temp_after next_word expanded round_key state_after
wraps_text = refl

pub unwraps_text : unwrap (range_with_len 0 16) wrapped ≡ Some text
unfolding unwrap_after inv_aes sub_byte sub_table inv_sub_byte inv_sub_table inv_mixed inv_mix_columns xtime times_9
    times_b times_d times_e rcon temp_after next_word expanded round_key inv_state_after
unwraps_text = refl
