-- AES in counter mode, as SRT uses it (section 6.2.2 of draft-sharabayko-srt-01).
use Rattle.std.specs.Prelude.{◌≡◌, ℕ, zero, suc, ◌+◌, ◌*◌, ◌/◌, ◌%◌, List, [], ◌∷◌, ◌++◌, length, map, replicate, bit_xor, slice_index}
use Rattle.std.specs.List.{range_with_len}
use Rattle.std.specs.Int.{w16, w32, to_be_bytes}
use lib.Lanes.{zip2}
use Rattle.srt_aes.specs.Aes.{aes}

-- the first 14 bytes of each counter block of a packet: those of the salt, with the packet's sequence number added to
-- the last four of them, bit by bit
abbrev pub nonce : (salt : List ℕ) → (number : ℕ) → List ℕ
nonce salt number =
    let bytes = replicate 10 0 ++ to_be_bytes w32 number in
    map (λ k. bit_xor (slice_index salt k) (slice_index bytes k)) (range_with_len 0 14)

-- the counter block with an index, of a packet
abbrev pub counter_block : (salt : List ℕ) → (number index : ℕ) → List ℕ
counter_block salt number index = nonce salt number ++ to_be_bytes w16 index

-- the first blocks of the key stream of a packet
unfoldable pub key_stream : (key salt : List ℕ) → (number : ℕ) → (blocks : ℕ) → List ℕ
key_stream key salt number zero = []
key_stream key salt number (suc blocks) =
    key_stream key salt number blocks ++ aes key (counter_block salt number blocks)

-- a payload with the key stream added to it, bit by bit; it is its own inverse
abbrev pub counter_mode : (key salt : List ℕ) → (number : ℕ) → (payload : List ℕ) → List ℕ
counter_mode key salt number payload =
    zip2 bit_xor payload (key_stream key salt number (length payload / 16 + 1))

-- a payload keeps its length
abbrev pub CounterModeKeepsLengths : Type 0
CounterModeKeepsLengths = (key salt : List ℕ) (number : ℕ) (payload : List ℕ) → length (counter_mode key salt number payload) ≡ length payload

-- a payload that is encrypted is decrypted by the same key, salt and number
abbrev pub CounterModeIsItsOwnInverse : Type 0
CounterModeIsItsOwnInverse =
    (key salt : List ℕ) (number : ℕ) (payload : List ℕ) → counter_mode key salt number (counter_mode key salt number payload) ≡ payload
