-- PBKDF2 with HMAC-SHA1 (RFC 8018, section 5.2), and the key encrypting key of SRT.
use Rattle.std.specs.Prelude.{ℕ, zero, suc, ◌+◌, ◌-◌, List, [], ◌++◌, take, drop, bit_xor}
use Rattle.std.specs.Int.{w32, to_be_bytes}
use lib.Lanes.{zip2}
use Rattle.srt_keys.specs.Hmac.{hmac_sha1}

-- U_c of a block: U_1 is the HMAC of the salt and the block's index, and each further one of that before it
unfoldable pub round_of : (password salt : List ℕ) → (index : ℕ) → (c : ℕ) → List ℕ
round_of password salt index zero = hmac_sha1 password (salt ++ to_be_bytes w32 index)
round_of password salt index (suc c) = hmac_sha1 password (round_of password salt index c)

-- F: the sum of U_1 to U_(more + 1), bit by bit
unfoldable pub block_of : (password salt : List ℕ) → (index : ℕ) → (more : ℕ) → List ℕ
block_of password salt index zero = round_of password salt index zero
block_of password salt index (suc more) =
    zip2 bit_xor (block_of password salt index more) (round_of password salt index (suc more))

-- T_1 || T_2 || .., of so many blocks
unfoldable pub blocks_of : (password salt : List ℕ) → (rounds : ℕ) → (blocks : ℕ) → List ℕ
blocks_of password salt rounds zero = []
blocks_of password salt rounds (suc blocks) =
    blocks_of password salt rounds blocks ++ block_of password salt (blocks + 1) (rounds - 1)

-- PBKDF2 of at most 40 bytes
abbrev pub pbkdf2 : (password salt : List ℕ) → (rounds : ℕ) → (length : ℕ) → List ℕ
pbkdf2 password salt rounds length = take length (blocks_of password salt rounds 2)

-- the key that wraps stream encrypting keys: of the passphrase and of the low 64 bits of the salt, in 2048 rounds
-- (draft-sharabayko-srt-01, section 6.1.4)
abbrev pub kek : (passphrase salt : List ℕ) → (length : ℕ) → List ℕ
kek passphrase salt length = pbkdf2 passphrase (drop 8 salt) 2048 length
