-- HMAC (RFC 2104) with a hash of 64-byte blocks, and with SHA-1 and SHA-256 of FIPS 180-4.
use Rattle.std.specs.Prelude.{ℕ, ◌-◌, nat_lt, List, ◌++◌, length, map, replicate, bit_xor, if◌then◌else◌}
use Rattle.sha1.specs.Sha1.{sha1}
use Rattle.sha2.specs.Sha256.{sha256}

-- a key of 64 bytes: a longer one is hashed first, and then zeros are appended (section 2)
abbrev pub padded_key : (hash : List ℕ → List ℕ) → List ℕ → List ℕ
padded_key hash key =
    let short = (if nat_lt 64 (length key) then hash key else key) in
    short ++ replicate (64 - length short) 0

-- each byte added to this one, bit by bit
abbrev pub xor_each : (byte : ℕ) → List ℕ → List ℕ
xor_each byte bytes = map (λ b. bit_xor b byte) bytes

-- the key added to ipad, and to opad
abbrev pub inner_key : (hash : List ℕ → List ℕ) → List ℕ → List ℕ
inner_key hash key = xor_each 0x36 (padded_key hash key)

abbrev pub outer_key : (hash : List ℕ → List ℕ) → List ℕ → List ℕ
outer_key hash key = xor_each 0x5c (padded_key hash key)

-- HMAC of a text
abbrev pub hmac : (hash : List ℕ → List ℕ) → (key text : List ℕ) → List ℕ
hmac hash key text = hash (outer_key hash key ++ hash (inner_key hash key ++ text))

-- HMAC-SHA1 and HMAC-SHA256 of a text
abbrev pub hmac_sha1 : (key text : List ℕ) → List ℕ
hmac_sha1 key text = hmac sha1 key text

abbrev pub hmac_sha256 : (key text : List ℕ) → List ℕ
hmac_sha256 key text = hmac sha256 key text
