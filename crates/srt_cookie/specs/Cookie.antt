-- The cookie of a peer in a minute (section 4.3.1.1). The formula is our choice.
use Rattle.std.specs.Prelude.{◌≡◌, ℕ, ◌+◌, ◌-◌, ◌/◌, ◌⊎◌, List, ◌++◌, take, Bool, ◌==◌, nat_lt, ◌||◌, ◌&&◌, if◌then◌else◌}
use Rattle.std.specs.Int.{w16, w32, w64, from_be_bytes, to_be_bytes}
use Rattle.sha2.specs.Sha256.{sha256}
use Rattle.srt_types.specs.declared.shared.Peer.{Peer}
use Rattle.srt_cookie.specs.declared.secret.Secret.{Secret}

-- the 32 bytes of a secret
abbrev pub secret_bytes : Secret → List ℕ
secret_bytes s = s.bytes

-- the secret of one run: SHA-256 (FIPS 180-4, section 6.2) of the configured secret and of the start, in microseconds
-- since 1970, in network byte order
abbrev pub secret_of_run : (configured : List ℕ) → (start : ℕ) → List ℕ
secret_of_run configured start = sha256 (configured ++ to_be_bytes w64 start)

-- the 58 bytes that are hashed: secret, address, port and minute, each number in network byte order
abbrev pub hashed : List ℕ → Peer → (minute : ℕ) → List ℕ
hashed secret peer minute = secret ++ peer.ip ++ to_be_bytes w16 peer.port ++ to_be_bytes w64 minute

-- the first four bytes of their SHA-256 (FIPS 180-4, section 6.2), as a number in network byte order
abbrev pub front_of_hash : List ℕ → Peer → (minute : ℕ) → ℕ
front_of_hash secret peer minute = from_be_bytes w32 (take 4 (sha256 (hashed secret peer minute)))

-- the cookie of a peer in a minute: that number, or 1 if it is 0
unfoldable pub cookie_of : List ℕ → Peer → (minute : ℕ) → ℕ
cookie_of secret peer minute = if front_of_hash secret peer minute == 0 then 1 else front_of_hash secret peer minute

-- the number of whole minutes in a time in microseconds
abbrev pub minute_of : ℕ → ℕ
minute_of moment = moment / 60_000_000

-- the word is the cookie of the minute of this time, or of the minute before
abbrev pub IsRight : List ℕ → Peer → (moment word : ℕ) → Type 0
IsRight secret peer moment word =
    (minute : ℕ) × ((minute ≡ minute_of moment) ⊎ (minute + 1 ≡ minute_of moment)) × (word ≡ cookie_of secret peer minute)

-- IsRight as a test; minute 0 has no minute before it
abbrev pub is_right : List ℕ → Peer → (moment word : ℕ) → Bool
is_right secret peer moment word =
    (word == cookie_of secret peer (minute_of moment)) ||
    (nat_lt 0 (minute_of moment) && (word == cookie_of secret peer (minute_of moment - 1)))
