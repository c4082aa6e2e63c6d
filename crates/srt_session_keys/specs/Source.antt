-- The keys that the gateway makes for its subscribers (our choice).
use Rattle.std.specs.Prelude.{◌≡◌, ◌<◌, ℕ, ◌+◌, ◌^◌, ◌%◌, ◌==◌, List, [], ◌∷◌, ◌++◌, length, take, replicate, if◌then◌else◌}
use Rattle.std.specs.Int.{w16, w32, w64, to_be_bytes}
use Rattle.sha2.specs.Sha256.{sha256}
use Rattle.srt_types.specs.declared.shared.Peer.{Peer}
use Rattle.srt_keys.specs.Hmac.{hmac_sha256}
use Rattle.srt_keys.specs.Wrap.{wrap}
use Rattle.srt_hs.specs.KeyMessage.{message_text}
use Rattle.srt_hs.specs.declared.key_message.SentKeys.{SentKeys}
use Rattle.srt_hs.specs.declared.key_message.SentKeys.TheVariants.{Even, Odd}
use Rattle.srt_session_keys.specs.Wrapping.{kek_of, salt_of}
use Rattle.srt_session_keys.specs.declared.pool.KeyPool.{KeyPool}
use Rattle.srt_session_keys.specs.declared.source.KeySource.{KeySource}

-- what distinguishes the sessions of a route: how many with keys were opened, and a hash of the cookies and peers of all of them
pub record Pool : Type 0 where
  pub count : ℕ
  pub hash : List ℕ

-- a subscriber's session that opens: the cookie of its conclusion, and its peer
pub record Opening : Type 0 where
  pub cookie : ℕ
  pub peer : Peer

abbrev pub first_pool : Pool
first_pool = record { count = 0; hash = replicate 32 0 }

-- the pool after a session opened
abbrev pub pool_with : Opening → Pool → Pool
pool_with opening pool =
    record {
      count = pool.count + 1;
      hash = sha256 (pool.hash ++ to_be_bytes w32 opening.cookie ++ opening.peer.ip ++ to_be_bytes w16 opening.peer.port);
    }

-- the pool after openings, the newest first
abbrev pub pool_after : List Opening → Pool
pool_after [] = first_pool
pool_after (opening ∷ openings) = pool_with opening (pool_after openings)

-- so no two sessions of a route have the same count
abbrev pub CountsAreDistinct : Type 0
CountsAreDistinct = (openings : List Opening) → (pool_after openings).count ≡ length openings

abbrev pub pool_of : KeyPool → Pool
pool_of pool = record { count = pool.count; hash = pool.hash }

-- what the keys of a session are made of: the key that wraps, the salt, the session's ID, how many sessions opened before it,
-- and the hash of the pool
pub record Source : Type 0 where
  pub kek : List ℕ
  pub salt : List ℕ
  pub session : ℕ
  pub count : ℕ
  pub hash : List ℕ

abbrev pub source_of : KeySource → Source
source_of s = record { kek = kek_of s.kek; salt = salt_of s.kek; session = s.session; count = s.count; hash = s.hash }

-- what the keys of a session that opens now are made of
abbrev pub source_with : (kek salt : List ℕ) → (session : ℕ) → Opening → Pool → Source
source_with kek salt session opening pool =
    record { kek = kek; salt = salt; session = session; count = pool.count; hash = (pool_with opening pool).hash }

-- the text of which a key is made, numbers in network byte order
abbrev pub own_text : Source → (index : ℕ) → List ℕ
own_text s index = to_be_bytes w32 s.session ++ to_be_bytes w64 s.count ++ to_be_bytes w64 index ++ s.hash

-- a session's key with an index, from 0
unfoldable pub own : Source → (index : ℕ) → List ℕ
own s index = take (length s.kek) (hmac_sha256 s.kek (own_text s index))

-- the name of a key: the first one is the odd one
abbrev pub name_of : (index : ℕ) → SentKeys
name_of index = if index % 2 == 0 then Odd else Even

-- a key has another name than the one before
abbrev pub NamesAlternate : Type 0
NamesAlternate = (index : ℕ) → name_of (index + 1) ≡ name_of index → ⊥

-- the message that brings the key
unfoldable pub own_message : Source → (index : ℕ) → List ℕ
own_message s index =
    message_text (record { keys = name_of index; key_length = length s.kek; salt = s.salt; wrapped = wrap s.kek (own s index) })

-- the texts of keys are the same only of one session and index
abbrev pub TextsAreDistinct : Type 0
TextsAreDistinct =
    (one other : Source) (i k : ℕ) → one.session < 2 ^ 32 → other.session < 2 ^ 32 → one.count < 2 ^ 64 → other.count < 2 ^ 64 →
    i < 2 ^ 64 → k < 2 ^ 64 → own_text one i ≡ own_text other k →
    (one.session ≡ other.session) × (one.count ≡ other.count) × (i ≡ k) × (one.hash ≡ other.hash)
