-- The key that wraps a session's stream encrypting keys (KEK), and the keys that a key material message brings.
use Rattle.std.specs.Prelude.{◌≡◌, ℕ, ◌==◌, ◌&&◌, Bool, List, take, drop, replicate, Option, Some, None, option_map}
use Rattle.std.specs.Str.{bytes_eq}
use Rattle.srt_keys.specs.Wrap.{unwrap}
use Rattle.srt_hs.specs.KeyMessage.{KeyMessage}
use Rattle.srt_hs.specs.declared.key_message.SentKeys.{SentKeys}
use Rattle.srt_hs.specs.declared.key_message.SentKeys.TheVariants.{Even, Odd, Both}
use Rattle.srt_session_keys.specs.declared.wrapping_key.WrappingKey.{WrappingKey}

-- the key that wraps, whose length is that of the keys that it wraps
abbrev pub kek_of : WrappingKey → List ℕ
kek_of key = take key.size key.bytes

-- the session's salt
abbrev pub salt_of : WrappingKey → List ℕ
salt_of key = key.salt

-- all bytes of the key and of the salt are zeros
pub record WrappingKeyIsErased (key : WrappingKey) : Type 0 where
  pub bytes : key.bytes ≡ replicate 32 0
  pub salt : key.salt ≡ replicate 16 0

-- a message has the session's salt and length of keys
abbrev pub fits : (kek salt : List ℕ) → (key_length : ℕ) → KeyMessage → Bool
fits kek salt key_length message = bytes_eq message.salt salt && (message.key_length == key_length)

-- stream encrypting keys by their names
pub record StreamKeys : Type 0 where
  pub even : Option (List ℕ)
  pub odd : Option (List ℕ)

-- the keys in an unwrapped text: an even and an odd key stand in this order
abbrev pub keys_in_text : SentKeys → (key_length : ℕ) → (text : List ℕ) → StreamKeys
keys_in_text Even key_length text = record { even = Some (take key_length text); odd = None }
keys_in_text Odd key_length text = record { even = None; odd = Some (take key_length text) }
keys_in_text Both key_length text = record { even = Some (take key_length text); odd = Some (take key_length (drop key_length text)) }

-- the keys that a message brings, if it can be unwrapped
abbrev pub brings : (kek : List ℕ) → KeyMessage → Option StreamKeys
brings kek message = option_map (keys_in_text message.keys message.key_length) (unwrap kek message.wrapped)
