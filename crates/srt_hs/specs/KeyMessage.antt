-- The key material message (section 3.2.2), with AES-CTR and a key that both sides have from a passphrase.
use Rattle.std.specs.Prelude.{◌≡◌, ◌↔◌, ℕ, ◌+◌, ◌*◌, ◌/◌, ◌%◌, ◌^◌, ◌==◌, ◌||◌, true, List, [], ◌∷◌, ◌++◌, length, take, drop, slice_index, nat_lt}
use Rattle.std.specs.Prelude.{Result, Ok, Err, if◌then◌else◌}
use Rattle.srt_types.specs.Words.{word_at}
use Rattle.srt_hs.specs.declared.key_message.SentKeys.{SentKeys}
use Rattle.srt_hs.specs.declared.key_message.SentKeys.TheVariants.{Even, Odd, Both}
use Rattle.srt_hs.specs.declared.key_message.KeyFault.{KeyFault}
use Rattle.srt_hs.specs.declared.key_message.KeyFault.TheVariants.{Short, Sign, Keys, Keki, Cipher, Auth, Encapsulation, SaltLength, KeyLength, Length}

-- the content of a message
pub record KeyMessage : Type 0 where
  pub keys : SentKeys
  -- the length of each key, in bytes
  pub key_length : ℕ
  pub salt : List ℕ
  pub wrapped : List ℕ

-- the field KK
abbrev pub field_of : SentKeys → ℕ
field_of Even = 1
field_of Odd = 2
field_of Both = 3

-- the lengths that keys may have, in bytes
abbrev pub IsKeyLength : ℕ → Type 0
IsKeyLength n = ((n == 16) || ((n == 24) || (n == 32))) ≡ true

-- the length of the wrapped keys, in bytes: 8 more than the keys have
abbrev pub wrapped_length : SentKeys → (key_length : ℕ) → ℕ
wrapped_length Even key_length = 8 + key_length
wrapped_length Odd key_length = 8 + key_length
wrapped_length Both key_length = 8 + 2 * key_length

-- these bytes encode this message; the bits beside KK, and bytes 11 to 13, have any value
pub record SpellsKeys (bytes : List ℕ) (message : KeyMessage) : Type 0 where
  -- S, V, PT and Sign
  pub sign : word_at bytes 0 / 2 ^ 8 ≡ 0x12_2029
  pub keys : field_of message.keys ≡ slice_index bytes 3 % 4
  pub keki : word_at bytes 4 ≡ 0
  pub cipher : slice_index bytes 8 ≡ 2
  pub auth : slice_index bytes 9 ≡ 0
  pub encapsulation : slice_index bytes 10 ≡ 2
  -- SLen and KLen count words
  pub salt_length : slice_index bytes 14 ≡ 4
  pub key_length : message.key_length ≡ 4 * slice_index bytes 15
  pub valid : IsKeyLength message.key_length
  pub length : length bytes ≡ 32 + wrapped_length message.keys message.key_length
  pub salt : message.salt ≡ take 16 (drop 16 bytes)
  pub wrapped : message.wrapped ≡ drop 32 bytes

-- applies the second step to the result of the first; a fault is returned unchanged
abbrev pub after : {A B : Type 0} → Result A KeyFault → (A → Result B KeyFault) → Result B KeyFault
after (Ok x) f = f x
after (Err fault) f = Err fault

-- the keys that a message brings, or the first fault of its first four bytes
unfoldable pub keys_in : List ℕ → Result SentKeys KeyFault
keys_in bytes =
    if word_at bytes 0 / 2 ^ 8 == 0x12_2029 then (
    if slice_index bytes 3 % 4 == 1 then Ok Even
    else if slice_index bytes 3 % 4 == 2 then Ok Odd else if slice_index bytes 3 % 4 == 3 then Ok Both else Err Keys)
    else Err Sign

-- the length of each key, in bytes, or the first fault of the twelve bytes behind these
unfoldable pub key_length_in : List ℕ → Result ℕ KeyFault
key_length_in bytes =
    if word_at bytes 4 == 0 then (
    if slice_index bytes 8 == 2 then (
    if slice_index bytes 9 == 0 then (
    if slice_index bytes 10 == 2 then (
    if slice_index bytes 14 == 4 then (
    if slice_index bytes 15 == 4 then Ok 16
    else if slice_index bytes 15 == 6 then Ok 24 else if slice_index bytes 15 == 8 then Ok 32 else Err KeyLength)
    else Err SaltLength)
    else Err Encapsulation)
    else Err Auth)
    else Err Cipher)
    else Err Keki

-- the message with these keys, if the bytes have the length that follows
abbrev pub with_length : List ℕ → SentKeys → (key_length : ℕ) → Result KeyMessage KeyFault
with_length bytes keys key_length =
    if length bytes == 32 + wrapped_length keys key_length then
    Ok (record { keys = keys; key_length = key_length; salt = take 16 (drop 16 bytes); wrapped = drop 32 bytes })
    else Err Length

-- the message that the bytes encode, or the first fault
unfoldable pub message_in : List ℕ → Result KeyMessage KeyFault
message_in bytes =
    if nat_lt (length bytes) 16 then Err Short
    else after (keys_in bytes) (λ keys. after (key_length_in bytes) (λ key_length. with_length bytes keys key_length))

-- the bytes of a message, with 0 in all that isn't checked
abbrev pub message_text : KeyMessage → List ℕ
message_text m =
    (0x12 ∷ 0x20 ∷ 0x29 ∷ field_of m.keys ∷ 0 ∷ 0 ∷ 0 ∷ 0 ∷ 2 ∷ 0 ∷ 2 ∷ 0 ∷ 0 ∷ 0 ∷ 4 ∷ m.key_length / 4 ∷ []) ++ m.salt ++ m.wrapped

-- the parts of a message have the lengths that it says
pub record IsWhole (m : KeyMessage) : Type 0 where
  pub valid : IsKeyLength m.key_length
  pub salt : length m.salt ≡ 16
  pub wrapped : length m.wrapped ≡ wrapped_length m.keys m.key_length

-- a message is read exactly if the bytes encode it
abbrev pub KeyReadingIsSpelling : Type 0
KeyReadingIsSpelling = (bytes : List ℕ) (m : KeyMessage) → (message_in bytes ≡ Ok m) ↔ SpellsKeys bytes m

-- reading the bytes of a message returns it
abbrev pub KeysReadBack : Type 0
KeysReadBack = (m : KeyMessage) → IsWhole m → message_in (message_text m) ≡ Ok m
