-- The encryption of a route: the passphrases and the length of keys in its table (our choice).
use Rattle.std.specs.Prelude.{ℕ, ℤ, pos, negsuc, ◌==◌, ◌||◌, Bool, true, List, length, Option, None, Some, is_some, Result, Ok, Err, if◌then◌else◌}
use Rattle.toml.specs.Data.{Data, Members, get_member, as_integer}
use Rattle.srt_types.specs.declared.shared.KeyLength.{KeyLength}
use Rattle.srt_types.specs.declared.shared.KeyLength.TheVariants.{Aes128, Aes192, Aes256}
use Rattle.srt_types.specs.Access.{AccessTerms}
use Rattle.srt_types.specs.Entries.{is_between}
use Rattle.srt_config.specs.declared.config.keys.Key.{Key}
use Rattle.srt_config.specs.declared.config.keys.Key.TheVariants.{PublishPassphrase, RequestPassphrase, Pbkeylen}
use Rattle.srt_config.specs.KeyTable.{key_name, limits_of}
use Rattle.srt_config.specs.FirstFault.{Fault, OutOfRange, ◌>>=◌}
use Rattle.srt_config.specs.Keys.{of_kind, optional, text_value}

-- 10 to 79 bytes; the limits of both roles are the same
abbrev pub is_passphrase : List ℕ → Bool
is_passphrase text = is_between (limits_of PublishPassphrase).least (limits_of PublishPassphrase).most (length text)

unfoldable pub passphrase_in : Key → List ℕ → Result (List ℕ) Fault
passphrase_in key text = if is_passphrase text then Ok text else Err (OutOfRange key)

-- the passphrase that the value of a key is
unfoldable pub passphrase_value : Key → Data → Result (List ℕ) Fault
passphrase_value key value = text_value key value >>= λ text. passphrase_in key text

-- the passphrase at a key that may be missing
unfoldable pub passphrase_at : Key → Members → Result (Option (List ℕ)) Fault
passphrase_at key table = optional (passphrase_value key) (get_member (key_name key) table)

-- the length of keys of this many bytes: 16, 24 or 32
abbrev pub length_of : ℕ → Option KeyLength
length_of n = if n == 16 then Some Aes128 else if n == 24 then Some Aes192 else if n == 32 then Some Aes256 else None

abbrev pub length_in : ℤ → Option KeyLength
length_in (pos n) = length_of n
length_in (negsuc n) = None

abbrev pub lengthened : Option KeyLength → Result KeyLength Fault
lengthened (Some length) = Ok length
lengthened None = Err (OutOfRange Pbkeylen)

-- the length of keys that a number states, where there may be one
abbrev pub key_length_in : (allowed : Bool) → ℤ → Result KeyLength Fault
key_length_in allowed n = if allowed then lengthened (length_in n) else Err (OutOfRange Pbkeylen)

unfoldable pub key_length_value : (allowed : Bool) → Data → Result KeyLength Fault
key_length_value allowed value = of_kind Pbkeylen (as_integer value) >>= λ n. key_length_in allowed n

-- the same at a key that may be missing
unfoldable pub key_length_at : (allowed : Bool) → Members → Result (Option KeyLength) Fault
key_length_at allowed table = optional (key_length_value allowed) (get_member (key_name Pbkeylen) table)

-- a table has a passphrase of a role, right or wrong
abbrev pub has_passphrase : Members → Bool
has_passphrase table = is_some (get_member (key_name PublishPassphrase) table) || is_some (get_member (key_name RequestPassphrase) table)

-- what encrypts the sessions of a route: the passphrases of its roles, and the length of keys that callers have to bring
pub record EncryptionTerms : Type 0 where
  pub publish : Option (List ℕ)
  pub request : Option (List ℕ)
  pub key_length : Option KeyLength

abbrev pub encryption_with : (publish request : Option (List ℕ)) → (key_length : Option KeyLength) → EncryptionTerms
encryption_with publish request key_length = record { publish = publish; request = request; key_length = key_length }

-- that of a table, with a length of keys where one is allowed
unfoldable pub encryption_in : (allowed : Bool) → Members → Result EncryptionTerms Fault
encryption_in allowed table =
    passphrase_at PublishPassphrase table >>= λ publish.
    passphrase_at RequestPassphrase table >>= λ request.
    key_length_at allowed table >>= λ key_length.
    Ok (encryption_with publish request key_length)

-- that of a route's table: a length of keys means nothing without a passphrase
abbrev pub encryption_at : Members → Result EncryptionTerms Fault
encryption_at table = encryption_in (has_passphrase table) table

-- that of a table of defaults: a route may have the passphrase itself
abbrev pub default_encryption_at : Members → Result EncryptionTerms Fault
default_encryption_at table = encryption_in true table

-- these access rules with this encryption
abbrev pub with_encryption : EncryptionTerms → AccessTerms → AccessTerms
with_encryption encryption access =
    record access {
      publish = record access.publish { passphrase = encryption.publish };
      request = record access.request { passphrase = encryption.request };
      key_length = encryption.key_length;
    }
