-- What the keys of encryption mean for a route that was read (our choice).
use Rattle.std.specs.Prelude.{◌≡◌, ℕ, ℤ, pos, Bool, true, is_none, ◌&&◌, ◌||◌, List, length, Option, None, Some, option_map, option_and_then, Ok}
use Rattle.toml.specs.Data.{Members, get_member, as_str, as_integer}
use Rattle.srt_types.specs.declared.shared.KeyLength.{KeyLength}
use Rattle.srt_types.specs.Access.{AccessTerms, is_secured, bytes_in}
use Rattle.srt_types.specs.Entries.{is_between}
use Rattle.srt_types.specs.Terms.{Terms}
use Rattle.srt_config.specs.declared.config.keys.Key.{Key}
use Rattle.srt_config.specs.declared.config.keys.Key.TheVariants.{PublishPassphrase, RequestPassphrase, Pbkeylen}
use Rattle.srt_config.specs.KeyTable.{key_name}
use Rattle.srt_config.specs.Routes.{Planned, route_at}

-- the text and the number at a key, if there is one
abbrev pub text_of : Key → Members → Option (List ℕ)
text_of key table = option_and_then as_str (get_member (key_name key) table)

abbrev pub number_of : Key → Members → Option ℤ
number_of key table = option_and_then as_integer (get_member (key_name key) table)

-- the number of bytes of a key of this length
abbrev pub size_of : KeyLength → ℤ
size_of size = pos (bytes_in size)

-- the passphrases and the length of keys are those of the table; there is none where the table has no such key
abbrev pub IsWritten : Members → AccessTerms → Type 0
IsWritten table access =
    (access.publish.passphrase ≡ text_of PublishPassphrase table) × (access.request.passphrase ≡ text_of RequestPassphrase table) ×
    (option_map size_of access.key_length ≡ number_of Pbkeylen table)

-- so is each route's that was read
abbrev pub EncryptionIsWritten : Type 0
EncryptionIsWritten = (before : List Terms) (table : Members) (route : Planned) → route_at before table ≡ Ok route → IsWritten table route.terms.access

abbrev pub has_few_bytes : Option (List ℕ) → Bool
has_few_bytes None = true
has_few_bytes (Some text) = is_between 10 79 (length text)

-- a passphrase has 10 to 79 bytes, and keys have a length only where a role is secured
abbrev pub has_right_encryption : AccessTerms → Bool
has_right_encryption access =
    has_few_bytes access.publish.passphrase && has_few_bytes access.request.passphrase &&
    (is_none access.key_length || is_secured access.publish || is_secured access.request)

-- so has each route that was read
abbrev pub EncryptionIsRight : Type 0
EncryptionIsRight =
    (before : List Terms) (table : Members) (route : Planned) → route_at before table ≡ Ok route → has_right_encryption route.terms.access ≡ true
