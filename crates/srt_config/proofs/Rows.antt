-- Computed examples: passphrases and lengths of keys, in routes and in the table of defaults.
use Rattle.std.proofs.Common.{◌≡◌, pos, negsuc, true, false, replicate, codes, [], Some, None, Ok, Err, refl}
use Rattle.toml.specs.Data.{Members, no_members, member, string, integer}
use Rattle.srt_types.specs.declared.shared.KeyLength.TheVariants.{Aes128, Aes192, Aes256}
use Rattle.srt_config.specs.declared.config.keys.Key.TheVariants.{PublishPassphrase, RequestPassphrase, Pbkeylen}
use Rattle.srt_config.specs.FirstFault.{WrongKind, OutOfRange}
use Rattle.srt_config.specs.Encryption.{is_passphrase, passphrase_in, passphrase_value, passphrase_at, key_length_in, key_length_value, key_length_at}
use Rattle.srt_config.specs.Encryption.{encryption_with, encryption_in, encryption_at, default_encryption_at}
use Rattle.srt_config.specs.Keys.{text_value}
use Rattle.srt_config.specs.Defaults.{completed}
use Rattle.srt_config.specs.AllFaults.{default_fault, route_fault}

nine_bytes : is_passphrase (replicate 9 120) ≡ false
nine_bytes = refl

ten_bytes : is_passphrase (replicate 10 120) ≡ true
ten_bytes = refl

most_bytes : is_passphrase (replicate 79 195) ≡ true
most_bytes = refl

one_more : is_passphrase (replicate 80 120) ≡ false
one_more = refl

aes128 : key_length_in true (pos 16) ≡ Ok Aes128
aes128 = refl

aes192 : key_length_in true (pos 24) ≡ Ok Aes192
aes192 = refl

aes256 : key_length_in true (pos 32) ≡ Ok Aes256
aes256 = refl

-- no cipher has keys of 20 bytes, nor of 0, nor of -16
twenty : key_length_in true (pos 20) ≡ Err (OutOfRange Pbkeylen)
twenty = refl

none : key_length_in true (pos 0) ≡ Err (OutOfRange Pbkeylen)
none = refl

below : key_length_in true (negsuc 15) ≡ Err (OutOfRange Pbkeylen)
below = refl

abbrev length_alone : Members
length_alone = member (codes "pbkeylen") (integer (pos 16)) no_members

abbrev passphrase_alone : Members
passphrase_alone = member (codes "publish_passphrase") (string (codes "correct horse battery")) no_members

-- keys have a length only where the route has a passphrase, and in the defaults always
length_of_a_route : encryption_at length_alone ≡ Err (OutOfRange Pbkeylen)
unfolding encryption_in passphrase_at key_length_at key_length_value
length_of_a_route = refl

length_of_the_defaults : default_encryption_at length_alone ≡ Ok (encryption_with None None (Some Aes128))
unfolding encryption_in passphrase_at key_length_at key_length_value
length_of_the_defaults = refl

-- the length from the defaults and the passphrase of the route, and the other way round
length_from_the_defaults : encryption_at (completed passphrase_alone length_alone)
    ≡ Ok (encryption_with (Some (codes "correct horse battery")) None (Some Aes128))
unfolding encryption_in passphrase_at passphrase_value passphrase_in text_value key_length_at key_length_value
length_from_the_defaults = refl

passphrase_from_the_defaults : encryption_at (completed length_alone passphrase_alone)
    ≡ Ok (encryption_with (Some (codes "correct horse battery")) None (Some Aes128))
unfolding encryption_in passphrase_at passphrase_value passphrase_in text_value key_length_at key_length_value
passphrase_from_the_defaults = refl

-- one passphrase of the two suffices
abbrev other_passphrase : Members
other_passphrase = member (codes "pbkeylen") (integer (pos 16)) (member (codes "request_passphrase") (string (codes "hold the line please")) no_members)

length_with_the_other : encryption_at other_passphrase ≡ Ok (encryption_with None (Some (codes "hold the line please")) (Some Aes128))
unfolding encryption_in passphrase_at passphrase_value passphrase_in text_value key_length_at key_length_value
length_with_the_other = refl

-- of two wrong passphrases the first one is the fault
abbrev both_too_short : Members
both_too_short =
    member (codes "publish_passphrase") (string (codes "correct h")) (member (codes "request_passphrase") (string (codes "hold the ")) no_members)

first_is_wrong : encryption_at both_too_short ≡ Err (OutOfRange PublishPassphrase)
unfolding encryption_in passphrase_at passphrase_value passphrase_in text_value
first_is_wrong = refl

other_is_wrong : route_fault [] both_too_short RequestPassphrase ≡ Some (OutOfRange RequestPassphrase)
unfolding passphrase_at passphrase_value passphrase_in text_value
other_is_wrong = refl

-- another kind comes before all else
abbrev quoted : Members
quoted = member (codes "pbkeylen") (string (codes "16")) no_members

quoted_length : encryption_at quoted ≡ Err (WrongKind Pbkeylen)
unfolding encryption_in passphrase_at key_length_at key_length_value
quoted_length = refl

-- a passphrase that is too short is a passphrase: the length of keys isn't wrong too
abbrev too_short : Members
too_short = member (codes "pbkeylen") (integer (pos 16)) (member (codes "publish_passphrase") (string (codes "correct h")) no_members)

short_is_wrong : route_fault [] too_short PublishPassphrase ≡ Some (OutOfRange PublishPassphrase)
unfolding passphrase_at passphrase_value passphrase_in text_value
short_is_wrong = refl

length_is_not : route_fault [] too_short Pbkeylen ≡ None
unfolding key_length_at key_length_value
length_is_not = refl

length_is_wrong : route_fault [] length_alone Pbkeylen ≡ Some (OutOfRange Pbkeylen)
unfolding key_length_at key_length_value
length_is_wrong = refl

length_of_defaults_is_not : default_fault length_alone Pbkeylen ≡ None
unfolding key_length_at key_length_value
length_of_defaults_is_not = refl
