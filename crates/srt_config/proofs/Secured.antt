-- The encryption of a route that was read is the one in its table, and is right.
use Rattle.std.proofs.Common.{◌≡◌, ℕ, ◌==◌, ℤ, pos, negsuc, Bool, true, false, is_some, is_none, ◌&&◌, ◌||◌, cond, List, length, Option, None, Some}
use Rattle.std.proofs.Common.{option_map, option_and_then, Result, Ok, Err, refl, sym, ap, subst, ◌∙◌, arith}
use Rattle.std.proofs.lemmas.Bool.{false≢true}
use Rattle.std.proofs.lemmas.Bool.Decides.{nat_tests}
use Rattle.toml.specs.Data.{Data, Members, get_member, as_str, as_integer}
use Rattle.srt_types.specs.declared.shared.KeyLength.{KeyLength}
use Rattle.srt_types.specs.declared.shared.KeyLength.TheVariants.{Aes128, Aes192, Aes256}
use Rattle.srt_types.specs.Access.{AccessTerms, bytes_in}
use Rattle.srt_types.specs.Entries.{is_between}
use Rattle.srt_types.specs.Terms.{Terms}
use Rattle.srt_config.specs.declared.config.keys.Key.{Key}
use Rattle.srt_config.specs.declared.config.keys.Key.TheVariants.{PublishPassphrase, RequestPassphrase, Pbkeylen, Expect}
use Rattle.srt_config.specs.KeyTable.{key_name}
use Rattle.srt_config.specs.FirstFault.{Fault, OutOfRange, ◌>>=◌}
use Rattle.srt_config.specs.Keys.{known, of_kind, optional, optional_flag_at, given_or_false, text_value}
use Rattle.srt_config.specs.Access.{access_at}
use Rattle.srt_config.specs.Rules.{callers_at, draft_if_none, rules_at}
use Rattle.srt_config.specs.Encryption.{passphrase_in, passphrase_value, passphrase_at, length_of, lengthened, key_length_in, key_length_value}
use Rattle.srt_config.specs.Encryption.{key_length_at, has_passphrase, EncryptionTerms, encryption_with, encryption_in, encryption_at, with_encryption}
use Rattle.srt_config.specs.EncryptionLaws.{size_of, IsWritten, EncryptionIsWritten, has_few_bytes, has_right_encryption}
use Rattle.srt_config.specs.EncryptionLaws.{EncryptionIsRight}
use Rattle.srt_config.specs.Routes.{route_keys, name_at, mode_at, numbers_at, schedule_at, terms_with, with_access, with_rules, Planned, planned, route_at}
use Rattle.srt_config.proofs.Sound.{passed}

abbrev texts : Option (List ℕ) → Result (Option (List ℕ)) Fault
texts x = Ok x

same_texts : (x y : Option (List ℕ)) → texts x ≡ texts y → x ≡ y
same_texts x y e = cc

abbrev sizes : Option KeyLength → Result (Option KeyLength) Fault
sizes x = Ok x

same_sizes : (x y : Option KeyLength) → sizes x ≡ sizes y → x ≡ y
same_sizes x y e = cc

-- a passphrase that was read is the text at its key, and has few bytes
record IsPassphrase (found : Option Data) (text : Option (List ℕ)) : Type 0 where
  written : text ≡ option_and_then as_str found
  few : has_few_bytes text ≡ true
  there : is_some text ≡ is_some found

passphrase_is : (key : Key) (found : Option Data) (text : Option (List ℕ)) → optional (passphrase_value key) found ≡ Ok text → IsPassphrase found text
unfolding passphrase_value passphrase_in text_value
passphrase_is key None text e =
    subst (λ (t : Option (List ℕ)). IsPassphrase None t) (same_texts None text e) (record { written = refl; few = refl; there = refl })
passphrase_is key (Some value) text e = kinds (as_str value) refl e
  where
    chosen : (written : List ℕ) → as_str value ≡ Some written → (t : Bool) → is_between 10 79 (length written) ≡ t →
        (cond t (Ok written) (Err (OutOfRange key)) >>= λ x. texts (Some x)) ≡ Ok text → IsPassphrase (Some value) text
    chosen written is true few e =
        subst (λ (t : Option (List ℕ)). IsPassphrase (Some value) t) (same_texts (Some written) text e)
        (record { written = sym is; few = few; there = refl })
    chosen written is false few e = absurd cc

    kinds : (o : Option (List ℕ)) → as_str value ≡ o →
        ((of_kind key o >>= λ written. cond (is_between 10 79 (length written)) (Ok written) (Err (OutOfRange key))) >>= λ x. texts (Some x)) ≡ Ok text →
        IsPassphrase (Some value) text
    kinds None is e = absurd cc
    kinds (Some written) is e = chosen written is (is_between 10 79 (length written)) refl e

read_passphrase : (key : Key) (table : Members) (text : Option (List ℕ)) → passphrase_at key table ≡ Ok text →
    IsPassphrase (get_member (key_name key) table) text
unfolding passphrase_at
read_passphrase key table text e = passphrase_is key (get_member (key_name key) table) text e

-- a length of keys that was read is the number at its key, and there may be one
record IsLength (allowed : Bool) (found : Option Data) (size : Option KeyLength) : Type 0 where
  written : option_map size_of size ≡ option_and_then as_integer found
  may : is_none size || allowed ≡ true

equal : (n m : ℕ) → (n == m) ≡ true → m ≡ n
equal n m e = grind (arith, nat_tests, e)

-- the length that a number of bytes means has that many
size_is : (n : ℕ) (size : KeyLength) → length_of n ≡ Some size → size_of size ≡ pos n
size_is n size e = of (n == 16) (n == 24) (n == 32) refl refl refl e
  where
    one : (a b : KeyLength) → Some a ≡ Some b → a ≡ b
    one a b e = cc

    is_of : (a : KeyLength) → pos (bytes_in a) ≡ pos n → Some a ≡ Some size → size_of size ≡ pos n
    is_of a same e = subst (λ (s : KeyLength). size_of s ≡ pos n) (one a size e) same

    of : (t u v : Bool) → (n == 16) ≡ t → (n == 24) ≡ u → (n == 32) ≡ v →
        cond t (Some Aes128) (cond u (Some Aes192) (cond v (Some Aes256) None)) ≡ Some size → size_of size ≡ pos n
    of true u v a b c e = is_of Aes128 (ap (λ (m : ℕ). pos m) (equal n 16 a)) e
    of false true v a b c e = is_of Aes192 (ap (λ (m : ℕ). pos m) (equal n 24 b)) e
    of false false true a b c e = is_of Aes256 (ap (λ (m : ℕ). pos m) (equal n 32 c)) e
    of false false false a b c e = absurd cc

length_is : (allowed : Bool) (found : Option Data) (size : Option KeyLength) → optional (key_length_value allowed) found ≡ Ok size →
    IsLength allowed found size
unfolding key_length_value
length_is allowed None size e =
    subst (λ (s : Option KeyLength). IsLength allowed None s) (same_sizes None size e) (record { written = refl; may = refl })
length_is allowed (Some value) size e = kinds (as_integer value) refl allowed refl e
  where
    found : (n : ℕ) → as_integer value ≡ Some (pos n) → allowed ≡ true → (o : Option KeyLength) → length_of n ≡ o →
        (lengthened o >>= λ x. sizes (Some x)) ≡ Ok size → IsLength allowed (Some value) size
    found n is may (Some read) same e =
        subst (λ (s : Option KeyLength). IsLength allowed (Some value) s) (same_sizes (Some read) size e)
        (record { written = ap (λ (z : ℤ). Some z) (size_is n read same) ∙ sym is; may = may })
    found n is may None same e = absurd cc

    kinds : (o : Option ℤ) → as_integer value ≡ o → (may : Bool) → allowed ≡ may →
        ((of_kind Pbkeylen o >>= λ n. key_length_in may n) >>= λ x. sizes (Some x)) ≡ Ok size → IsLength allowed (Some value) size
    kinds None is may h e = absurd cc
    kinds (Some n) is false h e = absurd cc
    kinds (Some (negsuc n)) is true h e = absurd cc
    kinds (Some (pos n)) is true h e = found n is h (length_of n) refl e

read_length : (allowed : Bool) (table : Members) (size : Option KeyLength) → key_length_at allowed table ≡ Ok size →
    IsLength allowed (get_member (key_name Pbkeylen) table) size
unfolding key_length_at
read_length allowed table size e = length_is allowed (get_member (key_name Pbkeylen) table) size e

-- the encryption of a route's table
record IsRead (table : Members) (encryption : EncryptionTerms) : Type 0 where
  publish : IsPassphrase (get_member (key_name PublishPassphrase) table) encryption.publish
  request : IsPassphrase (get_member (key_name RequestPassphrase) table) encryption.request
  size : IsLength (has_passphrase table) (get_member (key_name Pbkeylen) table) encryption.key_length

abbrev ok_encryption : EncryptionTerms → Result EncryptionTerms Fault
ok_encryption x = Ok x

own_encryption : (a b : EncryptionTerms) → ok_encryption a ≡ ok_encryption b → a ≡ b
own_encryption a b e = cc

is_read : (table : Members) (encryption : EncryptionTerms) → encryption_at table ≡ Ok encryption → IsRead table encryption
unfolding encryption_in
is_read table encryption h =
    let a = passed (passphrase_at PublishPassphrase table) _ encryption h in
    let b = passed (passphrase_at RequestPassphrase table) _ encryption a.2 in
    let c = passed (key_length_at (has_passphrase table) table) _ encryption b.2 in
    subst (λ (x : EncryptionTerms). IsRead table x) (own_encryption (encryption_with a.0 b.0 c.0) encryption c.2)
    (record {
      publish = read_passphrase PublishPassphrase table a.0 a.1;
      request = read_passphrase RequestPassphrase table b.0 b.1;
      size = read_length (has_passphrase table) table c.0 c.1;
    })

abbrev ok_route : Planned → Result Planned Fault
ok_route x = Ok x

own_route : (a b : Planned) → ok_route a ≡ ok_route b → a ≡ b
own_route a b e = cc

-- the access rules of a route that was read
route_access : (before : List Terms) (table : Members) (route : Planned) → route_at before table ≡ Ok route →
    (access : AccessTerms) × (access_at table ≡ Ok access) × (encryption : EncryptionTerms) × (encryption_at table ≡ Ok encryption) ×
    (with_encryption encryption access ≡ route.terms.access)
unfolding route_at
route_access before table route h =
    let k = passed (known route_keys table) _ route h in
    let name = passed (name_at before table) _ route k.2 in
    let mode = passed (mode_at table) _ route name.2 in
    let numbers = passed (numbers_at table) _ route mode.2 in
    let schedule = passed (schedule_at table) _ route numbers.2 in
    let callers = passed (callers_at table) _ route schedule.2 in
    let access = passed (access_at table) _ route callers.2 in
    let rules = passed (rules_at numbers.0.sessions (draft_if_none callers.0) table) _ route access.2 in
    let encryption = passed (encryption_at table) _ route rules.2 in
    let expect = passed (optional_flag_at Expect table) _ route encryption.2 in
    let made : Planned =
    planned (with_rules rules.0 (with_access (with_encryption encryption.0 access.0) (terms_with name.0 mode.0 numbers.0))) schedule.0
    (given_or_false expect.0) in
    let same : made ≡ route = own_route made route expect.2 in
    (access.0, access.1, encryption.0, encryption.1, ap (λ (p : Planned). p.terms.access) same)

pub encryption_is_written : EncryptionIsWritten
encryption_is_written before table route h =
    let r = route_access before table route h in
    let read = is_read table r.2 r.3 in
    subst (λ (a : AccessTerms). IsWritten table a) r.4 (read.publish.written, read.request.written, read.size.written)

right : (text request : Option (List ℕ)) (size : Option KeyLength) (has other : Bool) → has_few_bytes text ≡ true → has_few_bytes request ≡ true →
    is_some text ≡ has → is_some request ≡ other → (is_none size || (has || other)) ≡ true →
    (has_few_bytes text && has_few_bytes request && (is_none size || is_some text || is_some request)) ≡ true
right None None None has other few brief there too may = refl
right None None (Some size) has other few brief there too may = absurd (false≢true (either has other there too ∙ may))
  where
    either : (has other : Bool) → false ≡ has → false ≡ other → false ≡ (has || other)
    either false other there too = too
    either true other there too = absurd (false≢true there)
right None (Some text) None has other few brief there too may = rw brief refl
right None (Some text) (Some size) has other few brief there too may = rw brief refl
right (Some text) None None has other few brief there too may = rw few refl
right (Some text) None (Some size) has other few brief there too may = rw few refl
right (Some text) (Some also) None has other few brief there too may = rw (few, brief) refl
right (Some text) (Some also) (Some size) has other few brief there too may = rw (few, brief) refl

pub encryption_is_right : EncryptionIsRight
encryption_is_right before table route h =
    let r = route_access before table route h in
    let read = is_read table r.2 r.3 in
    subst (λ (a : AccessTerms). has_right_encryption a ≡ true) r.4
    (right r.2.publish r.2.request r.2.key_length (is_some (get_member (key_name PublishPassphrase) table))
    (is_some (get_member (key_name RequestPassphrase) table)) read.publish.few read.request.few read.publish.there read.request.there read.size.may)
