-- The function that reads key material messages agrees with the relation that defines their encoding.
use Rattle.std.proofs.Common.{◌≡◌, ◌∙◌, ℕ, ◌+◌, ◌*◌, ◌/◌, ◌%◌, ◌^◌, ◌≤◌, List, [], ◌∷◌, Result, Ok, Err, IfOk}
use Rattle.std.proofs.Common.{IsOkAnd, refl, sym, ap, arith, length, take, drop, slice_index, length-append}
use Rattle.std.proofs.lemmas.Bool.Decides.{nat_tests}
use Rattle.srt_types.specs.Words.{word_at}
use Rattle.srt_hs.specs.declared.key_message.SentKeys.{SentKeys}
use Rattle.srt_hs.specs.declared.key_message.SentKeys.TheVariants.{Even, Odd, Both}
use Rattle.srt_hs.specs.declared.key_message.KeyMessageRef.{KeyMessageRef}
use Rattle.srt_hs.specs.declared.key_message.KeyFault.{KeyFault}
use Rattle.srt_hs.specs.KeyMessage.{KeyMessage, SpellsKeys, IsKeyLength, field_of, wrapped_length, keys_in, key_length_in, with_length, after}
use Rattle.srt_hs.specs.KeyMessage.{message_in, message_text, IsWhole, KeyReadingIsSpelling, KeysReadBack}
use Rattle.std.proofs.Math.Seq.{take_at, drop_at}
use Rattle.srt_hs.specs.KeyView.{message_of, message_read}

keys_found : (bytes : List ℕ) → IfOk (keys_in bytes) (λ keys. (word_at bytes 0 / 2 ^ 8 ≡ 0x12_2029) × (field_of keys ≡ slice_index bytes 3 % 4))
unfolding keys_in
keys_found bytes = grind (arith, nat_tests)

-- the checks of the twelve bytes behind the first four
record Checked (bytes : List ℕ) (n : ℕ) : Type 0 where
  pub keki : word_at bytes 4 ≡ 0
  pub cipher : slice_index bytes 8 ≡ 2
  pub auth : slice_index bytes 9 ≡ 0
  pub encapsulation : slice_index bytes 10 ≡ 2
  pub salt_length : slice_index bytes 14 ≡ 4
  pub key_length : n ≡ 4 * slice_index bytes 15
  pub valid : IsKeyLength n

length_found : (bytes : List ℕ) → IfOk (key_length_in bytes) (λ n. Checked bytes n)
unfolding key_length_in
length_found bytes = grind (arith, nat_tests)

spelled_with : (bytes : List ℕ) (keys : SentKeys) (n : ℕ) → word_at bytes 0 / 2 ^ 8 ≡ 0x12_2029 →
    field_of keys ≡ slice_index bytes 3 % 4 → Checked bytes n → IfOk (with_length bytes keys n) (λ m. SpellsKeys bytes m)
spelled_with bytes keys n sign field checked = grind (arith, nat_tests, sign, field, checked)

found_after_length : (bytes : List ℕ) (keys : SentKeys) (r : Result ℕ KeyFault) → word_at bytes 0 / 2 ^ 8 ≡ 0x12_2029 →
    field_of keys ≡ slice_index bytes 3 % 4 → IfOk r (λ n. Checked bytes n) →
    IfOk (after r (λ n. with_length bytes keys n)) (λ m. SpellsKeys bytes m)
found_after_length bytes keys (Ok n) sign field checked = spelled_with bytes keys n sign field checked
found_after_length bytes keys (Err fault) sign field checked = tt

found_after_keys : (bytes : List ℕ) (r : Result SentKeys KeyFault) →
    IfOk r (λ keys. (word_at bytes 0 / 2 ^ 8 ≡ 0x12_2029) × (field_of keys ≡ slice_index bytes 3 % 4)) →
    IfOk (after r (λ keys. after (key_length_in bytes) (λ n. with_length bytes keys n))) (λ m. SpellsKeys bytes m)
found_after_keys bytes (Ok keys) h = found_after_length bytes keys (key_length_in bytes) h.0 h.1 (length_found bytes)
found_after_keys bytes (Err fault) h = tt

pub message_found : (bytes : List ℕ) → IfOk (message_in bytes) (λ m. SpellsKeys bytes m)
unfolding message_in
message_found bytes =
    let f = found_after_keys bytes (keys_in bytes) (keys_found bytes) in
    grind (arith, nat_tests, f)

keys_only : (bytes : List ℕ) (keys : SentKeys) → word_at bytes 0 / 2 ^ 8 ≡ 0x12_2029 → field_of keys ≡ slice_index bytes 3 % 4 →
    keys_in bytes ≡ Ok keys
unfolding keys_in
keys_only bytes Even sign field = grind (arith, nat_tests)
keys_only bytes Odd sign field = grind (arith, nat_tests)
keys_only bytes Both sign field = grind (arith, nat_tests)

length_only : (bytes : List ℕ) (m : KeyMessage) → SpellsKeys bytes m → key_length_in bytes ≡ Ok m.key_length
unfolding key_length_in
length_only bytes m s = grind (arith, nat_tests, s.keki, s.cipher, s.auth, s.encapsulation, s.salt_length, s.key_length, s.valid)

with_length_only : (bytes : List ℕ) (m : KeyMessage) → SpellsKeys bytes m → with_length bytes m.keys m.key_length ≡ Ok m
with_length_only bytes m s = grind (arith, nat_tests, s.length, s.salt, s.wrapped)

pub message_only : (bytes : List ℕ) (m : KeyMessage) → SpellsKeys bytes m → message_in bytes ≡ Ok m
unfolding message_in
message_only bytes m s =
    let keys = keys_only bytes m.keys s.sign s.keys in
    let n = length_only bytes m s in
    let all = with_length_only bytes m s in
    let rest = ap (λ r. after r (λ keys. after (key_length_in bytes) (λ k. with_length bytes keys k))) keys ∙
    ap (λ r. after r (λ k. with_length bytes m.keys k)) n ∙ all in
    grind (arith, nat_tests, rest, s.length)

pub found_by : (bytes : List ℕ) (r : Result KeyMessageRef KeyFault) → message_read r ≡ message_in bytes →
    IfOk r (λ m. SpellsKeys bytes (message_of m))
found_by bytes (Ok m) e = let f = message_found bytes in rw (← e) at f
found_by bytes (Err fault) e = tt

pub only_by : (bytes : List ℕ) (r : Result KeyMessageRef KeyFault) → message_read r ≡ message_in bytes → (m : KeyMessage) →
    SpellsKeys bytes m → IsOkAnd r (λ found. message_of found ≡ m)
only_by bytes (Ok found) e m s = let k = e ∙ message_only bytes m s in cc
only_by bytes (Err fault) e m s = let k = e ∙ message_only bytes m s in cc

pub key_reading_is_spelling : KeyReadingIsSpelling
key_reading_is_spelling bytes m = (λ e. let f = message_found bytes in rw e at f, message_only bytes m)

quarter : (n : ℕ) → IsKeyLength n → n ≡ 4 * (n / 4)
quarter n valid = grind (arith, nat_tests)

field_is : (keys : SentKeys) → field_of keys ≡ field_of keys % 4
field_is Even = refl
field_is Odd = refl
field_is Both = refl

sign_is : (keys : SentKeys) → word_at (0x12 ∷ 0x20 ∷ 0x29 ∷ field_of keys ∷ []) 0 / 2 ^ 8 ≡ 0x12_2029
sign_is Even = refl
sign_is Odd = refl
sign_is Both = refl

pub written_is_spelled : (m : KeyMessage) → IsWhole m → SpellsKeys (message_text m) m
written_is_spelled m whole =
    record {
      sign = sign_is m.keys;
      keys = field_is m.keys;
      keki = refl;
      cipher = refl;
      auth = refl;
      encapsulation = refl;
      salt_length = refl;
      key_length = quarter m.key_length whole.valid;
      valid = whole.valid;
      length = omega (arith, whole.salt, whole.wrapped, length-append m.salt m.wrapped);
      salt = sym (take_at m.salt m.wrapped 16 whole.salt);
      wrapped = sym (drop_at m.salt m.wrapped 16 whole.salt);
    }

pub keys_read_back : KeysReadBack
keys_read_back m whole = message_only (message_text m) m (written_is_spelled m whole)

-- all checks have passed
pub read_whole : (bytes : List ℕ) (keys : SentKeys) (n : ℕ) (salt wrapped : List ℕ) → 16 ≤ length bytes →
    Ok keys ≡ keys_in bytes → Ok n ≡ key_length_in bytes → length bytes ≡ 32 + wrapped_length keys n →
    salt ≡ take 16 (drop 16 bytes) → wrapped ≡ drop 32 bytes →
    Ok (record { keys = keys; key_length = n; salt = salt; wrapped = wrapped }) ≡ message_in bytes
unfolding message_in
read_whole bytes keys n salt wrapped sixteen ek en len es ew =
    let m : KeyMessage = record { keys = keys; key_length = n; salt = salt; wrapped = wrapped } in
    let fits : with_length bytes keys n ≡ Ok m = grind (arith, nat_tests, len, es, ew) in
    let rest = ap (λ r. after r (λ k. after (key_length_in bytes) (λ l. with_length bytes k l))) (sym ek) ∙
    ap (λ r. after r (λ l. with_length bytes keys l)) (sym en) ∙ fits in
    grind (arith, nat_tests, rest, sixteen)
