-- The lengths of the keys of a subscriber's session and of their messages, which so can be read.
use Rattle.std.proofs.Common.{◌≡◌, ℕ, zero, suc, ◌+◌, ◌-◌, ◌*◌, ◌/◌, ◌%◌, ◌<◌, ◌≤◌, ◌==◌, Bool, true, false, cond, List, ◌++◌, length, take, drop}
use Rattle.std.proofs.Common.{Ok, refl, sym, ap, subst, ◌∙◌, inl, inr, ◌⊎◌, arith}
use Rattle.std.specs.Prelude.{bit_xor, slice_index}
use Rattle.std.proofs.lemmas.Nat.{mod_below}
use Rattle.std.specs.Int.{w32, w64, to_be_bytes}
use Rattle.std.proofs.lemmas.List.{length-append, length-drop, length-take-le}
use lib.Lanes.{zip2}
use Rattle.sha1.specs.Sha1.{digest_bytes, sha1}
use Rattle.sha2.proofs.Facts256.{length-sha256}
use Rattle.srt_aes.specs.Aes.{aes}
use Rattle.srt_aes.proofs.Counting.{length-zip2}
use Rattle.srt_aes.proofs.Lengths.{key_bounds, key_lengths}
use Rattle.srt_keys.specs.Hmac.{hmac_sha256}
use Rattle.srt_keys.specs.Pbkdf2.{block_of, blocks_of, kek, round_of}
use Rattle.srt_keys.specs.Wrap.{initial_value, wrap, wrap_after, wrap_step}
use Rattle.srt_hs.specs.KeyMessage.{IsKeyLength, KeyMessage, message_in, wrapped_length}
use Rattle.srt_hs.specs.declared.key_message.SentKeys.TheVariants.{Even, Odd}
use Rattle.srt_hs.proofs.Keys.{key_reading_is_spelling, keys_read_back}
use Rattle.srt_session_keys.specs.Source.{Source, name_of, own, own_message, own_text}
use Rattle.srt_route.specs.Sendable.{IsMessage}

-- what keys are made of has a key encrypting key of a valid length, and a salt of 16 bytes
pub record IsWholeSource (s : Source) : Type 0 where
  pub long : IsKeyLength (length s.kek)
  pub salt : length s.salt ≡ 16

-- a key encrypting key is as long as it is asked for
digest_long : (h : List ℕ) (n : ℕ) → length (digest_bytes h n) ≡ n * 4
unfolding digest_bytes
digest_long h zero = refl
digest_long h (suc n) =
    let last : length (to_be_bytes w32 (slice_index h n)) ≡ 4 = refl in
    omega (arith, digest_long h n, last, length-append (digest_bytes h n) (to_be_bytes w32 (slice_index h n)))

sha1_long : (m : List ℕ) → length (sha1 m) ≡ 20
unfolding sha1
sha1_long m = digest_long _ 5

round_long : (password salt : List ℕ) (index c : ℕ) → length (round_of password salt index c) ≡ 20
unfolding round_of
round_long password salt index zero = sha1_long _
round_long password salt index (suc c) = sha1_long _

block_long : (password salt : List ℕ) (index more : ℕ) → length (block_of password salt index more) ≡ 20
unfolding block_of
block_long password salt index zero = round_long password salt index 0
block_long password salt index (suc more) =
    let first = block_long password salt index more in
    let other = round_long password salt index (suc more) in
    length-zip2 (block_of password salt index more) (round_of password salt index (suc more)) (omega (arith, first, other)) ∙ first

blocks_long : (password salt : List ℕ) (rounds blocks : ℕ) → length (blocks_of password salt rounds blocks) ≡ 20 * blocks
unfolding blocks_of
blocks_long password salt rounds zero = refl
blocks_long password salt rounds (suc blocks) =
    omega (
      arith,
      blocks_long password salt rounds blocks,
      block_long password salt (blocks + 1) (rounds - 1),
      length-append (blocks_of password salt rounds blocks) (block_of password salt (blocks + 1) (rounds - 1)),
    )

pub kek_long : (passphrase salt : List ℕ) (n : ℕ) → IsKeyLength n → length (kek passphrase salt n) ≡ n
kek_long passphrase salt n valid =
    length-take-le n _ (omega (arith, key_bounds n valid, blocks_long passphrase (drop 8 salt) 2048 2))

-- a key is as long as the one that wraps it, and wrapped 8 bytes longer
own_long : (s : Source) (index : ℕ) → IsKeyLength (length s.kek) → length (own s index) ≡ length s.kek
unfolding own
own_long s index valid =
    let full : length (hmac_sha256 s.kek (own_text s index)) ≡ 32 = length-sha256 _ in
    length-take-le (length s.kek) _ (omega (arith, full, key_bounds (length s.kek) valid))

aes_long : (key block : List ℕ) → length (aes key block) ≡ 16
unfolding aes
aes_long key block = refl

step_long : (key state : List ℕ) (i t : ℕ) → 0 < i → 8 * i + 8 ≤ length state → length (wrap_step key state i t) ≡ length state
step_long key state i t some inside =
    let b = aes key (take 8 state ++ take 8 (drop (8 * i) state)) in
    let whole : length b ≡ 16 = aes_long key (take 8 state ++ take 8 (drop (8 * i) state)) in
    let front : length (take 8 b) ≡ 8 = length-take-le 8 b (omega (arith, whole)) in
    let number : length (to_be_bytes w64 t) ≡ 8 = refl in
    let first = zip2 bit_xor (take 8 b) (to_be_bytes w64 t) in
    let second = take (8 * i - 8) (drop 8 state) in
    let third = drop 8 b in
    let last = drop (8 * i + 8) state in
    omega (
      arith,
      some,
      inside,
      whole,
      front,
      length-zip2 (take 8 b) (to_be_bytes w64 t) (omega (arith, front, number)),
      length-drop 8 state,
      length-take-le (8 * i - 8) (drop 8 state) (omega (arith, inside, some, length-drop 8 state)),
      length-drop 8 b,
      length-drop (8 * i + 8) state,
      length-append (first ++ second ++ third) last,
      length-append (first ++ second) third,
      length-append first second,
    )

inside_state : (n steps long : ℕ) → 0 < n → long ≡ 8 + 8 * n → 8 * (steps % n + 1) + 8 ≤ long
inside_state n steps long some is = omega (arith, is, mod_below steps n some)

after_long : (key state : List ℕ) (n steps : ℕ) → 0 < n → length state ≡ 8 + 8 * n → length (wrap_after key state n steps) ≡ length state
unfolding wrap_after
after_long key state n zero some long = refl
after_long key state n (suc steps) some long =
    let before = after_long key state n steps some long in
    step_long key (wrap_after key state n steps) (steps % n + 1) (steps + 1) (omega arith)
    (inside_state n steps (length (wrap_after key state n steps)) some (before ∙ long)) ∙ before

wrap_by : (key text : List ℕ) (n : ℕ) → 0 < n → length text / 8 ≡ n → length text ≡ 8 * n → length (wrap key text) ≡ 8 + length text
wrap_by key text n some blocks is =
    let state : length (initial_value ++ text) ≡ 8 + length text = length-append initial_value text in
    let all = after_long key (initial_value ++ text) n (6 * n) some (omega (arith, state, is)) in
    subst (λ (k : ℕ). length (wrap_after key (initial_value ++ text) k (6 * k)) ≡ 8 + length text) (sym blocks) (all ∙ state)

eighth : (n : ℕ) → (n ≡ 16) ⊎ ((n ≡ 24) ⊎ (n ≡ 32)) → (0 < n / 8) × (n ≡ 8 * (n / 8))
eighth n (inl e) = (omega (arith, e), omega (arith, e))
eighth n (inr (inl e)) = (omega (arith, e), omega (arith, e))
eighth n (inr (inr e)) = (omega (arith, e), omega (arith, e))

wrapped_long : (s : Source) (index : ℕ) → IsKeyLength (length s.kek) → length (wrap s.kek (own s index)) ≡ 8 + length s.kek
wrapped_long s index valid =
    let long = own_long s index valid in
    let parts = eighth (length s.kek) (key_lengths (length s.kek) valid) in
    wrap_by s.kek (own s index) (length (own s index) / 8) (omega (arith, long, parts.0)) refl (omega (arith, long, parts.1)) ∙ ap (λ (n : ℕ). 8 + n) long

named_long : (even : Bool) (n : ℕ) → wrapped_length (cond even Odd Even) n ≡ 8 + n
named_long true n = refl
named_long false n = refl

-- the message that brings a key can be read
pub own_is_message : (s : Source) (index : ℕ) → IsWholeSource s → IsMessage (own_message s index)
unfolding own_message
own_is_message s index whole =
    let m : KeyMessage = record { keys = name_of index; key_length = length s.kek; salt = s.salt; wrapped = wrap s.kek (own s index) } in (
      m,
      keys_read_back m
          (record { valid = whole.long; salt = whole.salt; wrapped = wrapped_long s index whole.long ∙ sym (named_long (index % 2 == 0) (length s.kek)) }),
    )

-- a message that reads has a valid length of keys, and a salt of 16 bytes
pub record IsWholeMessage (m : KeyMessage) : Type 0 where
  pub long : IsKeyLength m.key_length
  pub salt : length m.salt ≡ 16

many_bytes : (n : ℕ) (a b : ℕ) → n ≡ 32 + a → 16 ≤ n - 16
many_bytes n a b is = omega (arith, is)

pub message_whole : (contents : List ℕ) (m : KeyMessage) → message_in contents ≡ Ok m → IsWholeMessage m
message_whole contents m is =
    let s = (key_reading_is_spelling contents m).0 is in
    record {
      long = s.valid;
      salt = ap length s.salt
          ∙ length-take-le 16 (drop 16 contents)
          (omega (arith, length-drop 16 contents, many_bytes (length contents) (wrapped_length m.keys m.key_length) 0 s.length));
    }
