-- Reading all blocks is reading the first and then the others, for any sufficient bound on their number.
use Rattle.std.proofs.Common.{◌≡◌, ℕ, zero, suc, ◌<◌, ◌≤◌, List, [], ◌∷◌, length, drop, Result, Ok, Err, ltb, refl, sym, ap, ◌∙◌, length-drop, arith}
use Rattle.srt_hs.specs.declared.handshake.HsKind.{HsKind}
use Rattle.srt_hs.specs.declared.handshake.HsFault.{HsFault}
use Rattle.std.proofs.lemmas.Bool.{cond-true, cond-false, lt-ltb, le-ltb}
use Rattle.srt_types.specs.Words.{word_at}
use Rattle.srt_hs.specs.declared.handshake.HsFault.TheVariants.{Short}
use Rattle.srt_hs.specs.Grammar.{Blocks, half_at, kind_of, length_of, after_block}
use Rattle.srt_hs.specs.Reading.{with_first, and_then, with_all, extension_in, with_fields, handshake_in}

same_then : {A B : Type 0} (r : Result A HsFault) (f g : A → Result B HsFault) → ((x : A) → f x ≡ g x) → and_then r f ≡ and_then r g
same_then (Ok x) f g h = h x
same_then (Err e) f g h = refl

pub after_shorter : (b : ℕ) (bytes : List ℕ) → length (after_block (b ∷ bytes)) ≤ length bytes
after_shorter b bytes = omega (arith, length-drop (length_of (b ∷ bytes)) (drop 4 (b ∷ bytes)), length-drop 4 (b ∷ bytes))

-- all bounds of at least the number of bytes have the same result
enough : (m n : ℕ) (before : Blocks) (bytes : List ℕ) → length bytes ≤ m → length bytes ≤ n → with_all m before bytes ≡ with_all n before bytes
enough zero zero before [] h k = refl
enough zero (suc n) before [] h k = refl
enough (suc m) zero before [] h k = refl
enough (suc m) (suc n) before [] h k = refl
enough zero n before (b ∷ bytes) h k = absurd (omega arith)
enough (suc m) zero before (b ∷ bytes) h k = absurd (omega arith)
enough (suc m) (suc n) before (b ∷ bytes) h k =
    let shorter = after_shorter b bytes in
    same_then (with_first before (b ∷ bytes)) _ _ (λ next. enough m n next (after_block (b ∷ bytes)) (omega arith) (omega arith))

pub all_step : (before : Blocks) (bytes : List ℕ) → 0 < length bytes
    → with_all (length bytes) before bytes
    ≡ and_then (with_first before bytes) (λ next. with_all (length (after_block bytes)) next (after_block bytes))
all_step before [] h = absurd (omega arith)
all_step before (b ∷ bytes) h =
    let shorter = after_shorter b bytes in
    same_then (with_first before (b ∷ bytes)) _ _
    (λ next. enough (length bytes) (length (after_block (b ∷ bytes))) next (after_block (b ∷ bytes)) shorter (omega arith))

pub all_ok : (before next : Blocks) (bytes : List ℕ) → 0 < length bytes → with_first before bytes ≡ Ok next
    → with_all (length bytes) before bytes ≡ with_all (length (after_block bytes)) next (after_block bytes)
all_ok before next bytes h e = all_step before bytes h ∙ ap (λ r. and_then r (λ next. with_all (length (after_block bytes)) next (after_block bytes))) e

pub all_err : (before : Blocks) (fault : HsFault) (bytes : List ℕ)
    → 0 < length bytes → with_first before bytes ≡ Err fault → with_all (length bytes) before bytes ≡ Err fault
all_err before fault bytes h e = all_step before bytes h ∙ ap (λ r. and_then r (λ next. with_all (length (after_block bytes)) next (after_block bytes))) e

pub read_ok : (bytes : List ℕ) (blocks : Blocks) → 48 ≤ length bytes → Ok blocks ≡ extension_in (kind_of (word_at bytes 20)) (drop 48 bytes)
    → Ok (with_fields bytes blocks) ≡ handshake_in bytes
unfolding handshake_in
read_ok bytes blocks h e =
    ap (λ r. and_then r (λ b. Ok (with_fields bytes b))) e ∙ sym (cond-false (ltb (length bytes) 48) (Err Short) _ (le-ltb (length bytes) 48 h))

pub read_err : (bytes : List ℕ) (fault : HsFault)
    → 48 ≤ length bytes → Err fault ≡ extension_in (kind_of (word_at bytes 20)) (drop 48 bytes) → Err fault ≡ handshake_in bytes
unfolding handshake_in
read_err bytes fault h e =
    ap (λ r. and_then r (λ b. Ok (with_fields bytes b))) e ∙ sym (cond-false (ltb (length bytes) 48) (Err Short) _ (le-ltb (length bytes) 48 h))

pub read_short : (bytes : List ℕ) → length bytes < 48 → Err Short ≡ handshake_in bytes
unfolding handshake_in
read_short bytes h = sym (cond-true (ltb (length bytes) 48) (Err Short) _ (lt-ltb (length bytes) 48 h))

pub built : (bytes : List ℕ) (version encryption extension initial mtu window : ℕ) (kind : HsKind) (id cookie : ℕ) (blocks : Blocks)
    → version ≡ word_at bytes 0 → encryption ≡ half_at bytes 4 → extension ≡ half_at bytes 6 → initial ≡ word_at bytes 8
    → mtu ≡ word_at bytes 12 → window ≡ word_at bytes 16 → kind ≡ kind_of (word_at bytes 20) → id ≡ word_at bytes 24 → cookie ≡ word_at bytes 28
    → record {
      version = version;
      encryption = encryption;
      extension = extension;
      initial = initial;
      mtu = mtu;
      window = window;
      kind = kind;
      id = id;
      cookie = cookie;
      blocks = blocks;
    }
    ≡ with_fields bytes blocks
built bytes version encryption extension initial mtu window kind id cookie blocks a b c d e f g h i = cc
