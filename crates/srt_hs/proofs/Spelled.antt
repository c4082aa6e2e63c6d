-- The function that reads handshakes agrees with the relation that defines their encoding.
use Rattle.std.proofs.Common.{◌≡◌, ℕ, zero, suc, ◌≤◌, ◌⊎◌, inl, inr, List, [], ◌∷◌, length, drop, ltb, Result, Ok, Err, IfOk, IfErr}
use Rattle.std.proofs.Common.{IsOkAnd, refl, sym, ap, subst, ◌∙◌, arith}
use Rattle.std.proofs.lemmas.Bool.{ltb-true, ltb-false}
use Rattle.srt_types.specs.Words.{word_at}
use Rattle.srt_hs.specs.declared.handshake.HsRef.{HsRef}
use Rattle.srt_hs.specs.declared.handshake.HsKind.{HsKind}
use Rattle.srt_hs.specs.declared.handshake.HsKind.TheVariants.{Induction, WaveHand, Conclusion, Agreement, Done, Refusal}
use Rattle.srt_hs.specs.declared.handshake.HsFault.{HsFault}
use Rattle.srt_hs.specs.declared.handshake.HsFault.TheVariants.{Short, TruncatedExtension, BadLength, Repeated}
use Rattle.srt_hs.specs.Grammar.{Handshake, Blocks, SpellsBlocks, SpellsExtension, Spells, HasBlockFault, HasBlocksFault, HasFault, kind_of}
use Rattle.srt_hs.specs.Grammar.{no_blocks, after_block, nothing, block, here, later}
use Rattle.srt_hs.specs.Reading.{and_then, with_first, with_all, blocks_in, extension_in, with_fields, handshake_in}
use Rattle.srt_hs.specs.Tie.{ReadingIsSpelling, FaultIsTheFirst}
use Rattle.srt_hs.specs.View.{handshake_of, seen}
use Rattle.srt_hs.proofs.Blocks.{chosen, first_adds, adds_first, first_fault, fault_first, fault_some, block_shorter}
use Rattle.srt_hs.proofs.Steps.{built, read_ok, read_err, read_short}

bind_ok : {A B : Type 0} (r : Result A HsFault) (f : A → Result B HsFault) (y : B) → and_then r f ≡ Ok y → (x : A) × (r ≡ Ok x) × (f x ≡ Ok y)
bind_ok (Ok x) f y e = (x, refl, e)
bind_ok (Err fault) f y e = cc

bind_err : {A B : Type 0} (r : Result A HsFault) (f : A → Result B HsFault) (fault : HsFault)
    → and_then r f ≡ Err fault → (r ≡ Err fault) ⊎ ((x : A) × (r ≡ Ok x) × (f x ≡ Err fault))
bind_err (Ok x) f fault e = inr (x, refl, e)
bind_err (Err other) f fault e = inl cc

all_spelled : (most : ℕ) (before : Blocks) (bytes : List ℕ) (after : Blocks) → with_all most before bytes ≡ Ok after → SpellsBlocks bytes before after
all_spelled zero before [] after e = (let same : before ≡ after = cc in subst (λ (b : Blocks). SpellsBlocks [] before b) same (nothing before))
all_spelled (suc most) before [] after e = (let same : before ≡ after = cc in subst (λ (b : Blocks). SpellsBlocks [] before b) same (nothing before))
all_spelled zero before (b ∷ bytes) after e = cc
all_spelled (suc most) before (b ∷ bytes) after e =
    let found = bind_ok (with_first before (b ∷ bytes)) (λ next. with_all most next (after_block (b ∷ bytes))) after e in
    let one = first_adds before (b ∷ bytes) found.0 found.1 in
    block (b ∷ bytes) before found.0 after one.0 one.1 (all_spelled most found.0 (after_block (b ∷ bytes)) after found.2)

spelled_all : (most : ℕ) (before : Blocks) (bytes : List ℕ) (after : Blocks)
    → length bytes ≤ most → SpellsBlocks bytes before after → with_all most before bytes ≡ Ok after
spelled_all zero before bytes after h (nothing same) = refl
spelled_all (suc most) before bytes after h (nothing same) = refl
spelled_all zero before bytes after h (block all first next last whole adds rest) = absurd (omega (arith, whole.header))
spelled_all (suc most) before [] after h (block all first next last whole adds rest) = absurd (omega (arith, whole.header))
spelled_all (suc most) before (b ∷ bytes) after h (block all first next last whole adds rest) =
    ap (λ r. and_then r (λ next. with_all most next (after_block (b ∷ bytes)))) (adds_first before (b ∷ bytes) next whole adds)
    ∙ spelled_all most next (after_block (b ∷ bytes)) after (omega (arith, block_shorter (b ∷ bytes) whole)) rest

all_fault : (most : ℕ) (before : Blocks) (bytes : List ℕ) (fault : HsFault)
    → length bytes ≤ most → with_all most before bytes ≡ Err fault → HasBlocksFault bytes before fault
all_fault zero before [] fault h e = cc
all_fault (suc most) before [] fault h e = cc
all_fault zero before (b ∷ bytes) fault h e = absurd (omega arith)
all_fault (suc most) before (b ∷ bytes) fault h e =
    elim (bind_err (with_first before (b ∷ bytes)) (λ next. with_all most next (after_block (b ∷ bytes))) fault e) [
      | inl f ↦ here (b ∷ bytes) before fault (first_fault before (b ∷ bytes) fault (omega arith) f)
      | inr found ↦
          let one = first_adds before (b ∷ bytes) found.0 found.1 in
          later (b ∷ bytes) before found.0 fault one.0 one.1
          (all_fault most found.0 (after_block (b ∷ bytes)) fault (omega (arith, block_shorter (b ∷ bytes) one.0)) found.2)
    ]

extension_spelled : (kind : HsKind) (bytes : List ℕ) (blocks : Blocks) → extension_in kind bytes ≡ Ok blocks → SpellsExtension kind bytes blocks
unfolding blocks_in
extension_spelled Conclusion bytes blocks e = all_spelled (length bytes) no_blocks bytes blocks e
extension_spelled Induction bytes blocks e = cc
extension_spelled WaveHand bytes blocks e = cc
extension_spelled Agreement bytes blocks e = cc
extension_spelled Done bytes blocks e = cc
extension_spelled (Refusal code) bytes blocks e = cc

spelled_extension : (kind : HsKind) (bytes : List ℕ) (blocks : Blocks) → SpellsExtension kind bytes blocks → extension_in kind bytes ≡ Ok blocks
unfolding blocks_in
spelled_extension Conclusion bytes blocks s = spelled_all (length bytes) no_blocks bytes blocks (omega arith) s
spelled_extension Induction bytes blocks s = cc
spelled_extension WaveHand bytes blocks s = cc
spelled_extension Agreement bytes blocks s = cc
spelled_extension Done bytes blocks s = cc
spelled_extension (Refusal code) bytes blocks s = cc

extension_fault : (kind : HsKind) (bytes : List ℕ) (fault : HsFault)
    → extension_in kind bytes ≡ Err fault → (kind ≡ Conclusion) × HasBlocksFault bytes no_blocks fault
unfolding blocks_in
extension_fault Conclusion bytes fault e = (refl, all_fault (length bytes) no_blocks bytes fault (omega arith) e)
extension_fault Induction bytes fault e = cc
extension_fault WaveHand bytes fault e = cc
extension_fault Agreement bytes fault e = cc
extension_fault Done bytes fault e = cc
extension_fault (Refusal code) bytes fault e = cc

fields_spelled : (bytes : List ℕ) (blocks : Blocks)
    → 48 ≤ length bytes → SpellsExtension (kind_of (word_at bytes 20)) (drop 48 bytes) blocks → Spells bytes (with_fields bytes blocks)
fields_spelled bytes blocks h s =
    record {
      whole = h;
      version = refl;
      encryption = refl;
      extension = refl;
      initial = refl;
      mtu = refl;
      window = refl;
      kind = refl;
      id = refl;
      cookie = refl;
      blocks = s;
    }

handshake_spelled : (bytes : List ℕ) (hs : Handshake) → handshake_in bytes ≡ Ok hs → Spells bytes hs
unfolding handshake_in
handshake_spelled bytes hs e =
    elim (chosen (ltb (length bytes) 48) _ _ _ e) [
      | inl w ↦ cc
      | inr w ↦
          let found = bind_ok (extension_in (kind_of (word_at bytes 20)) (drop 48 bytes)) (λ blocks. Ok (with_fields bytes blocks)) hs w.1 in
          let same : with_fields bytes found.0 ≡ hs = cc in
          subst (λ (h : Handshake). Spells bytes h) same (fields_spelled bytes found.0 (ltb-false (length bytes) 48 w.0) (extension_spelled _ _ _ found.1))
    ]

spelled_fields : (bytes : List ℕ) (hs : Handshake) → Spells bytes hs → with_fields bytes hs.blocks ≡ hs
spelled_fields bytes hs s =
    sym (built bytes hs.version hs.encryption hs.extension hs.initial hs.mtu hs.window hs.kind hs.id hs.cookie hs.blocks s.version
    s.encryption s.extension s.initial s.mtu s.window s.kind s.id s.cookie)

spelled_handshake : (bytes : List ℕ) (hs : Handshake) → Spells bytes hs → handshake_in bytes ≡ Ok hs
spelled_handshake bytes hs s =
    sym (read_ok bytes hs.blocks s.whole (sym (spelled_extension _ _ _ s.blocks))) ∙ ap (λ h. Ok h) (spelled_fields bytes hs s)

no_short : (bytes : List ℕ) (before : Blocks) (fault : HsFault) → HasBlocksFault bytes before fault → fault ≡ Short → ⊥
no_short bytes before fault (here all first wrong f) e =
    (let x : HasBlockFault bytes before Short = subst (λ (w : HsFault). HasBlockFault bytes before w) e f in x)
no_short bytes before fault (later all first next wrong whole adds rest) e = no_short _ _ _ rest e

not_short : (bytes : List ℕ) (fault : HsFault)
    → 48 ≤ length bytes → kind_of (word_at bytes 20) ≡ Conclusion → HasBlocksFault (drop 48 bytes) no_blocks fault → HasFault bytes fault
not_short bytes Short h k f = absurd (no_short (drop 48 bytes) no_blocks Short f refl)
not_short bytes TruncatedExtension h k f = (h, k, f)
not_short bytes BadLength h k f = (h, k, f)
not_short bytes Repeated h k f = (h, k, f)

handshake_fault : (bytes : List ℕ) (fault : HsFault) → handshake_in bytes ≡ Err fault → HasFault bytes fault
unfolding handshake_in
handshake_fault bytes fault e =
    elim (chosen (ltb (length bytes) 48) _ _ _ e) [
      | inl w ↦ (let same : Short ≡ fault = cc in subst (λ (f : HsFault). HasFault bytes f) same (ltb-true (length bytes) 48 w.0))
      | inr w ↦
          elim (bind_err (extension_in (kind_of (word_at bytes 20)) (drop 48 bytes)) (λ blocks. Ok (with_fields bytes blocks)) fault w.1) [
            | inl f ↦ (let x = extension_fault _ _ _ f in not_short bytes fault (ltb-false (length bytes) 48 w.0) x.0 x.1)
            | inr found ↦ cc
          ]
    ]

pub found_of : (r : Result HsRef HsFault) (bytes : List ℕ) → seen r ≡ handshake_in bytes → IfOk r (λ h. Spells bytes (handshake_of h))
found_of (Ok h) bytes e = handshake_spelled bytes (handshake_of h) (sym e)
found_of (Err fault) bytes e = tt

pub only_of : (r : Result HsRef HsFault) (bytes : List ℕ)
    → seen r ≡ handshake_in bytes → (hs : Handshake) → Spells bytes hs → IsOkAnd r (λ h. handshake_of h ≡ hs)
only_of (Ok h) bytes e hs s = (let k = spelled_handshake bytes hs s in cc)
only_of (Err fault) bytes e hs s = (let k = spelled_handshake bytes hs s in cc)

pub fault_of : (r : Result HsRef HsFault) (bytes : List ℕ) → seen r ≡ handshake_in bytes → IfErr r (λ fault. HasFault bytes fault)
fault_of (Ok h) bytes e = tt
fault_of (Err fault) bytes e = handshake_fault bytes fault (sym e)

fault_all : (most : ℕ) (before : Blocks) (bytes : List ℕ) (fault : HsFault)
    → length bytes ≤ most → HasBlocksFault bytes before fault → with_all most before bytes ≡ Err fault
fault_all zero before bytes fault h (here all first wrong f) = absurd (omega (arith, fault_some before bytes fault f))
fault_all (suc most) before [] fault h (here all first wrong f) = absurd (omega (arith, fault_some before [] fault f))
fault_all (suc most) before (b ∷ bytes) fault h (here all first wrong f) =
    ap (λ r. and_then r (λ next. with_all most next (after_block (b ∷ bytes)))) (fault_first before (b ∷ bytes) fault f)
fault_all zero before bytes fault h (later all first next wrong whole adds rest) = absurd (omega (arith, whole.header))
fault_all (suc most) before [] fault h (later all first next wrong whole adds rest) = absurd (omega (arith, whole.header))
fault_all (suc most) before (b ∷ bytes) fault h (later all first next wrong whole adds rest) =
    ap (λ r. and_then r (λ next. with_all most next (after_block (b ∷ bytes)))) (adds_first before (b ∷ bytes) next whole adds)
    ∙ fault_all most next (after_block (b ∷ bytes)) fault (omega (arith, block_shorter (b ∷ bytes) whole)) rest

fault_extension : (kind : HsKind) (bytes : List ℕ) (fault : HsFault)
    → kind ≡ Conclusion → HasBlocksFault bytes no_blocks fault → extension_in kind bytes ≡ Err fault
unfolding blocks_in
fault_extension kind bytes fault k f =
    ap (λ k. extension_in k bytes) k ∙ fault_all (length bytes) no_blocks bytes fault (omega arith) f

fault_handshake : (bytes : List ℕ) (fault : HsFault) → HasFault bytes fault → handshake_in bytes ≡ Err fault
fault_handshake bytes Short f = sym (read_short bytes f)
fault_handshake bytes TruncatedExtension f = sym (read_err bytes TruncatedExtension f.0 (sym (fault_extension _ _ _ f.1 f.2)))
fault_handshake bytes BadLength f = sym (read_err bytes BadLength f.0 (sym (fault_extension _ _ _ f.1 f.2)))
fault_handshake bytes Repeated f = sym (read_err bytes Repeated f.0 (sym (fault_extension _ _ _ f.1 f.2)))

pub reading_is_spelling : ReadingIsSpelling
reading_is_spelling bytes hs = (handshake_spelled bytes hs, spelled_handshake bytes hs)

pub fault_is_the_first : FaultIsTheFirst
fault_is_the_first bytes fault = (handshake_fault bytes fault, fault_handshake bytes fault)
