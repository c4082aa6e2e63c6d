-- Reading one block returns the blocks with it, or its fault.
use Rattle.std.proofs.Common.{◌≡◌, ◌≢◌, ℕ, ◌+◌, ◌<◌, ◌≤◌, ◌⊎◌, inl, inr, List, length, drop, Bool, true, false, cond, eqb, ltb, ◌||◌}
use Rattle.std.proofs.Common.{Option, None, Some, is_some, IsSome, Result, Ok, Err, refl, sym, ap, subst, ◌∙◌, length-drop, arith}
use Rattle.std.proofs.lemmas.Bool.{false_from_ne_true, eqb-true, eqb-false, ltb-true, ltb-false, eq-eqb, ne_eqb, lt-ltb, le-ltb, cond-true, cond-false}
use Rattle.std.proofs.lemmas.Bool.Decides.{nat_tests}
use Rattle.srt_hs.specs.declared.handshake.HsFault.{HsFault}
use Rattle.srt_hs.specs.declared.handshake.HsFault.TheVariants.{Short, TruncatedExtension, BadLength, Repeated}
use Rattle.srt_types.specs.Words.{words_in}
use Rattle.srt_types.proofs.Options.{none_if_not_some}
use Rattle.srt_hs.specs.Grammar.{Blocks, HasBlock, Adds, IsSkipped, HasBadLength, IsRepeated, HasBlockFault, hsreq_in, stream_id_in}
use Rattle.srt_hs.specs.Grammar.{type_of, length_of, contents_of, after_block, hsreq, kmreq, stream_id, congestion, filter, group, skipped}
use Rattle.srt_hs.specs.Grammar.{hsreq_length, stream_id_length, congestion_length, second_hsreq, second_stream_id, second_congestion}
use Rattle.srt_hs.specs.Reading.{with_hsreq, with_stream_id, with_congestion, with_block, with_first}

pub chosen : {A : Type 0} (b : Bool) (x y z : A) → cond b x y ≡ z → ((b ≡ true) × (x ≡ z)) ⊎ ((b ≡ false) × (y ≡ z))
chosen true x y z e = inl (refl, e)
chosen false x y z e = inr (refl, e)

is_there : {A : Type 0} (o : Option A) → is_some o ≡ true → IsSome o
is_there None e = cc
is_there (Some x) e = refl

none_is_not : {A : Type 0} (o : Option A) → o ≡ None → is_some o ≡ false
none_is_not o e = ap is_some e

-- reading a block that requires a valid length and may occur only once
abbrev checked : (bad there : Bool) → Blocks → Result Blocks HsFault
checked bad there next = cond bad (Err BadLength) (cond there (Err Repeated) (Ok next))

checked_ok : (bad there : Bool) (next after : Blocks) → checked bad there next ≡ Ok after → (bad ≡ false) × (there ≡ false) × (next ≡ after)
checked_ok true there next after e = cc
checked_ok false true next after e = cc
checked_ok false false next after e = (refl, refl, cc)

checked_err : (bad there : Bool) (next : Blocks) (fault : HsFault)
    → checked bad there next ≡ Err fault → ((bad ≡ true) × (BadLength ≡ fault)) ⊎ ((bad ≡ false) × (there ≡ true) × (Repeated ≡ fault))
checked_err true there next fault e = inl (refl, cc)
checked_err false true next fault e = inr (refl, refl, cc)
checked_err false false next fault e = cc

-- the known block types, by number
data IsType : ℕ → Type 0 where
  one : IsType 1
  three : IsType 3
  five : IsType 5
  six : IsType 6
  seven : IsType 7
  eight : IsType 8
  other : (n : ℕ) → IsSkipped n → IsType n

same_or_not : (m n : ℕ) → (m ≡ n) ⊎ (m ≢ n)
same_or_not m n = grind arith

type_is : (n : ℕ) → IsType n
type_is n =
    elim (same_or_not n 1) [
      | inl e ↦ subst IsType (sym e) one
      | inr not1 ↦
          elim (same_or_not n 3) [
            | inl e ↦ subst IsType (sym e) three
            | inr not3 ↦
                elim (same_or_not n 5) [
                  | inl e ↦ subst IsType (sym e) five
                  | inr not5 ↦
                      elim (same_or_not n 6) [
                        | inl e ↦ subst IsType (sym e) six
                        | inr not6 ↦
                            elim (same_or_not n 7) [
                              | inl e ↦ subst IsType (sym e) seven
                              | inr not7 ↦
                                  elim (same_or_not n 8) [
                                    | inl e ↦ subst IsType (sym e) eight
                                    | inr not8 ↦
                                        other n
                                        (record {
                                          not_hsreq = not1;
                                          not_kmreq = not3;
                                          not_stream_id = not5;
                                          not_congestion = not6;
                                          not_filter = not7;
                                          not_group = not8;
                                        })
                                  ]
                            ]
                      ]
                ]
          ]
    ]

skips : (before : Blocks) (contents : List ℕ) (n : ℕ) → IsSkipped n → with_block before n contents ≡ Ok before
unfolding with_block
skips before contents n s = grind (arith, nat_tests)

hsreq_adds : (before : Blocks) (contents : List ℕ) (next : Blocks) → with_hsreq before contents ≡ Ok next → Adds before contents 1 next
hsreq_adds before contents next e =
    elim (chosen (eqb (length contents) 12) _ _ _ e) [
      | inr w ↦ cc
      | inl w ↦ elim (chosen (is_some before.hsreq) _ _ _ w.1) [
        | inl v ↦ cc
        | inr v ↦
            let same : record before { hsreq = Some (hsreq_in contents) } ≡ next = cc in
            subst (λ (b : Blocks). Adds before contents 1 b) same (hsreq (eqb-true (length contents) 12 w.0) (none_if_not_some before.hsreq v.0))
      ]
    ]

stream_id_adds : (before : Blocks) (contents : List ℕ) (next : Blocks) → with_stream_id before contents ≡ Ok next → Adds before contents 5 next
stream_id_adds before contents next e =
    let w = checked_ok (ltb 512 (length contents)) (is_some before.stream_id) (record before { stream_id = Some (stream_id_in contents) }) next e in
    subst (λ (b : Blocks). Adds before contents 5 b) w.2 (stream_id (ltb-false 512 (length contents) w.0) (none_if_not_some before.stream_id w.1))

within : (n : ℕ) → (eqb n 0 || ltb 16 n) ≡ false → (0 < n) × (n ≤ 16)
within n e = grind (arith, nat_tests)

inside : (n : ℕ) → 0 < n → n ≤ 16 → (eqb n 0 || ltb 16 n) ≡ false
inside n some few = grind (arith, nat_tests)

far : (n : ℕ) → (n ≡ 0) ⊎ (16 < n) → (eqb n 0 || ltb 16 n) ≡ true
far n h = grind (arith, nat_tests)

outside : (n : ℕ) → (eqb n 0 || ltb 16 n) ≡ true → (n ≡ 0) ⊎ (16 < n)
outside n e = grind (arith, nat_tests)

congestion_adds : (before : Blocks) (contents : List ℕ) (next : Blocks) → with_congestion before contents ≡ Ok next → Adds before contents 6 next
congestion_adds before contents next e =
    let w = checked_ok (eqb (length contents) 0 || ltb 16 (length contents)) (is_some before.congestion)
    (record before { congestion = Some (words_in contents) }) next e in
    let fits = within (length contents) w.0 in
    subst (λ (b : Blocks). Adds before contents 6 b) w.2 (congestion fits.0 fits.1 (none_if_not_some before.congestion w.1))

block_adds : (before : Blocks) (contents : List ℕ) (next : Blocks) (n : ℕ) → IsType n → with_block before n contents ≡ Ok next → Adds before contents n next
unfolding with_block
block_adds before contents next n one e = hsreq_adds before contents next e
block_adds before contents next n three e =
    (let same : record before { has_kmreq = true } ≡ next = cc in subst (λ (b : Blocks). Adds before contents 3 b) same kmreq)
block_adds before contents next n five e = stream_id_adds before contents next e
block_adds before contents next n six e = congestion_adds before contents next e
block_adds before contents next n seven e =
    (let same : record before { has_filter = true } ≡ next = cc in subst (λ (b : Blocks). Adds before contents 7 b) same filter)
block_adds before contents next n eight e =
    (let same : record before { has_group = true } ≡ next = cc in subst (λ (b : Blocks). Adds before contents 8 b) same group)
block_adds before contents next n (other m s) e =
    (let k = skips before contents m s in
    let same : before ≡ next = cc in
    subst (λ (b : Blocks). Adds before contents m b) same (skipped m s))

adds_block : (before : Blocks) (contents : List ℕ) (next : Blocks) (n : ℕ) → Adds before contents n next → with_block before n contents ≡ Ok next
unfolding with_block
adds_block before contents next n (hsreq len new) =
    cond-true (eqb (length contents) 12) _ _ (eq-eqb (length contents) 12 len) ∙ cond-false (is_some before.hsreq) _ _ (none_is_not before.hsreq new)
adds_block before contents next n kmreq = refl
adds_block before contents next n (stream_id len new) =
    cond-false (ltb 512 (length contents)) _ _ (le-ltb 512 (length contents) len) ∙ cond-false (is_some before.stream_id) _ _ (none_is_not before.stream_id new)
adds_block before contents next n (congestion some len new) =
    cond-false (eqb (length contents) 0 || ltb 16 (length contents)) _ _ (inside (length contents) some len)
    ∙ cond-false (is_some before.congestion) _ _ (none_is_not before.congestion new)
adds_block before contents next n filter = refl
adds_block before contents next n group = refl
adds_block before contents next n (skipped m s) = skips before contents m s

pub block_shorter : (bytes : List ℕ) → HasBlock bytes → length (after_block bytes) < length bytes
block_shorter bytes h = omega (arith, h.header, length-drop (length_of bytes) (drop 4 bytes), length-drop 4 bytes)

pub first_adds : (before : Blocks) (bytes : List ℕ) (next : Blocks)
    → with_first before bytes ≡ Ok next → HasBlock bytes × Adds before (contents_of bytes) (type_of bytes) next
unfolding with_first
first_adds before bytes next e =
    elim (chosen (ltb (length bytes) 4) _ _ _ e) [
      | inl w ↦ cc
      | inr w ↦ elim (chosen (ltb (length bytes) (4 + length_of bytes)) _ _ _ w.1) [
        | inl v ↦ cc
        | inr v ↦ (
          record { header = ltb-false (length bytes) 4 w.0; contents = ltb-false (length bytes) (4 + length_of bytes) v.0 },
          block_adds before (contents_of bytes) next (type_of bytes) (type_is (type_of bytes)) v.1,
        )
      ]
    ]

pub adds_first : (before : Blocks) (bytes : List ℕ) (next : Blocks)
    → HasBlock bytes → Adds before (contents_of bytes) (type_of bytes) next → with_first before bytes ≡ Ok next
unfolding with_first
adds_first before bytes next whole adds =
    cond-false (ltb (length bytes) 4) _ _ (le-ltb (length bytes) 4 whole.header)
    ∙ cond-false (ltb (length bytes) (4 + length_of bytes)) _ _ (le-ltb (length bytes) (4 + length_of bytes) whole.contents)
    ∙ adds_block before (contents_of bytes) next (type_of bytes) adds

-- the fault in the contents of a complete block
data IsWrong (before : Blocks) (contents : List ℕ) (n : ℕ) : HsFault → Type 0 where
  long : HasBadLength contents n → IsWrong before contents n BadLength
  second : (HasBadLength contents n → ⊥) → IsRepeated before n → IsWrong before contents n Repeated

hsreq_fits : (contents : List ℕ) → length contents ≡ 12 → (n : ℕ) → HasBadLength contents n → n ≡ 1 → ⊥
hsreq_fits contents len n (hsreq_length bad) e = bad len
hsreq_fits contents len n (stream_id_length bad) e = omega arith
hsreq_fits contents len n (congestion_length bad) e = omega arith

stream_id_fits : (contents : List ℕ) → length contents ≤ 512 → (n : ℕ) → HasBadLength contents n → n ≡ 5 → ⊥
stream_id_fits contents len n (hsreq_length bad) e = omega arith
stream_id_fits contents len n (stream_id_length bad) e = omega arith
stream_id_fits contents len n (congestion_length bad) e = omega arith

congestion_fits : (contents : List ℕ) → 0 < length contents → length contents ≤ 16 → (n : ℕ) → HasBadLength contents n → n ≡ 6 → ⊥
congestion_fits contents some len n (hsreq_length bad) e = omega arith
congestion_fits contents some len n (stream_id_length bad) e = omega arith
congestion_fits contents some len n (congestion_length bad) e = omega arith

hsreq_fault : (before : Blocks) (contents : List ℕ) (fault : HsFault) → with_hsreq before contents ≡ Err fault → IsWrong before contents 1 fault
hsreq_fault before contents fault e =
    elim (chosen (eqb (length contents) 12) _ _ _ e) [
      | inr w ↦ (let same : BadLength ≡ fault = cc in
          subst (λ (f : HsFault). IsWrong before contents 1 f) same (long (hsreq_length (eqb-false (length contents) 12 w.0))))
      | inl w ↦ elim (chosen (is_some before.hsreq) _ _ _ w.1) [
        | inl v ↦ (let same : Repeated ≡ fault = cc in
            subst (λ (f : HsFault). IsWrong before contents 1 f) same
            (second (λ bad. hsreq_fits contents (eqb-true (length contents) 12 w.0) 1 bad refl) (second_hsreq (is_there before.hsreq v.0))))
        | inr v ↦ cc
      ]
    ]

stream_id_fault : (before : Blocks) (contents : List ℕ) (fault : HsFault) → with_stream_id before contents ≡ Err fault → IsWrong before contents 5 fault
stream_id_fault before contents fault e =
    elim (checked_err (ltb 512 (length contents)) (is_some before.stream_id) (record before { stream_id = Some (stream_id_in contents) }) fault e) [
      | inl w ↦ subst (λ (f : HsFault). IsWrong before contents 5 f) w.1 (long (stream_id_length (ltb-true 512 (length contents) w.0)))
      | inr w ↦ subst (λ (f : HsFault). IsWrong before contents 5 f) w.2
          (second (λ bad. stream_id_fits contents (ltb-false 512 (length contents) w.0) 5 bad refl)
          (second_stream_id (is_there before.stream_id w.1)))
    ]

congestion_fault : (before : Blocks) (contents : List ℕ) (fault : HsFault) → with_congestion before contents ≡ Err fault → IsWrong before contents 6 fault
congestion_fault before contents fault e =
    elim (checked_err (eqb (length contents) 0 || ltb 16 (length contents)) (is_some before.congestion)
    (record before { congestion = Some (words_in contents) }) fault e) [
      | inl w ↦ subst (λ (f : HsFault). IsWrong before contents 6 f) w.1 (long (congestion_length (outside (length contents) w.0)))
      | inr w ↦
          let fits = within (length contents) w.0 in
          subst (λ (f : HsFault). IsWrong before contents 6 f) w.2
          (second (λ bad. congestion_fits contents fits.0 fits.1 6 bad refl) (second_congestion (is_there before.congestion w.1)))
    ]

block_fault : (before : Blocks) (contents : List ℕ) (fault : HsFault) (n : ℕ)
    → IsType n → with_block before n contents ≡ Err fault → IsWrong before contents n fault
unfolding with_block
block_fault before contents fault n one e = hsreq_fault before contents fault e
block_fault before contents fault n three e = cc
block_fault before contents fault n five e = stream_id_fault before contents fault e
block_fault before contents fault n six e = congestion_fault before contents fault e
block_fault before contents fault n seven e = cc
block_fault before contents fault n eight e = cc
block_fault before contents fault n (other m s) e = (let k = skips before contents m s in cc)

wrong_block : (bytes : List ℕ) (before : Blocks) (fault : HsFault)
    → HasBlock bytes → IsWrong before (contents_of bytes) (type_of bytes) fault → HasBlockFault bytes before fault
wrong_block bytes before fault whole (long bad) = (whole, bad)
wrong_block bytes before fault whole (second fits there) = (whole, fits, there)

pub first_fault : (before : Blocks) (bytes : List ℕ) (fault : HsFault)
    → 0 < length bytes → with_first before bytes ≡ Err fault → HasBlockFault bytes before fault
unfolding with_first
first_fault before bytes fault h e =
    elim (chosen (ltb (length bytes) 4) _ _ _ e) [
      | inl w ↦ (let same : TruncatedExtension ≡ fault = cc in
          subst (λ (f : HsFault). HasBlockFault bytes before f) same (h, inl (ltb-true (length bytes) 4 w.0)))
      | inr w ↦ elim (chosen (ltb (length bytes) (4 + length_of bytes)) _ _ _ w.1) [
        | inl v ↦ (let same : TruncatedExtension ≡ fault = cc in
            subst (λ (f : HsFault). HasBlockFault bytes before f) same (h, inr (ltb-true (length bytes) (4 + length_of bytes) v.0)))
        | inr v ↦
            wrong_block bytes before fault
            (record { header = ltb-false (length bytes) 4 w.0; contents = ltb-false (length bytes) (4 + length_of bytes) v.0 })
            (block_fault before (contents_of bytes) fault (type_of bytes) (type_is (type_of bytes)) v.1)
      ]
    ]

some_is : {A : Type 0} (o : Option A) → IsSome o → is_some o ≡ true
some_is None h = h
some_is (Some x) h = refl

bad_block : (before : Blocks) (contents : List ℕ) (n : ℕ) → HasBadLength contents n → with_block before n contents ≡ Err BadLength
unfolding with_block
bad_block before contents n (hsreq_length bad) = cond-false (eqb (length contents) 12) _ _ (ne_eqb (length contents) 12 bad)
bad_block before contents n (stream_id_length bad) = cond-true (ltb 512 (length contents)) _ _ (lt-ltb 512 (length contents) bad)
bad_block before contents n (congestion_length bad) = cond-true (eqb (length contents) 0 || ltb 16 (length contents)) _ _ (far (length contents) bad)

second_block : (before : Blocks) (contents : List ℕ) (n : ℕ) → IsRepeated before n → (HasBadLength contents n → ⊥) → with_block before n contents ≡ Err Repeated
unfolding with_block
second_block before contents n (second_hsreq there) fits =
    elim (same_or_not (length contents) 12) [
      | inl e ↦ cond-true (eqb (length contents) 12) _ _ (eq-eqb (length contents) 12 e) ∙ cond-true (is_some before.hsreq) _ _ (some_is before.hsreq there)
      | inr e ↦ absurd (fits (hsreq_length e))
    ]
second_block before contents n (second_stream_id there) fits =
    cond-false (ltb 512 (length contents)) _ _
    (false_from_ne_true (ltb 512 (length contents)) (λ e. fits (stream_id_length (ltb-true 512 (length contents) e))))
    ∙ cond-true (is_some before.stream_id) _ _ (some_is before.stream_id there)
second_block before contents n (second_congestion there) fits =
    cond-false (eqb (length contents) 0 || ltb 16 (length contents)) _ _
    (false_from_ne_true (eqb (length contents) 0 || ltb 16 (length contents)) (λ e. fits (congestion_length (outside (length contents) e))))
    ∙ cond-true (is_some before.congestion) _ _ (some_is before.congestion there)

cut_off : (a b : Bool) (r : Result Blocks HsFault)
    → (a ≡ true) ⊎ (b ≡ true) → cond a (Err TruncatedExtension) (cond b (Err TruncatedExtension) r) ≡ Err TruncatedExtension
cut_off true b r h = refl
cut_off false true r h = refl
cut_off false false r (inl e) = cc
cut_off false false r (inr e) = cc

whole_first : (before : Blocks) (bytes : List ℕ) (r : Result Blocks HsFault)
    → HasBlock bytes → with_block before (type_of bytes) (contents_of bytes) ≡ r → with_first before bytes ≡ r
unfolding with_first
whole_first before bytes r whole e =
    cond-false (ltb (length bytes) 4) _ _ (le-ltb (length bytes) 4 whole.header)
    ∙ cond-false (ltb (length bytes) (4 + length_of bytes)) _ _ (le-ltb (length bytes) (4 + length_of bytes) whole.contents) ∙ e

cut_first : (before : Blocks) (bytes : List ℕ) → (length bytes < 4) ⊎ (length bytes < 4 + length_of bytes) → with_first before bytes ≡ Err TruncatedExtension
unfolding with_first
cut_first before bytes (inl h) = cut_off (ltb (length bytes) 4) (ltb (length bytes) (4 + length_of bytes)) _ (inl (lt-ltb (length bytes) 4 h))
cut_first before bytes (inr h) =
    cut_off (ltb (length bytes) 4) (ltb (length bytes) (4 + length_of bytes)) _ (inr (lt-ltb (length bytes) (4 + length_of bytes) h))

pub fault_first : (before : Blocks) (bytes : List ℕ) (fault : HsFault) → HasBlockFault bytes before fault → with_first before bytes ≡ Err fault
fault_first before bytes Short f = absurd f
fault_first before bytes TruncatedExtension f = cut_first before bytes f.1
fault_first before bytes BadLength f = whole_first before bytes _ f.0 (bad_block before (contents_of bytes) (type_of bytes) f.1)
fault_first before bytes Repeated f = whole_first before bytes _ f.0 (second_block before (contents_of bytes) (type_of bytes) f.2 f.1)

pub fault_some : (before : Blocks) (bytes : List ℕ) (fault : HsFault) → HasBlockFault bytes before fault → 0 < length bytes
fault_some before bytes Short f = absurd f
fault_some before bytes TruncatedExtension f = f.0
fault_some before bytes BadLength f = omega (arith, f.0.header)
fault_some before bytes Repeated f = omega (arith, f.0.header)
