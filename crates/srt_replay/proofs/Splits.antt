-- A text split at its first space.
use Rattle.std.proofs.Common.{◌≡◌, ℕ, Bool, true, false, cond, eqb, List, [], ◌∷◌, None, Some, Option, option_map, refl, ap}
use Rattle.srt_config.specs.Address.{parted, with_front}
use Rattle.srt_replay.specs.Tape.{fields_of, onto}

-- the fields of a text with this split at its first space
abbrev pub fields_by : List ℕ → Option (List ℕ × List ℕ) → List (List ℕ)
fields_by text None = text ∷ []
fields_by text (Some parts) = parts.0 ∷ fields_of parts.1

pub fields_parted : (text : List ℕ) → fields_of text ≡ fields_by text (parted 32 text)
fields_parted [] = refl
fields_parted (b ∷ bs) = by (eqb b 32) (parted 32 bs) (fields_parted bs)
  where
    by : (is : Bool) (o : Option (List ℕ × List ℕ)) → fields_of bs ≡ fields_by bs o
        → cond is ([] ∷ fields_of bs) (onto b (fields_of bs)) ≡ fields_by (b ∷ bs) (cond is (Some ([], bs)) (option_map (with_front b) o))
    by true o h = refl
    by false None h = ap (onto b) h
    by false (Some parts) h = ap (onto b) h

onto_some : (b : ℕ) (pieces : List (List ℕ)) → onto b pieces ≡ [] → ⊥
onto_some b [] e = cc
onto_some b (piece ∷ pieces) e = cc

field_or : (d : Bool) (b : ℕ) (xs ys : List (List ℕ)) → cond d ([] ∷ xs) (onto b ys) ≡ [] → ⊥
field_or true b xs ys e = cc
field_or false b xs ys e = onto_some b ys e

-- a text has a field
pub has_field : (text : List ℕ) → fields_of text ≡ [] → ⊥
has_field [] e = cc
has_field (b ∷ bs) e = field_or (eqb b 32) b (fields_of bs) (fields_of bs) e

-- a text with a field after its first four doesn't have four
pub not_four : (fields : List (List ℕ)) (text p q r s a b c d : List ℕ) → fields ≡ p ∷ q ∷ r ∷ s ∷ fields_of text → fields ≡ a ∷ b ∷ c ∷ d ∷ [] → ⊥
not_four fields text p q r s a b c d h e =
    let same : fields_of text ≡ [] = cc in
    has_field text same

-- a text with a field after its first one doesn't have one
pub not_one : (fields : List (List ℕ)) (text p a : List ℕ) → fields ≡ p ∷ fields_of text → fields ≡ a ∷ [] → ⊥
not_one fields text p a h e =
    let same : fields_of text ≡ [] = cc in
    has_field text same

pub not_two : (fields : List (List ℕ)) (text p q a b : List ℕ) → fields ≡ p ∷ q ∷ fields_of text → fields ≡ a ∷ b ∷ [] → ⊥
not_two fields text p q a b h e =
    let same : fields_of text ≡ [] = cc in
    has_field text same
