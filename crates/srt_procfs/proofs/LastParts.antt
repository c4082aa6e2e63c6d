-- The last part of a text.
use Rattle.std.proofs.Common.{◌≡◌, ℕ, ◌==◌, Bool, true, false, cond, List, [], ◌∷◌, ap, ◌∙◌, refl}
use Rattle.srt_procfs.specs.Parts.{parts_of, joined}
use Rattle.srt_procfs.specs.Process.{last_part}

-- a text without the separator is its last part
pub only_part : (s : ℕ) (left part : List ℕ) → parts_of s left ≡ part ∷ [] → last_part (parts_of s left) ≡ part
only_part s left part e = ap last_part e

joined_some : (b : ℕ) (parts : List (List ℕ)) (part : List ℕ) → last_part (part ∷ joined b parts) ≡ last_part (joined b parts)
joined_some b [] part = refl
joined_some b (p ∷ parts) part = refl

either : (is : Bool) (b : ℕ) (parts : List (List ℕ)) (part : List ℕ)
    → last_part (part ∷ cond is ([] ∷ parts) (joined b parts)) ≡ last_part (cond is ([] ∷ parts) (joined b parts))
either true b parts part = refl
either false b parts part = joined_some b parts part

passed : (s : ℕ) (rest part : List ℕ) → last_part (part ∷ parts_of s rest) ≡ last_part (parts_of s rest)
passed s [] part = refl
passed s (b ∷ bytes) part = either (b == s) b (parts_of s bytes) part

-- the part before a separator isn't the last one
pub part_passed : (s : ℕ) (left part rest : List ℕ) → parts_of s left ≡ part ∷ parts_of s rest
    → last_part (parts_of s left) ≡ last_part (parts_of s rest)
part_passed s left part rest e = ap last_part e ∙ passed s rest part
