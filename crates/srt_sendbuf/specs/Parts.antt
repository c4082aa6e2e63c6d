-- The parts of a window of places that a loss list covers. A part is a pair of a first and a last place.
use Rattle.std.specs.Prelude.{◌≡◌, ℕ, ◌+◌, ◌%◌, ◌^◌, ◌<◌, ◌≤◌, Bool, ◌||◌, Option, None, Some, List, [], ◌∷◌, ◌++◌, All}
use Rattle.std.specs.List.{list_any}
use Rattle.srt_types.specs.Runs.{Range, is_requested, ranges_from}
use Rattle.srt_loss.specs.Window.{is_in_part}

-- whether a place is in any of the parts, whose ends are inclusive
abbrev pub is_in_parts : List (ℕ × ℕ) → ℕ → Bool
is_in_parts parts place = list_any (λ part. is_in_part (Some part) place) parts

-- the parts with another one appended, if there is one
abbrev pub with_part : List (ℕ × ℕ) → Option (ℕ × ℕ) → List (ℕ × ℕ)
with_part parts None = parts
with_part parts (Some part) = parts ++ part ∷ []

-- all parts have only places below `width`
abbrev pub AreWithin : (width : ℕ) → List (ℕ × ℕ) → Type 0
AreWithin width parts = All (λ part. (part.0 ≤ part.1) × (part.1 < width)) parts

-- `left` is what remains of a loss list after ranges were read from it. The window begins at the number with this
-- word: `list` contains the number of a place exactly if the place is in `named` or `left` contains the number
abbrev pub IsTaken : (word width : ℕ) → (list left : List Range) → (named : ℕ → Bool) → Type 0
IsTaken word width list left named =
    (initial from place : ℕ) → (initial + from) % 2 ^ 31 ≡ word → place < width
    → is_requested (ranges_from initial list) (from + place) ≡ (named place || is_requested (ranges_from initial left) (from + place))
