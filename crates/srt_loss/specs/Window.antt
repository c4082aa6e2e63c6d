-- The intersection of a range with a window of numbers (section 3.2.5).
use Rattle.std.specs.Prelude.{◌≡◌, ℕ, ◌+◌, ◌<◌, Bool, false, Option, None, Some, nat_le, ◌&&◌}
use Rattle.srt_types.specs.Runs.{Range, is_in}

-- whether an offset is in a part, both ends included
abbrev pub is_in_part : Option (ℕ × ℕ) → ℕ → Bool
is_in_part None place = false
is_in_part (Some part) place = nat_le part.0 place && nat_le place part.1

-- a number front + place of the window, place < width, is in the range exactly if its offset place is in the part
abbrev pub IsPartOf : (r : Range) (front width : ℕ) → Option (ℕ × ℕ) → Type 0
IsPartOf r front width part = (place : ℕ) → place < width → is_in r (front + place) ≡ is_in_part part place
