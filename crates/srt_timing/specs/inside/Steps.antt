-- The number of Full ACKs sent after the one with a given number.
use Rattle.std.specs.Prelude.{◌≡◌, ℕ, ◌+◌, ◌-◌, ◌<◌, Option, None, Some}
use Rattle.srt_types.specs.Counts.{ack_number}

-- after count Full ACKs: the place, counted back from the newest (place 0), of the only one of the last 64 that can
-- have this number; none if none of them has it
abbrev pub IsStepsBack : (number count : ℕ) → Option ℕ → Type 0
IsStepsBack number count (Some steps) =
    (steps < count → ack_number (count - (steps + 1)) ≡ number)
    × ((place : ℕ) → place < 64 → place < count → ack_number (count - (place + 1)) ≡ number → place ≡ steps)
IsStepsBack number count None = (place : ℕ) → place < 64 → place < count → ack_number (count - (place + 1)) ≡ number → ⊥
