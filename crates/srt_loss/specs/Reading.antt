-- Decoding of loss lists, as a function of their bytes (appendix A, packet sequence list coding).
use Rattle.std.specs.Prelude.{ℕ, ◌-◌, ◌%◌, ◌^◌, Option, None, Some, Result, Ok, Err, List, [], ◌∷◌, length, nat_lt, ◌==◌, if◌then◌else◌}
use Rattle.srt_types.specs.Words.{words_in}
use Rattle.srt_types.specs.Runs.{Range, span}
use Rattle.srt_loss.specs.declared.reading.LossFault.{LossFault}
use Rattle.srt_loss.specs.declared.reading.LossFault.TheVariants.{Ragged, Dangling, Backward}

-- prepends a range to the ranges that were read after it; their fault is returned unchanged
abbrev pub then_those : Range → Result (List Range) LossFault → Result (List Range) LossFault
then_those r (Ok rs) = Ok (r ∷ rs)
then_those r (Err fault) = Err fault

-- a single number as a range of one
abbrev pub alone : ℕ → Range
alone n = record { first = n; last = n }

-- the same for a range of two words; if its last number is 2^30 or more after the first, the fault Backward (our
-- choice)
abbrev pub ended : Range → Result (List Range) LossFault → Result (List Range) LossFault
ended r those = if nat_lt (span r) (2 ^ 30) then then_those r those else Err Backward

-- the ranges that words encode, or the first fault from the left. A word with top bit 1 begins a range, and the next
-- word, with top bit 0, ends it; begun is the first number of a range whose last word wasn't read yet
abbrev pub ranges_in : (begun : Option ℕ) → List ℕ → Result (List Range) LossFault
ranges_in None [] = Ok []
ranges_in None (word ∷ words) =
    if nat_lt word (2 ^ 31) then then_those (alone word) (ranges_in None words) else ranges_in (Some (word - 2 ^ 31)) words
ranges_in (Some first) [] = Err Dangling
ranges_in (Some first) (word ∷ words) =
    if nat_lt word (2 ^ 31) then ended (record { first = first; last = word }) (ranges_in None words) else Err Dangling

-- the ranges that bytes encode, or the first fault
abbrev pub losses_in : List ℕ → Result (List Range) LossFault
losses_in bytes = if length bytes % 4 == 0 then ranges_in None (words_in bytes) else Err Ragged
