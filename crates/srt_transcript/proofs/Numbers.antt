-- Which lines are events.
use Rattle.std.proofs.Common.{◌≡◌, ℕ, ◌+◌, ◌<◌, ◌≤◌, nat_le, true, false, List, ◌∷◌, length, Option, None, Some, refl, ap, arith}
use Rattle.std.proofs.lemmas.Bool.Decides.{nat_tests}
use Rattle.std.specs.Prelude.{option_map, is_some}
use Rattle.srt_replay.specs.Events.{event_of}
use Rattle.srt_replay.specs.Replay.{event_at}
use Rattle.srt_replay.proofs.Numbered.{long_at, at_event}
use Rattle.srt_transcript.specs.Transcript.{is_event, no_event_from}

not_le : (a b : ℕ) → b < a → nat_le a b ≡ false
not_le a b h = grind (arith, nat_tests)

-- a line after the greatest number isn't an event
pub too_many : (number : ℕ) (line : List ℕ) → 1_000_000 < number → is_event number line ≡ false
unfolding event_at
too_many number line h = rw (not_le number 1_000_000 h) refl

-- nor is one that is too long
pub too_long : (number : ℕ) (line : List ℕ) → 4096 < length line → is_event number line ≡ false
too_long number line h = ap is_some (long_at 511 number line h)

-- a line that was read as an event, or wasn't
pub event_is : (number : ℕ) (line : List ℕ) → number ≤ 1_000_000 → is_event number line ≡ is_some (event_of 511 line)
event_is number line h = ap is_some (at_event 511 number line h)

pub mapped : {A B : Type 0} (f : A → B) (read : Option A) → is_some (option_map f read) ≡ is_some read
mapped f None = refl
mapped f (Some x) = refl

-- an event has a number within the limit
pub within : (number : ℕ) (line : List ℕ) → is_event number line ≡ true → number ≤ 1_000_000
unfolding event_at
within number line h = grind (arith, nat_tests, h)

-- the first line that isn't an event, after one that is, and if it is this one
pub fault_after : (number : ℕ) (line : List ℕ) (lines : List (List ℕ)) → is_event number line ≡ true
    → no_event_from number (line ∷ lines) ≡ no_event_from (number + 1) lines
fault_after number line lines h = rw h refl

pub fault_here : (number : ℕ) (line : List ℕ) (lines : List (List ℕ)) → is_event number line ≡ false
    → no_event_from number (line ∷ lines) ≡ Some number
fault_here number line lines h = rw h refl
