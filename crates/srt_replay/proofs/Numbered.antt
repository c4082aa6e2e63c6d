-- The events of numbered lines.
use Rattle.std.proofs.Common.{◌≡◌, ℕ, ◌<◌, ◌≤◌, ◌⊎◌, inl, inr, nat_le, Bool, true, false, cond, List, length, Option, None, refl, arith}
use Rattle.std.proofs.lemmas.Bool.Decides.{nat_tests}
use Rattle.srt_hub.specs.World.{Event}
use Rattle.srt_replay.specs.Events.{event_of}
use Rattle.srt_replay.specs.Replay.{event_at}

not_le : (a b : ℕ) → b < a → nat_le a b ≡ false
not_le a b h = grind (arith, nat_tests)

is_le : (a b : ℕ) → a ≤ b → nat_le a b ≡ true
is_le a b h = grind (arith, nat_tests)

too_long : (routes : ℕ) (line : List ℕ) → 4096 < length line → event_of routes line ≡ None
unfolding event_of
too_long routes line h = rw (not_le (length line) 4096 h) refl

either : (b : Bool) (o : Option Event) → o ≡ None → cond b o None ≡ None
either true o e = e
either false o e = refl

pub long_at : (routes n : ℕ) (line : List ℕ) → 4096 < length line → event_at routes n line ≡ None
unfolding event_at
long_at routes n line h = either (nat_le n 1_000_000) (event_of routes line) (too_long routes line h)

-- nor is one that comes too late
late_at : (routes n : ℕ) (line : List ℕ) → 1_000_000 < n → event_at routes n line ≡ None
unfolding event_at
late_at routes n line h = rw (not_le n 1_000_000 h) refl

-- a line beyond the limits of a tape isn't an event
pub beyond_at : (routes n : ℕ) (line : List ℕ) → (4096 < length line) ⊎ (1_000_000 < n) → event_at routes n line ≡ None
beyond_at routes n line (inl h) = long_at routes n line h
beyond_at routes n line (inr h) = late_at routes n line h

pub at_event : (routes n : ℕ) (line : List ℕ) → n ≤ 1_000_000 → event_at routes n line ≡ event_of routes line
unfolding event_at
at_event routes n line h = rw (is_le n 1_000_000 h) refl
