use Rattle.std.proofs.Common.{◌≡◌, ℕ, ◌<◌, ◌≤◌, List, length, get_or}
use Rattle.srt_route.specs.declared.seat.Seat.{Seat}
use Rattle.srt_route.proofs.stage.generations_of.Given as goal

-- the generations of the seats below `at`, and 0 from there on
pub record AreRead (seats : List Seat) (at : ℕ) (generations : List ℕ) : Type 0 where
  pub size : length generations ≡ 17
  pub counts : (slot : ℕ) (d : Seat) → slot < at → get_or generations slot 0 ≡ (get_or seats slot d).generation
  pub none : (slot : ℕ) → at ≤ slot → get_or generations slot 0 ≡ 0

abbrev pub invariant-loop-at : goal.invariant-loop-at
invariant-loop-at l = AreRead l.seats l.at l.generations
