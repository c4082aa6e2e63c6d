-- Timestamps of packets and the unbounded times that they denote (section 3). All are microseconds.
use Rattle.std.specs.Prelude.{◌≡◌, ℕ, ◌+◌, ◌-◌, ◌%◌, ◌^◌, ℤ, pos, ◌+ℤ◌, ◌*ℤ◌, ◌≤ℤ◌, ◌<ℤ◌, ◌-ℤ◌}
use Rattle.std.specs.Int.{int_rem_euclid}

-- n equals word modulo 2^32, and lies in around - 2^31 .. around + 2^31, the upper end excluded
pub record IsLift (word : ℕ) (around n : ℤ) : Type 0 where
  pub above : around ≤ℤ (n +ℤ pos (2 ^ 31))
  pub below : n <ℤ (around +ℤ pos (2 ^ 31))
  pub same : (turns : ℤ) × (n ≡ pos word +ℤ (turns *ℤ pos (2 ^ 32)))

-- the time that a timestamp denotes near another time: the n of IsLift
unfoldable pub lift : (word : ℕ) (around : ℤ) → ℤ
lift word around = let low = around -ℤ pos (2 ^ 31) in low +ℤ int_rem_euclid (pos word -ℤ low) (pos (2 ^ 32))

-- a timestamp relative to another one, first
abbrev pub stamped_from : (first word : ℕ) → ℕ
stamped_from first word = (word + (2 ^ 32 - first % 2 ^ 32)) % 2 ^ 32

-- exactly one time satisfies IsLift, and it is the value of lift
abbrev pub LiftIsTheTime : Type 0
LiftIsTheTime = (word : ℕ) (around : ℤ) → IsLift word around (lift word around) × ((n : ℤ) → IsLift word around n → n ≡ lift word around)

-- shift invariance: near a time that is c later, a timestamp denotes the time that the timestamp less c denotes, plus c
abbrev pub LiftMoves : Type 0
LiftMoves = (word less : ℕ) (c around : ℤ) → pos less ≡ int_rem_euclid (pos word -ℤ c) (pos (2 ^ 32)) → lift word (around +ℤ c) ≡ lift less around +ℤ c

-- the time of a timestamp is the first timestamp plus the time of the timestamp relative to it
abbrev pub TimesFromFirst : Type 0
TimesFromFirst = (first word : ℕ) (around : ℤ) → lift word (pos first +ℤ around) ≡ pos first +ℤ lift (stamped_from first word) around
