-- Numbers that look random, by a linear congruential generator.
use Rattle.std.specs.Prelude.{ℕ, ◌+◌, ◌*◌, ◌%◌, ◌/◌, ◌^◌, ◌==◌, if◌then◌else◌}
use Rattle.srt_samples.specs.declared.dice.Dice.{Dice}

-- the state of a generator
abbrev pub state_of : Dice → ℕ
state_of d = d.state

-- the state after this one
abbrev pub next_state : ℕ → ℕ
next_state state = (state * 6364136223846793005 + 1442695040888963407) % 2 ^ 64

-- the number below a count that a state gives, by its upper 31 bits; 0 if the count is 0
abbrev pub number_below : (count state : ℕ) → ℕ
number_below count state = if count == 0 then 0 else (state / 2 ^ 33) % count
