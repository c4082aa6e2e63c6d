-- The word of a slot.
use Rattle.std.specs.Prelude.{ℕ, Option, None, Some}

-- 0 (free) if the slot holds a value, 1 if the value was taken out
abbrev pub word_of : {X : Type 0} → Option X → ℕ
word_of None = 1
word_of (Some x) = 0
