-- The value that a function writes through a reference.
use Rattle.std.specs.Prelude.{Bool, true, false, Option, None, Some}

-- the value x if the function returned true (it wrote x), else none
abbrev pub given : {A : Type 0} → Bool → A → Option A
given true x = Some x
given false x = None
