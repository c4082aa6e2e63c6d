-- A call, as it is noted for contracts alone.
use Rattle.std.specs.Prelude.{ℕ, List, [], ◌∷◌, ◌++◌}

-- numbers that say which call it is and what it answered, the bytes of a path or an address, and further bytes
abbrev pub Note : Type 0
Note = List ℕ × List ℕ × List ℕ

-- these notes, the newest first, in the order of the calls
abbrev pub oldest_first : List Note → List Note
oldest_first [] = []
oldest_first (note ∷ notes) = oldest_first notes ++ note ∷ []
