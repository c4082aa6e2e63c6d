-- The queries of a gate.
use Rattle.std.specs.Prelude.{ℕ, zero, suc, Bool, true, List, ◌∷◌}

-- a query of a gate: the route whose step was to be made, and whether the gate permitted it
pub record Answer : Type 0 where
  pub route : ℕ
  pub passed : Bool

abbrev pub answer : (route : ℕ) → (passed : Bool) → Answer
answer r p = record { route = r; passed = p }

-- n answers that permit a step of this route, before the earlier answers
abbrev pub passes : (route n : ℕ) → List Answer → List Answer
passes r zero earlier = earlier
passes r (suc n) earlier = answer r true ∷ passes r n earlier
