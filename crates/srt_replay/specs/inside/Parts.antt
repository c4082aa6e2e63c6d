-- A text split into one field, and into two.
use Rattle.std.specs.Prelude.{◌≡◌, ℕ, List, [], ◌∷◌, Option, None, Some}
use denote.Ref.{Bor}
use Rattle.srt_replay.specs.declared.events.Two.{Two}

-- the text's only field, or None if there are more
abbrev pub OneOf : Option (Bor (List ℕ)) → List (List ℕ) → Type 0
OneOf (Some field) fields = fields ≡ field.now ∷ []
OneOf None fields = (a : List ℕ) → fields ≡ a ∷ [] → ⊥

-- the text's two fields, or None if there aren't two
abbrev pub TwoOf : Option Two → List (List ℕ) → Type 0
TwoOf (Some two) fields = fields ≡ two.first.now ∷ two.second.now ∷ []
TwoOf None fields = (a b : List ℕ) → fields ≡ a ∷ b ∷ [] → ⊥
