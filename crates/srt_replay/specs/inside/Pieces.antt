-- A text split at its first spaces.
use Rattle.std.specs.Prelude.{◌≡◌, ℕ, List, [], ◌∷◌, Option, None, Some}
use denote.Ref.{Bor}
use Rattle.srt_replay.specs.declared.events.Four.{Four}
use Rattle.srt_replay.specs.Tape.{fields_of}

-- the fields after a space; none if there was no space
abbrev pub fields_behind : Option (Bor (List ℕ)) → List (List ℕ)
fields_behind None = []
fields_behind (Some text) = fields_of text.now

-- four fields as a list
abbrev pub fields_in : Four → List (List ℕ)
fields_in four = four.first.now ∷ four.second.now ∷ four.third.now ∷ four.fourth.now ∷ []

-- the text's four fields, or None if there aren't four
abbrev pub FourOf : Option Four → List (List ℕ) → Type 0
FourOf (Some four) fields = fields ≡ fields_in four
FourOf None fields = (a b c d : List ℕ) → fields ≡ a ∷ b ∷ c ∷ d ∷ [] → ⊥
