-- The encoding of loss lists, as a relation by cases, and the faults (appendix A, packet sequence list coding).
use Rattle.std.specs.Prelude.{◌≡◌, ◌≢◌, ℕ, ◌+◌, ◌-◌, ◌%◌, ◌^◌, ◌<◌, ◌≤◌, ◌↔◌, Ok, Err, List, [], ◌∷◌, length}
use Rattle.srt_types.specs.Window.{offset_of}
use Rattle.srt_types.specs.Runs.{Range, span}
use Rattle.srt_loss.specs.declared.reading.LossFault.{LossFault}
use Rattle.srt_loss.specs.declared.reading.LossFault.TheVariants.{Ragged, Dangling, Backward}
use Rattle.srt_types.specs.Words.{words_in}
use Rattle.srt_loss.specs.Reading.{losses_in}

-- the words begin with this range, and rest follows
pub data Begins (words : List ℕ) (r : Range) (rest : List ℕ) : Type 0 where
  -- one word, with top bit 0
  Single : words ≡ r.first ∷ rest → r.first < 2 ^ 31 → r.last ≡ r.first → Begins words r rest
  -- two words, the first with top bit 1 and the last with top bit 0
  FirstAndLast : words ≡ (r.first + 2 ^ 31) ∷ r.last ∷ rest → r.last < 2 ^ 31 → span r < 2 ^ 30 → Begins words r rest

-- the words begin with these ranges, and rest follows
abbrev pub SpellsUpTo : List ℕ → List Range → List ℕ → Type 0
SpellsUpTo words [] rest = words ≡ rest
SpellsUpTo words (r ∷ rs) rest = (next : List ℕ) × Begins words r next × SpellsUpTo next rs rest

-- the bytes encode these ranges
pub record Spells (bytes : List ℕ) (ranges : List Range) : Type 0 where
  pub whole : length bytes % 4 ≡ 0
  pub words : SpellsUpTo (words_in bytes) ranges []

-- the words begin with the first word of a range that no last word follows
abbrev pub IsDangling : List ℕ → Type 0
IsDangling [] = ⊥
IsDangling (first ∷ []) = 2 ^ 31 ≤ first
IsDangling (first ∷ last ∷ words) = (2 ^ 31 ≤ first) × (2 ^ 31 ≤ last)

-- the words begin with a first and a last word whose numbers are 2^30 or more apart
abbrev pub IsBackward : List ℕ → Type 0
IsBackward [] = ⊥
IsBackward (first ∷ []) = ⊥
IsBackward (first ∷ last ∷ words) = (2 ^ 31 ≤ first) × (last < 2 ^ 31) × (2 ^ 30 ≤ offset_of last (first - 2 ^ 31))

-- after some well-formed ranges, the remaining words have this property
abbrev pub GoesOn : List ℕ → (List ℕ → Type 0) → Type 0
GoesOn bytes IsWrong = (length bytes % 4 ≡ 0) × (ranges : List Range) × (rest : List ℕ) × SpellsUpTo (words_in bytes) ranges rest × IsWrong rest

-- this is the fault of the bytes, the first from the left
abbrev pub HasFault : List ℕ → LossFault → Type 0
HasFault bytes Ragged = length bytes % 4 ≢ 0
HasFault bytes Dangling = GoesOn bytes IsDangling
HasFault bytes Backward = GoesOn bytes IsBackward

-- the function returns the ranges exactly if the bytes encode them
abbrev pub SpelledIsRead : Type 0
SpelledIsRead = (bytes : List ℕ) (ranges : List Range) → Spells bytes ranges ↔ (losses_in bytes ≡ Ok ranges)

-- the function returns a fault exactly if it is the fault of the bytes
abbrev pub FaultIsRead : Type 0
FaultIsRead = (bytes : List ℕ) (fault : LossFault) → HasFault bytes fault ↔ (losses_in bytes ≡ Err fault)
