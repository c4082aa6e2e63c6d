-- Readers and writers whose bytes are known: what was read from the readers, and written to the writers.
use Rattle.std.specs.Prelude.{◌≡◌, ◌≢◌, ℕ, ◌+◌, List, [], ◌∷◌, ◌++◌, length, take, All, Option, Some, ◌<◌, ◌≤◌, ◌⊎◌}
use Rattle.srt_replay.specs.Tape.{lines_of, max_line, max_lines}
use Rattle.srt_replay.specs.declared.reader.Taken.{Taken}
use Rattle.srt_replay.specs.declared.reader.Taken.TheVariants as taken
use Rattle.srt_replay.specs.declared.reader.TapeLine.{TapeLine}
use Rattle.srt_replay.specs.declared.reader.TapeLine.TheVariants as tape
use Rattle.srt_replay.specs.declared.reader.Piece.{Piece}
use Rattle.srt_replay.specs.declared.reader.Piece.TheVariants.{Part, Line, Long, End}

-- if the reader's bytes are known, they were these followed by the remaining ones
abbrev pub Took : (old new : Option (List ℕ)) → List ℕ → Type 0
Took old new bs = (xs : List ℕ) → old ≡ Some xs → (ys : List ℕ) × (new ≡ Some ys) × (xs ≡ bs ++ ys)

-- if the bytes are known, they begin with these
abbrev pub BeginsWith : Option (List ℕ) → List ℕ → Type 0
BeginsWith old bs = (xs : List ℕ) → old ≡ Some xs → (ys : List ℕ) × (xs ≡ bs ++ ys)

-- if the bytes are known, none remains
abbrev pub AtEnd : Option (List ℕ) → Type 0
AtEnd old = (xs : List ℕ) → old ≡ Some xs → xs ≡ []

-- if the reader's bytes are known, this line was the first, and the others remain
abbrev pub TookLine : (old new : Option (List ℕ)) → List ℕ → Type 0
TookLine old new line = (xs : List ℕ) → old ≡ Some xs → (ys : List ℕ) × (new ≡ Some ys) × (lines_of xs ≡ line ∷ lines_of ys)

-- if the bytes are known, they contain no line
abbrev pub NoLine : Option (List ℕ) → Type 0
NoLine old = (xs : List ℕ) → old ≡ Some xs → lines_of xs ≡ []

-- if the bytes are known, their first line is too long
abbrev pub LongLine : Option (List ℕ) → Type 0
LongLine old = (xs : List ℕ) → old ≡ Some xs → (line : List ℕ) × (lines : List (List ℕ)) × (lines_of xs ≡ line ∷ lines) × (max_line < length line)

-- if the bytes are known, they have a first line, which is too long, or has too great a number
abbrev pub LineBeyond : Option (List ℕ) → (number : ℕ) → Type 0
LineBeyond old number =
    (xs : List ℕ)
    → old ≡ Some xs → (line : List ℕ) × (lines : List (List ℕ)) × (lines_of xs ≡ line ∷ lines) × ((max_line < length line) ⊎ (max_lines < number))

-- if the writer's bytes are known, these were appended to them
abbrev pub Wrote : (old new : Option (List ℕ)) → List ℕ → Type 0
Wrote old new bs = (ws : List ℕ) → old ≡ Some ws → new ≡ Some (ws ++ bs)

abbrev pub NoLf : List ℕ → Type 0
NoLf bs = All (λ b. b ≢ 10) bs

-- the result of one read: the buffer has the earlier bytes of the line followed by those read now
abbrev pub TookPiece : (old new : Option (List ℕ)) (before buffer : List ℕ) → Piece → Type 0
TookPiece old new before buffer (Part n) = (bs : List ℕ) × Took old new bs × (take n buffer ≡ before ++ bs) × NoLf bs × (n ≤ max_line)
TookPiece old new before buffer (Line n) = (bs : List ℕ) × Took old new (bs ++ 10 ∷ []) × (take n buffer ≡ before ++ bs) × NoLf bs × (n ≤ max_line)
TookPiece old new before buffer Long = (bs : List ℕ) × BeginsWith old bs × NoLf bs × (max_line < length before + length bs)
TookPiece old new before buffer End = AtEnd old × Took old new [] × (take (length before) buffer ≡ before)

-- the result of reading one line: it is at the front of the buffer, or there is none
abbrev pub TookOne : (old new : Option (List ℕ)) (buffer : List ℕ) → Taken → Type 0
TookOne old new buffer (taken.Line n) = TookLine old new (take n buffer) × (n ≤ max_line)
TookOne old new buffer taken.Long = LongLine old
TookOne old new buffer taken.End = NoLine old

-- the result of reading the line of a tape with this number: the same, and the line is within the limits of a tape, or isn't
abbrev pub TookTapeLine : (old new : Option (List ℕ)) (buffer : List ℕ) (number : ℕ) → TapeLine → Type 0
TookTapeLine old new buffer number (tape.Line n) = TookLine old new (take n buffer) × (n ≤ max_line) × (number ≤ max_lines)
TookTapeLine old new buffer number tape.Beyond = LineBeyond old number
TookTapeLine old new buffer number tape.End = NoLine old
