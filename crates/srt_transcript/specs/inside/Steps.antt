-- The explanation of one line.
use Rattle.std.specs.Prelude.{ℕ, ◌≡◌, ◌⊎◌, ◌+◌, ◌<◌, ◌≤◌, Bool, true, false, List, ◌∷◌, take, length, Option, Some, Result, Ok, Err}
use Rattle.srt_replay.specs.Tape.{lines_of, max_line, max_lines}
use Rattle.srt_replay.specs.Known.{NoLf, Wrote, TookLine, NoLine}
use Rattle.srt_replay.specs.Counted.{WasUnread}
use Rattle.srt_replay.specs.declared.reader.Brought.{Brought}
use Rattle.srt_replay.specs.declared.reader.Brought.TheVariants.{End as AtEnd}
use Rattle.srt_transcript.specs.declared.transcribing.TranscriptFault.{TranscriptFault}
use Rattle.srt_transcript.specs.declared.transcribing.TranscriptFault.TheVariants.{NoEvent, Output, Read, Write}
use Rattle.srt_transcript.specs.declared.transcribing.Explained.{Explained}
use Rattle.srt_transcript.specs.declared.transcribing.Explained.TheVariants.{Event, Other, End}
use Rattle.srt_transcript.specs.Transcript.{is_event, line_text, answer_text}

-- a writer got words in this text, or a prefix of it
abbrev pub WroteWords : (text : List ℕ → List ℕ) → (held holds : Option (List ℕ)) → Type 0
WroteWords text held holds = (words : List ℕ) × NoLf words × Wrote held holds (text words)

abbrev pub WrotePart : (text : List ℕ → List ℕ) → (held holds : Option (List ℕ)) → Type 0
WrotePart text held holds = (words : List ℕ) × (n : ℕ) × NoLf words × Wrote held holds (take n (text words))

-- the result of writing words
abbrev pub WordsWritten : (text : List ℕ → List ℕ) → (held holds : Option (List ℕ)) → Result (Unit {0}) TranscriptFault → Type 0
WordsWritten text held holds (Ok u) = WroteWords text held holds
WordsWritten text held holds (Err (NoEvent line)) = ⊥
WordsWritten text held holds (Err Output) = ⊥
WordsWritten text held holds (Err Read) = ⊥
WordsWritten text held holds (Err Write) = WrotePart text held holds

-- the kind of a line that was explained
abbrev pub IsKind : Bool → Explained → Type 0
IsKind is_event Event = is_event ≡ true
IsKind is_event Other = is_event ≡ false
IsKind is_event End = ⊥

-- the result of explaining a line of a tape
abbrev pub LineWritten : (number : ℕ) → (line : List ℕ) → (held holds : Option (List ℕ)) → Result Explained TranscriptFault → Type 0
LineWritten number line held holds (Ok explained) = IsKind (is_event number line) explained × WroteWords (line_text number) held holds
LineWritten number line held holds (Err (NoEvent n)) = ⊥
LineWritten number line held holds (Err Output) = ⊥
LineWritten number line held holds (Err Read) = ⊥
LineWritten number line held holds (Err Write) = WrotePart (line_text number) held holds

-- if the bytes are known, their first line, with this number, isn't an event
abbrev pub NoEventAt : (old : Option (List ℕ)) → (number : ℕ) → Type 0
NoEventAt old number =
    (xs : List ℕ)
    → old ≡ Some xs → (line : List ℕ) × (lines : List (List ℕ)) × (lines_of xs ≡ line ∷ lines) × (is_event number line ≡ false)

-- if the bytes are known, their first line is too long or has too large a number
abbrev pub TooMuchAt : (old : Option (List ℕ)) → (number : ℕ) → Type 0
TooMuchAt old number =
    (xs : List ℕ)
    → old ≡ Some xs → (line : List ℕ) × (lines : List (List ℕ)) × (lines_of xs ≡ line ∷ lines)
    × ((max_line < length line) ⊎ (max_lines + 1 < number))

-- a line was taken, which is an event
pub record TookEvent (old new : Option (List ℕ)) (number : ℕ) : Type 0 where
  pub line : List ℕ
  pub took : TookLine old new line
  pub event_is : is_event number line ≡ true

-- a line was taken
pub record TookAnswer (old new : Option (List ℕ)) : Type 0 where
  pub line : List ℕ
  pub took : TookLine old new line

-- the result of explaining a tape's next line
abbrev pub LineExplained : (number : ℕ) → (old new held holds : Option (List ℕ)) → Result Explained TranscriptFault → Type 0
LineExplained number old new held holds (Ok Event) = TookEvent old new number × WroteWords (line_text number) held holds
LineExplained number old new held holds (Ok Other) = NoEventAt old number × WroteWords (line_text number) held holds
LineExplained number old new held holds (Ok End) = NoLine old × (holds ≡ held)
LineExplained number old new held holds (Err (NoEvent n)) = ⊥
LineExplained number old new held holds (Err Output) = ⊥
LineExplained number old new held holds (Err Read) = holds ≡ held
LineExplained number old new held holds (Err Write) = WrotePart (line_text number) held holds

-- the result of explaining an output's next line: true if the output has ended
abbrev pub AnswerExplained : (number : ℕ) → (old new held holds : Option (List ℕ)) → Result Bool TranscriptFault → Type 0
AnswerExplained number old new held holds (Ok false) = TookAnswer old new × WroteWords answer_text held holds
AnswerExplained number old new held holds (Ok true) = NoLine old × (holds ≡ held)
AnswerExplained number old new held holds (Err (NoEvent n)) = ⊥
AnswerExplained number old new held holds (Err Output) = TooMuchAt old number × (holds ≡ held)
AnswerExplained number old new held holds (Err Read) = holds ≡ held
AnswerExplained number old new held holds (Err Write) = WrotePart answer_text held holds

-- the reads of a tape's line
abbrev pub LineRead : (number left : ℕ) → Brought → Result Explained TranscriptFault → Type 0
LineRead number left brought (Ok Event) = number ≤ max_lines
LineRead number left brought (Ok Other) = Unit {0}
LineRead number left brought (Ok End) = brought ≡ AtEnd
LineRead number left brought (Err (NoEvent n)) = ⊥
LineRead number left brought (Err Output) = ⊥
LineRead number left brought (Err Read) = WasUnread left brought
LineRead number left brought (Err Write) = Unit {0}

-- and of an output's
abbrev pub AnswerRead : (number left : ℕ) → Brought → Result Bool TranscriptFault → Type 0
AnswerRead number left brought (Ok false) = number ≤ max_lines + 1
AnswerRead number left brought (Ok true) = brought ≡ AtEnd
AnswerRead number left brought (Err (NoEvent n)) = ⊥
AnswerRead number left brought (Err Output) = Unit {0}
AnswerRead number left brought (Err Read) = WasUnread left brought
AnswerRead number left brought (Err Write) = Unit {0}
