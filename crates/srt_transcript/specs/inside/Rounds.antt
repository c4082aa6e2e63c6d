-- A transcript between two lines.
use Rattle.std.specs.Prelude.{ℕ, ◌≡◌, ◌⊎◌, ◌+◌, ◌≤◌, Bool, true, false, List, drop, length, All, Option, None, Some, Result, Ok, Err}
use Rattle.srt_replay.specs.Tape.{lines_of, max_lines}
use Rattle.srt_replay.specs.Known.{NoLf, Wrote}
use Rattle.srt_replay.specs.Counted.{WasUnread}
use Rattle.srt_replay.specs.declared.reader.Brought.{Brought}
use Rattle.srt_replay.specs.declared.reader.Brought.TheVariants.{End as AtEnd}
use Rattle.srt_transcript.specs.declared.transcribing.TranscriptFault.{TranscriptFault}
use Rattle.srt_transcript.specs.declared.transcribing.TranscriptFault.TheVariants.{NoEvent, Output, Read, Write}
use Rattle.srt_transcript.specs.declared.transcribing.Explained.{Explained}
use Rattle.srt_transcript.specs.declared.transcribing.Explained.TheVariants.{Event, Other, End}
use Rattle.srt_transcript.specs.declared.transcribing.Ended.{Ended}
use Rattle.srt_transcript.specs.Transcript.{no_event_in, no_event_from, transcript_from, WroteLines, WrotePrefix, IsNoOutput, HasTranscribed}

-- an output of which this number of lines was explained, when this number was due; `left` is what its reader has left,
-- which matters only if it hasn't ended
abbrev pub AnswersTaken : (output : List ℕ) → (left : Option (List ℕ)) → (due count : ℕ) → (has_ended : Bool) → Type 0
AnswersTaken output left due count false =
    (rest : List ℕ) × (left ≡ Some rest) × (count ≡ due) × (drop count (lines_of output) ≡ lines_of rest)
    × (length (lines_of output) ≡ count + length (lines_of rest))
AnswersTaken output left due count true = (count ≤ due) × (length (lines_of output) ≡ count)

-- the same of a tape, whose lines so far are all events
abbrev pub EventsTaken : (tape : List ℕ) → (left : Option (List ℕ)) → (due : ℕ) → (has_ended : Bool) → (count : ℕ) → Type 0
EventsTaken tape left due false count =
    (rest : List ℕ) × (left ≡ Some rest) × (count ≡ due) × (length (lines_of tape) ≡ count + length (lines_of rest))
    × (no_event_in tape ≡ no_event_from (count + 1) (lines_of rest))
EventsTaken tape left due true count = (count ≤ due) × (length (lines_of tape) ≡ count) × (no_event_in tape ≡ None)

-- a tape of which the last line explained is the first that isn't an event
abbrev pub HasStopped : (tape : List ℕ) → (number count : ℕ) → Type 0
HasStopped tape number count = (count ≡ number) × (no_event_in tape ≡ Some number)

-- a tape after the line of this number
abbrev pub TapeAfter : (tape : List ℕ) → (left : Option (List ℕ)) → (number : ℕ) → Explained → (count : ℕ) → Type 0
TapeAfter tape left number Event = EventsTaken tape left number false
TapeAfter tape left number Other = HasStopped tape number
TapeAfter tape left number End = EventsTaken tape left number true

-- what was written when so many lines of the tape, and so many of the output, were due
pub record Written (output : List ℕ) (held output_left writer : Option (List ℕ)) (lines answers : ℕ) (has_ended : Bool) (Tape : ℕ → Type 0) : Type 0 where
  pub words : List (List ℕ)
  pub replies : List (List ℕ)
  pub line_words : All NoLf words
  pub answer_words : All NoLf replies
  pub wrote : Wrote held writer (transcript_from 1 words replies)
  pub within : length words ≤ lines
  pub read : Tape (length words)
  pub answered : AnswersTaken output output_left answers (length replies) has_ended

-- the result of a tape's turn
abbrev pub LineTurned : (tape output : List ℕ) → (held tape_left output_left holds : Option (List ℕ)) → (before number : ℕ) → (output_ended : Bool)
    → Result Explained TranscriptFault
    → Type 0
LineTurned tape output held tape_left output_left holds before number output_ended (Ok explained) =
    Written output held output_left holds number before output_ended (TapeAfter tape tape_left number explained)
LineTurned tape output held tape_left output_left holds before number output_ended (Err (NoEvent n)) = ⊥
LineTurned tape output held tape_left output_left holds before number output_ended (Err Output) = ⊥
LineTurned tape output held tape_left output_left holds before number output_ended (Err Read) = WroteLines held holds
LineTurned tape output held tape_left output_left holds before number output_ended (Err Write) = WrotePrefix held holds

-- and of an output's
abbrev pub AnswerTurned : (output : List ℕ) → (held output_left holds : Option (List ℕ)) → (number : ℕ) → (Tape : ℕ → Type 0)
    → Result Bool TranscriptFault
    → Type 0
AnswerTurned output held output_left holds number Tape (Ok has_ended) = Written output held output_left holds number number has_ended Tape
AnswerTurned output held output_left holds number Tape (Err (NoEvent n)) = ⊥
AnswerTurned output held output_left holds number Tape (Err Output) = WroteLines held holds × IsNoOutput output
AnswerTurned output held output_left holds number Tape (Err Read) = WroteLines held holds
AnswerTurned output held output_left holds number Tape (Err Write) = WrotePrefix held holds

-- what was written before the lines of the next number
abbrev pub IsWritten : (tape output : List ℕ) → (held tape_left output_left holds : Option (List ℕ)) → (before : ℕ) → Ended → Type 0
IsWritten tape output held tape_left output_left holds before ended =
    Written output held output_left holds before before ended.output (EventsTaken tape tape_left before ended.tape)

-- the result of a round
abbrev pub RoundMade : (tape output : List ℕ) → (held tape_left output_left holds : Option (List ℕ)) → (number : ℕ)
    → Result Ended TranscriptFault
    → Type 0
RoundMade tape output held tape_left output_left holds number (Ok ended) = IsWritten tape output held tape_left output_left holds number ended
RoundMade tape output held tape_left output_left holds number (Err fault) = HasTranscribed tape output held holds (Err fault)

-- a reader that has ended showed its end
abbrev pub HaveEnded : Ended → (tape output : Brought) → Type 0
HaveEnded ended tape output = (ended.tape ≡ true → tape ≡ AtEnd) × (ended.output ≡ true → output ≡ AtEnd)

abbrev pub AreBoth : Ended → Bool → Type 0
AreBoth ended true = (ended.tape ≡ true) × (ended.output ≡ true)
AreBoth ended false = (ended.tape ≡ true) → (ended.output ≡ true) → ⊥

-- the reads of a round
abbrev pub RoundRead : (number tape_left : ℕ) → (tape : Brought) → (output_left : ℕ) → (output : Brought) → Result Ended TranscriptFault → Type 0
RoundRead number tape_left tape output_left output (Ok ended) =
    HaveEnded ended tape output × (((ended.tape ≡ true) → (ended.output ≡ true) → ⊥) → number ≤ max_lines + 1)
RoundRead number tape_left tape output_left output (Err (NoEvent line)) = Unit {0}
RoundRead number tape_left tape output_left output (Err Output) = Unit {0}
RoundRead number tape_left tape output_left output (Err Read) = WasUnread tape_left tape ⊎ WasUnread output_left output
RoundRead number tape_left tape output_left output (Err Write) = Unit {0}
