-- The transcript of a tape and of the output of its replay (our choice).
use Rattle.std.specs.Prelude.{ℕ, ◌≡◌, ◌⊎◌, ◌+◌, ◌-◌, ◌<◌, ◌≤◌, Bool, true, List, [], ◌∷◌, ◌++◌, take, drop, length, All, codes, decimal, if◌then◌else◌}
use Rattle.std.specs.Prelude.{Option, None, Some, is_some, Result, Ok, Err}
use Rattle.srt_replay.specs.Tape.{lines_of, max_line, max_lines}
use Rattle.srt_replay.specs.Replay.{event_at}
use Rattle.srt_replay.specs.Known.{NoLf, Wrote}
use Rattle.srt_transcript.specs.declared.transcribing.TranscriptFault.{TranscriptFault}
use Rattle.srt_transcript.specs.declared.transcribing.TranscriptFault.TheVariants.{NoEvent, Output, Read, Write}

-- the greatest number of routes of a gateway
abbrev pub max_routes : ℕ
max_routes = 511

-- whether a line with this number is an event for a replay over a gateway with all routes
abbrev pub is_event : (number : ℕ) → (line : List ℕ) → Bool
is_event number line = is_some (event_at max_routes number line)

-- a line that is an event for a gateway with some routes is one here
abbrev pub EventsOfFewerRoutes : Type 0
EventsOfFewerRoutes =
    (routes number : ℕ) (line : List ℕ) → routes ≤ 511 → is_some (event_at routes number line) ≡ true → is_event number line ≡ true

-- the number of the first line that isn't an event; the first line has this number
abbrev pub no_event_from : (number : ℕ) → List (List ℕ) → Option ℕ
no_event_from number [] = None
no_event_from number (line ∷ lines) = if is_event number line then no_event_from (number + 1) lines else Some number

-- the number of a tape's first line that isn't an event, counted from 1
abbrev pub no_event_in : (tape : List ℕ) → Option ℕ
no_event_in tape = no_event_from 1 (lines_of tape)

-- the line that explains the tape's line of this number: the number in seven columns, two spaces and the words
abbrev pub line_text : (number : ℕ) → (words : List ℕ) → List ℕ
line_text number words = take (7 - length (decimal number)) (codes "       ") ++ decimal number ++ codes "  " ++ words ++ 10 ∷ []

-- the line that explains an output's line
abbrev pub answer_text : (words : List ℕ) → List ℕ
answer_text words = codes "           = " ++ words ++ 10 ∷ []

-- the explanations of a tape's lines, of which the first has this number, each followed by that of the output's line of the
-- same number
abbrev pub transcript_from : (number : ℕ) → (lines answers : List (List ℕ)) → List ℕ
transcript_from number [] [] = []
transcript_from number [] (answer ∷ answers) = answer_text answer ++ transcript_from (number + 1) [] answers
transcript_from number (line ∷ lines) [] = line_text number line ++ transcript_from (number + 1) lines []
transcript_from number (line ∷ lines) (answer ∷ answers) =
    line_text number line ++ (answer_text answer ++ transcript_from (number + 1) lines answers)

-- a text explains that many lines of a tape and that many of an output, each in one line
pub record IsTranscript (lines answers : ℕ) (text : List ℕ) : Type 0 where
  pub words : List (List ℕ)
  pub replies : List (List ℕ)
  pub each_line : length words ≡ lines
  pub each_answer : length replies ≡ answers
  pub line_words : All NoLf words
  pub answer_words : All NoLf replies
  pub text_is : text ≡ transcript_from 1 words replies

-- a writer got the transcript of that many lines of a tape and that many of an output
pub record WroteTranscript (lines answers : ℕ) (before after : Option (List ℕ)) : Type 0 where
  pub text : List ℕ
  pub wrote : Wrote before after text
  pub explains : IsTranscript lines answers text

-- a writer got the transcript of some lines
pub record WroteLines (before after : Option (List ℕ)) : Type 0 where
  pub lines : ℕ
  pub answers : ℕ
  pub wrote : WroteTranscript lines answers before after

-- a writer got a prefix of such a transcript
pub record WrotePrefix (before after : Option (List ℕ)) : Type 0 where
  pub text : List ℕ
  pub more : List ℕ
  pub lines : ℕ
  pub answers : ℕ
  pub wrote : Wrote before after text
  pub explains : IsTranscript lines answers (text ++ more)

-- the number of an output's lines that belong to that many lines of a tape: the smaller of the two
abbrev pub IsShare : (output : List ℕ) → (lines answers : ℕ) → Type 0
IsShare output lines answers =
    ((answers ≡ length (lines_of output)) × (answers ≤ lines)) ⊎ ((answers ≡ lines) × (answers ≤ length (lines_of output)))

-- an output that no replay prints: it has a line that is too long, or more lines than a replay has answers
pub record IsNoOutput (output : List ℕ) : Type 0 where
  pub before : ℕ
  pub line : List ℕ
  pub lines : List (List ℕ)
  pub line_is : drop before (lines_of output) ≡ line ∷ lines
  pub too_much : (max_line < length line) ⊎ (max_lines < before)

-- the result of a transcript, and what the writer then holds, if its bytes are known
abbrev pub HasTranscribed : (tape output : List ℕ) → (before after : Option (List ℕ)) → Result (Unit {0}) TranscriptFault → Type 0
-- each line of the tape is an event, and each line of both is explained
HasTranscribed tape output before after (Ok u) =
    WroteTranscript (length (lines_of tape)) (length (lines_of output)) before after × (no_event_in tape ≡ None)
-- the lines up to the first that isn't an event are explained, with their answers
HasTranscribed tape output before after (Err (NoEvent line)) =
    (answers : ℕ) × IsShare output line answers × WroteTranscript line answers before after × (no_event_in tape ≡ Some line)
HasTranscribed tape output before after (Err Output) = WroteLines before after × IsNoOutput output
HasTranscribed tape output before after (Err Read) = WroteLines before after
HasTranscribed tape output before after (Err Write) = WrotePrefix before after

-- the same of readers, if their bytes are known
abbrev pub Transcribes : (tape output before after : Option (List ℕ)) → Result (Unit {0}) TranscriptFault → Type 0
Transcribes tape output before after result =
    (xs ys : List ℕ) → tape ≡ Some xs → output ≡ Some ys → HasTranscribed xs ys before after result
