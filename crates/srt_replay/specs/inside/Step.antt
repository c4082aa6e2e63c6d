-- One line of a replay.
use Rattle.std.specs.Prelude.{◌≡◌, ℕ, ◌+◌, List, [], ◌∷◌, ◌++◌, length, take, Bool, true, false, Option, None, Some, Result, Ok, Err}
use Rattle.srt_hub.specs.declared.answers.OutOfMemory.{OutOfMemory as NoMemory}
use Rattle.srt_types.specs.Terms.{Terms}
use Rattle.srt_hub.specs.World.{Event, Sorting, Meaning}
use Rattle.srt_hub.specs.Hubs.{names_at, routes_at}
use Rattle.srt_hub.specs.Calls.{Past, SortingFor}
use Rattle.srt_replay.specs.declared.replaying.ReplayFault.{ReplayFault}
use Rattle.srt_replay.specs.declared.replaying.ReplayFault.TheVariants.{Tape, OutOfMemory, Read, Write}
use Rattle.srt_replay.specs.Tape.{lines_of}
use Rattle.srt_replay.specs.Events.{event_of}
use Rattle.srt_replay.specs.Texts.{event_text}
use Rattle.srt_replay.specs.Known.{TookLine, NoLine, Wrote}
use Rattle.srt_replay.specs.Replay.{event_at, events_from, text_of, fault_from, with_past, WantsCopy}

-- a gateway's state as a property of its events, the newest first
abbrev pub History : Type 1
History = List Event → Type 0

-- an event after these events has this text as its answer, and now belongs to the past
abbrev pub WasAnswered : Sorting → Meaning → List Terms → (past : List Event) (event : Event) (text : List ℕ) → History → Type 0
WasAnswered class reply entries past event text After = (text ≡ event_text class reply entries past event) × After (event ∷ past)

-- an event's answer is at the front of a buffer, or there was no memory and nothing happened
abbrev pub EventAnswered : Sorting → Meaning → List Terms → (past : List Event) (event : Event) (buffer : List ℕ) → History → Result ℕ NoMemory → Type 0
EventAnswered class reply entries past event buffer After (Ok n) = WasAnswered class reply entries past event (take n buffer) After
EventAnswered class reply entries past event buffer After (Err fault) = WantsCopy class (names_at class reply entries past) event × After past

-- a line's answer is at the front of a buffer, or the line isn't an event, or there was no memory and nothing happened
abbrev pub LineAnswered : Sorting → Meaning → List Terms → (past : List Event) (line buffer : List ℕ) → History → Result (Option ℕ) NoMemory → Type 0
LineAnswered class reply entries past line buffer After (Ok (Some n)) =
    (event : Event) × (event_of (routes_at class reply entries past) line ≡ Some event) ×
    WasAnswered class reply entries past event (take n buffer) After
LineAnswered class reply entries past line buffer After (Ok None) = event_of (routes_at class reply entries past) line ≡ None
LineAnswered class reply entries past line buffer After (Err fault) =
    (event : Event) × (event_of (routes_at class reply entries past) line ≡ Some event) ×
    WantsCopy class (names_at class reply entries past) event × After past

-- if the bytes are known, their first line, with this number, isn't an event
abbrev pub NoEvent : Option (List ℕ) → (routes number : ℕ) → Type 0
NoEvent old routes number =
    (xs : List ℕ)
    → old ≡ Some xs → (line : List ℕ) × (lines : List (List ℕ)) × (lines_of xs ≡ line ∷ lines) × (event_at routes number line ≡ None)

-- a line with this event was read
pub record TookEvent (old new : Option (List ℕ)) (routes number : ℕ) (event : Event) : Type 0 where
  pub line : List ℕ
  pub took : TookLine old new line
  pub event_is : event_at routes number line ≡ Some event

-- the result of one line: true if it was answered, false if there is none
abbrev pub Answered : Sorting → Meaning → List Terms → (past : List Event) → History → (old new held holds : Option (List ℕ)) (number : ℕ)
    → Result Bool ReplayFault
    → Type 0
Answered class reply entries past After old new held holds number (Ok true) =
    (event : Event) × TookEvent old new (routes_at class reply entries past) number event ×
    Wrote held holds (event_text class reply entries past event) × After (event ∷ past)
Answered class reply entries past After old new held holds number (Ok false) = NoLine old × (holds ≡ held)
Answered class reply entries past After old new held holds number (Err (Tape line)) =
    (line ≡ number) × NoEvent old (routes_at class reply entries past) number × (holds ≡ held)
Answered class reply entries past After old new held holds number (Err OutOfMemory) =
    (event : Event) × (holds ≡ held) × TookEvent old new (routes_at class reply entries past) number event ×
    WantsCopy class (names_at class reply entries past) event × After past
Answered class reply entries past After old new held holds number (Err Read) = holds ≡ held
Answered class reply entries past After old new held holds number (Err Write) =
    (event : Event) × TookEvent old new (routes_at class reply entries past) number event ×
    ((n : ℕ) × Wrote held holds (take n (event_text class reply entries past event)))

-- `WasAnswered` for a gateway with any history: an event's answer
abbrev pub Answers : {X : Type 0} → (Stands : X → Past) → (old new : X) → SortingFor → Meaning → Event → (text : List ℕ) → Type 0
Answers Stands old new class reply event text =
    (secret : List ℕ) (entries : List Terms) (past : List Event) → Stands old secret entries past →
    WasAnswered (class secret) reply entries past event text (Stands new secret entries)

-- `EventAnswered` for a gateway with any history: an event's answer, or none if it ran out of memory
abbrev pub Tries : {X : Type 0} → (Stands : X → Past) → (old new : X) → SortingFor → Meaning → Event → (buffer : List ℕ) → Result ℕ NoMemory → Type 0
Tries Stands old new class reply event buffer result =
    (secret : List ℕ) (entries : List Terms) (past : List Event) → Stands old secret entries past →
    EventAnswered (class secret) reply entries past event buffer (Stands new secret entries) result

-- `LineAnswered` for a gateway with any history: a line's answer
abbrev pub TriesLine : {X : Type 0} → (Stands : X → Past) → (old new : X) → SortingFor → Meaning → (line buffer : List ℕ) → Result (Option ℕ) NoMemory → Type 0
TriesLine Stands old new class reply line buffer result =
    (secret : List ℕ) (entries : List Terms) (past : List Event) → Stands old secret entries past →
    LineAnswered (class secret) reply entries past line buffer (Stands new secret entries) result

-- `Answered` for a gateway with any history: the result of one line, from a reader's bytes to a writer's
abbrev pub TriesNext : {X : Type 0} → (Stands : X → Past) → (old new : X) → SortingFor → Meaning → (left left' held holds : Option (List ℕ))
    → (number : ℕ) → Result Bool ReplayFault
    → Type 0
TriesNext Stands old new class reply left left' held holds number result =
    (secret : List ℕ) (entries : List Terms) (past : List Event) → Stands old secret entries past →
    Answered (class secret) reply entries past (Stands new secret entries) left left' held holds number result

-- a replay before the line with this number; the text is known only if the writer's bytes are
pub record Replayed (class : Sorting) (reply : Meaning) (entries : List Terms) (Now : History) (tape : List ℕ)
    (held reader writer : Option (List ℕ)) (number : ℕ) : Type 0 where
  -- the lines that were answered, and the bytes that remain
  pub lines : List (List ℕ)
  pub left : List ℕ
  pub lines_are : lines_of tape ≡ lines ++ lines_of left
  pub number_is : number ≡ 1 + length lines
  pub no_fault : fault_from class reply entries [] 1 lines ≡ None
  pub reader_is : reader ≡ Some left
  pub wrote : Wrote held writer (text_of class reply entries lines)
  pub stands : Now (with_past [] (events_from class reply entries [] 1 lines))

abbrev pub IsReplaying : Sorting → Meaning → List Terms → (Now : History) → (old held reader writer : Option (List ℕ)) (number : ℕ) → Type 0
IsReplaying class reply entries Now old held reader writer number =
    (tape : List ℕ) → old ≡ Some tape → Replayed class reply entries Now tape held reader writer number
