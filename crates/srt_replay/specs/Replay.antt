-- The output of a replay (our choice).
use Rattle.std.specs.Prelude.{◌≡◌, ℕ, ◌+◌, nat_le, List, [], ◌∷◌, ◌++◌, take, drop, Option, None, Some, Result, Ok, Err, if◌then◌else◌}
use Rattle.srt_types.specs.Terms.{Terms}
use Rattle.srt_lobby.specs.declared.classes.Class.TheVariants.{Route}
use Rattle.srt_lobby.specs.Names.{RouteName}
use Rattle.srt_lobby.specs.Changing.{fault_of_adding}
use Rattle.srt_hub.specs.World.{Event, Arrives, Ticks, Turns, Sends, Opens, Closes, Sorting, Meaning}
use Rattle.srt_hub.specs.Hubs.{names_at, routes_at}
use Rattle.srt_replay.specs.declared.replaying.ReplayFault.{ReplayFault}
use Rattle.srt_replay.specs.declared.replaying.ReplayFault.TheVariants.{Tape, OutOfMemory, Read, Write}
use Rattle.srt_replay.specs.Tape.{lines_of, max_lines}
use Rattle.srt_replay.specs.Events.{event_of}
use Rattle.srt_replay.specs.Texts.{event_text}
use Rattle.srt_replay.specs.Known.{Wrote}

-- the event of the line with this number, counted from 1
unfoldable pub event_at : (routes number : ℕ) → (line : List ℕ) → Option Event
event_at routes number line = if nat_le number max_lines then event_of routes line else None

-- an event and those after it; none after a line that isn't an event
abbrev pub events_on : Option Event → (others : Event → List Event) → List Event
events_on None others = []
events_on (Some event) others = event ∷ others event

-- the events of the following lines, the oldest first, up to the first line that isn't an event. The past events have
-- the newest first, and the first line has this number. Each line is read for the number of routes at that point
abbrev pub events_from : Sorting → Meaning → List Terms → (past : List Event) (number : ℕ) → List (List ℕ) → List Event
events_from class reply entries past number [] = []
events_from class reply entries past number (line ∷ lines) =
    events_on (event_at (routes_at class reply entries past) number line) (λ event. events_from class reply entries (event ∷ past) (number + 1) lines)

abbrev pub fault_on : (number : ℕ) → Option Event → (others : Event → Option ℕ) → Option ℕ
fault_on number None others = Some number
fault_on number (Some event) others = others event

-- the number of the first line that isn't an event
abbrev pub fault_from : Sorting → Meaning → List Terms → (past : List Event) (number : ℕ) → List (List ℕ) → Option ℕ
fault_from class reply entries past number [] = None
fault_from class reply entries past number (line ∷ lines) =
    fault_on number (event_at (routes_at class reply entries past) number line) (λ event. fault_from class reply entries (event ∷ past) (number + 1) lines)

-- past events, the newest first, with later ones added; those are listed with the oldest first
abbrev pub with_past : (past arrived : List Event) → List Event
with_past past [] = past
with_past past (event ∷ arrived) = with_past (event ∷ past) arrived

-- the events of lines, the newest first
abbrev pub past_of : Sorting → Meaning → List Terms → List (List ℕ) → List Event
past_of class reply entries lines = with_past [] (events_from class reply entries [] 1 lines)

-- the text that is written for the following events, the oldest first, after past events, the newest first: the model
-- yields each event's result, and the event then belongs to the past
abbrev pub text_after : Sorting → Meaning → List Terms → (past coming : List Event) → List ℕ
text_after class reply entries past [] = []
text_after class reply entries past (event ∷ coming) = event_text class reply entries past event ++ text_after class reply entries (event ∷ past) coming

-- the text that is written for lines
abbrev pub text_of : Sorting → Meaning → List Terms → List (List ℕ) → List ℕ
text_of class reply entries lines = text_after class reply entries [] (events_from class reply entries [] 1 lines)

-- the text that is written for a tape
abbrev pub tape_text : Sorting → Meaning → List Terms → (tape : List ℕ) → List ℕ
tape_text class reply entries tape = text_of class reply entries (lines_of tape)

-- the text that is written for a tape's first lines
abbrev pub front_text : Sorting → Meaning → List Terms → (tape : List ℕ) (lines : ℕ) → List ℕ
front_text class reply entries tape lines = text_of class reply entries (take lines (lines_of tape))

-- the number of a tape's first line that isn't an event, counted from 1
abbrev pub fault_line : Sorting → Meaning → List Terms → (tape : List ℕ) → Option ℕ
fault_line class reply entries tape = fault_from class reply entries [] 1 (lines_of tape)

-- an event that allocates memory, given the names in force: an arrival for a route, or an opening without a fault
abbrev pub WantsCopy : Sorting → List RouteName → Event → Type 0
WantsCopy class names (Arrives d moment refused) = (r : ℕ) × (class names d moment ≡ Route r)
WantsCopy class names (Ticks r moment) = ⊥
WantsCopy class names (Turns r) = ⊥
WantsCopy class names (Sends r) = ⊥
WantsCopy class names (Opens e refused) = fault_of_adding names e ≡ None
WantsCopy class names (Closes r moment) = ⊥

-- after this number of lines, all of them events, follows a line with such an event
pub record WantsMemory (class : Sorting) (reply : Meaning) (entries : List Terms) (tape : List ℕ) (lines : ℕ) : Type 0 where
  pub line : List ℕ
  pub behind : List (List ℕ)
  pub event : Event
  pub no_fault : fault_from class reply entries [] 1 (take lines (lines_of tape)) ≡ None
  pub line_is : drop lines (lines_of tape) ≡ line ∷ behind
  pub event_is : event_at (routes_at class reply entries (past_of class reply entries (take lines (lines_of tape)))) (lines + 1) line ≡ Some event
  pub wants : WantsCopy class (names_at class reply entries (past_of class reply entries (take lines (lines_of tape)))) event

-- the result of a replay, and the bytes that the writer then holds, if they are known
abbrev pub HasReplayed : Sorting → Meaning → List Terms → (tape : List ℕ) (before after : Option (List ℕ)) → Result (Unit {0}) ReplayFault → Type 0
-- the whole text
HasReplayed class reply entries tape before after (Ok u) =
    Wrote before after (tape_text class reply entries tape) × (fault_line class reply entries tape ≡ None)
-- the text of the lines before the first that isn't an event
HasReplayed class reply entries tape before after (Err (Tape line)) =
    Wrote before after (tape_text class reply entries tape) × (fault_line class reply entries tape ≡ Some line)
-- the text of the lines before an event for which memory is allocated
HasReplayed class reply entries tape before after (Err OutOfMemory) =
    (lines : ℕ) × Wrote before after (front_text class reply entries tape lines) × WantsMemory class reply entries tape lines
-- the text of some first lines
HasReplayed class reply entries tape before after (Err Read) = (lines : ℕ) × Wrote before after (front_text class reply entries tape lines)
-- a prefix of the text
HasReplayed class reply entries tape before after (Err Write) =
    (text more : List ℕ) × Wrote before after text × (text ++ more ≡ tape_text class reply entries tape)

-- the same for a reader, if its bytes are known
abbrev pub Replays : Sorting → Meaning → List Terms → (reader writer after : Option (List ℕ)) → Result (Unit {0}) ReplayFault → Type 0
Replays class reply entries reader writer after result = (tape : List ℕ) → reader ≡ Some tape → HasReplayed class reply entries tape writer after result

-- the gateway couldn't be allocated, and nothing was read or written
abbrev pub WasRefused : {B W : Type 0} → (reader reader' : B) (writer writer' : W) → Result (Unit {0}) ReplayFault → Type 0
WasRefused reader reader' writer writer' result = (result ≡ Err OutOfMemory) × (reader' ≡ reader) × (writer' ≡ writer)
