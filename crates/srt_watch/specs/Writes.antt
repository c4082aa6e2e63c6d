-- How the write of a log's line ended.
use Rattle.std.specs.Prelude.{◌≡◌, ◌⊎◌, ℕ, ◌+◌, ◌==◌, nat_lt, Bool, true, false, List, [], Result, Ok, Err, if◌then◌else◌}
use Rattle.std.specs.IoError.{error_kind}
use Rattle.std.specs.declared.io.Error.{Error}
use Rattle.std.specs.declared.io.ErrorKind.{ErrorKind}
use Rattle.std.specs.declared.io.ErrorKind.TheVariants.{WouldBlock, OutOfMemory}
use Rattle.srt_status.specs.Events.{HasKept}
use Rattle.srt_status.specs.declared.events.Event.{Event}
use Rattle.srt_log.specs.declared.events.LogEvent.{LogEvent}
use Rattle.srt_log.specs.declared.events.LogEvent.TheVariants.{LeftOut}
use Rattle.srt_log.specs.LineShares.{is_shared, omitted_of, omitted_in, beyond_in}
use Rattle.srt_log.specs.Texts.{put}
use Rattle.srt_watch.specs.Log.{LogCall, Offered, Always, Polled, Missed, Looked, Closed, LogState, Said, said, most, missed_at, with_poll}
use Rattle.srt_watch.specs.declared.log.When.{When}
use Rattle.srt_watch.specs.declared.output.NotWritten.{NotWritten}
use Rattle.srt_watch.specs.declared.output.NotWritten.TheVariants.{ByWriter, NoMemory}

-- such a write may succeed later: there was no room for the line, or no memory
abbrev pub may_pass : ErrorKind → Bool
may_pass WouldBlock = true
may_pass OutOfMemory = true
may_pass kind = false

abbrev pub is_passing : NotWritten → Bool
is_passing (ByWriter error) = may_pass (error_kind error)
is_passing (NoMemory want) = true

-- the lines for which there was no room
abbrev pub refused_after : {T : Type 0} → Result T NotWritten → (refused count : ℕ) → ℕ
refused_after (Ok t) refused count = refused
refused_after (Err why) refused count = if is_passing why then most (refused + count) else refused

-- the number of lines that the line of an event stands for
abbrev pub lines_of : LogEvent → ℕ
lines_of (LeftOut count) = count
lines_of _ = 1

-- the same of a write of which it isn't said how it ended
abbrev pub HasRefused : (old new count : ℕ) → Type 0
HasRefused old new count = (new ≡ old) ⊎ (new ≡ most (old + count))

-- a line was kept for the page, if it was to be written
abbrev pub HasKeptIf : (written : Bool) → (old new : List Event) → (moment : ℕ) → (is_refusal : Bool) → (text : List ℕ) → Type 0
HasKeptIf true old new moment is_refusal text = HasKept old new moment is_refusal text
HasKeptIf false old new moment is_refusal text = new ≡ old

-- Lines were kept for the page behind the others, none or some: the others go only where there is no room for them.
pub data AreKept (old : List Event) : (new : List Event) → Type 0 where
  KeptNone : (new : List Event) → new ≡ old → AreKept old new
  KeptMore : (middle new : List Event) (moment : ℕ) (is_refusal : Bool) (text : List ℕ) → AreKept old middle → HasKept middle new moment is_refusal text →
      AreKept old new

-- what only a call of the writer that ended with an error ensures is known of that error; of memory that was refused there is evidence
abbrev pub IsFailureOf : (failed : Error → Type 0) → NotWritten → Type 0
IsFailureOf failed (ByWriter error) = failed error
IsFailureOf failed (NoMemory want) = Unit {0}

-- A call of the writer ended with some error.
pub record HasFailed (failed : Error → Type 0) : Type 0 where
  pub error : Error
  pub has_failed : failed error

-- The number of calls of a writer with a line, after the line of an event was to be written: one more. Only if memory for an object was refused
-- there is none.
abbrev pub GotObject : {T : Type 0} → Result T NotWritten → (old new : ℕ) → Type 0
GotObject (Ok t) old new = new ≡ most (old + 1)
GotObject (Err (ByWriter error)) old new = new ≡ most (old + 1)
GotObject (Err (NoMemory want)) old new = new ≡ old

abbrev pub GotLine : {T : Type 0} → (is_json : Bool) → Result T NotWritten → (old new : ℕ) → Type 0
GotLine true result old new = GotObject result old new
GotLine false result old new = new ≡ most (old + 1)

-- the number of lines that were left out and missed, where a second or the log ends
abbrev pub second_count : LogState → When → ℕ
second_count s when = most (omitted_in s.calls when.moment + missed_at s when)

abbrev pub end_count : LogState → When → ℕ
end_count s when = most (beyond_in (with_poll s when).calls + (with_poll s when).missed)

-- the line of such a number was kept, if it isn't 0
abbrev pub HasKeptCount : (count : ℕ) → When → (old new : List Event) → Type 0
HasKeptCount count when old new = HasKeptIf (nat_lt 0 count) old new when.moment true (put [] (said (LeftOut count)).words)

-- The line of such a number was kept, and then that of an event, if it was to be written
pub record HasKeptLine (count : ℕ) (written : Bool) (when : When) (event : Said) (old new : List Event) : Type 0 where
  pub middle : List Event
  pub count_is : HasKeptCount count when old middle
  pub line_is : HasKeptIf written middle new when.moment event.is_refusal (put [] event.words)

-- Two such numbers were kept.
pub record HasKeptCounts (first second : ℕ) (when : When) (old new : List Event) : Type 0 where
  pub middle : List Event
  pub first_is : HasKeptCount first when old middle
  pub second_is : HasKeptCount second when middle new

-- The lines that a call of the log kept for the page: exactly those that were to be written. A look keeps at most the number of lines that
-- there was no room for, which is none of its state.
abbrev pub HasKeptOf : LogState → LogCall → (old new : List Event) → Type 0
HasKeptOf s (Offered when kind event) old new =
    HasKeptLine (omitted_of s.calls kind when.moment) (is_shared s.calls kind when.moment) when event old new
HasKeptOf s (Always when event) old new = HasKeptLine (second_count s when) true when event old new
HasKeptOf s (Polled when) old new = HasKeptCount (second_count s when) when old new
HasKeptOf s (Missed count) old new = new ≡ old
HasKeptOf s Looked old new = AreKept old new
HasKeptOf s (Closed when) old new = HasKeptCounts (second_count s when) (end_count s when) when old new

-- the lines that a writer was given so far: one more, one more if it was to be written, and one more if it tells of some lines
abbrev pub given_if : (written : Bool) → (given : ℕ) → ℕ
given_if written given = if written then most (given + 1) else given

abbrev pub given_some : (count given : ℕ) → ℕ
given_some count given = if count == 0 then given else most (given + 1)

abbrev pub given_second : LogState → When → (given : ℕ) → ℕ
given_second s when given = given_some (second_count s when) given

-- after a call of its log, whatever became of the lines before
abbrev pub given_by : LogState → LogCall → (given : ℕ) → ℕ
given_by s (Offered when kind event) given =
    given_if (is_shared s.calls kind when.moment) (given_some (omitted_of s.calls kind when.moment) given)
given_by s (Always when event) given = most (given_second s when given + 1)
given_by s (Polled when) given = given_second s when given
given_by s (Missed count) given = given
given_by s Looked given = given
given_by s (Closed when) given = given_some (end_count s when) (given_second s when given)
