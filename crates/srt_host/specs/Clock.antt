-- The routes' clock (our choice).
use Rattle.std.specs.Prelude.{◌≡◌, ℕ, ◌/◌, ◌%◌, List, [], ◌∷◌, Option, None, Some}
use Rattle.std.specs.declared.time.Instant.{Instant}
use Rattle.srt_procfs.specs.Notes.{Note}
use Rattle.srt_host.specs.declared.clock.Since.{Since}
use Rattle.srt_host.specs.Times.{time_after}

-- the start from which it counts, if there is one
abbrev pub start_of : {R : Type 0} → Since R → Option Instant
start_of clock = clock.elapsed.start

-- the time that it returned last, in microseconds
abbrev pub last_of : {R : Type 0} → Since R → ℕ
last_of clock = clock.last

-- the readings of the system's clock so far, the newest first
abbrev pub readings_of : {R : Type 0} → Since R → List Note
readings_of clock = clock.elapsed.journal.notes

-- a reading: the nanoseconds that have passed since the start, or that it couldn't be read
abbrev pub reading_note : Option ℕ → Note
reading_note (Some nanos) = (0 ∷ nanos / 1_000_000_000 ∷ nanos % 1_000_000_000 ∷ [], [], [])
reading_note None = (1 ∷ [], [], [])

-- the time after a reading: the last one again if it couldn't be read
abbrev pub time_by : (last : ℕ) → Option ℕ → ℕ
time_by last (Some nanos) = time_after last nanos
time_by last None = last

-- A time is that of one reading of the system's clock, made now, of what has passed since the start
pub record IsRead {R : Type 0} (old new : Since R) (moment : ℕ) : Type 0 where
  pub answer : Option ℕ
  pub noted : readings_of new ≡ reading_note answer ∷ readings_of old
  pub told : moment ≡ time_by (last_of old) answer
  pub last : last_of new ≡ moment
  pub start : start_of new ≡ start_of old
