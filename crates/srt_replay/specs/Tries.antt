-- A writer that counts its tries: the number for the last text or the last flush, and the result of the last one.
use Rattle.std.specs.Prelude.{◌≡◌, ◌≢◌, ◌⊎◌, ℕ, ◌^◌, ◌<◌, Result, Ok, Err}
use Rattle.std.specs.IoError.{error_kind}
use Rattle.std.specs.declared.io.Error.{Error}
use Rattle.std.specs.declared.io.ErrorKind.TheVariants.{Interrupted}
use Rattle.srt_replay.specs.declared.writer.Tried.{Tried}
use Rattle.srt_replay.specs.declared.writer.Tried.TheVariants.{Nothing, Bytes, NoBytes, Flushed, Failure}
use Rattle.srt_replay.specs.declared.writer.TryNote.{TryNote}
use Rattle.srt_replay.specs.declared.writer.CountedWriter.{CountedWriter}
use Rattle.srt_replay.specs.declared.replaying.ReplayFault.{ReplayFault}
use Rattle.srt_replay.specs.declared.replaying.ReplayFault.TheVariants.{Tape, OutOfMemory, Read, Write}

abbrev pub made_in : TryNote → ℕ
made_in note = note.made

abbrev pub last_in : TryNote → Tried
last_in note = note.last

-- the writer whose tries are counted
abbrev pub sink : {W : Type 0} → CountedWriter W → W
sink writer = writer.writer

-- the number of tries for the last text or the last flush
abbrev pub tries_made : {W : Type 0} → CountedWriter W → ℕ
tries_made writer = made_in writer.note

-- the result of the last try
abbrev pub last_try : {W : Type 0} → CountedWriter W → Tried
last_try writer = last_in writer.note

-- the result that is recorded for an error
abbrev pub IsOutcomeOfError : Error → Tried → Type 0
IsOutcomeOfError e tried = (error_kind e ≡ Interrupted → tried ≡ Nothing) × (error_kind e ≢ Interrupted → tried ≡ Failure)

-- the result that is recorded for the return value of a write
abbrev pub IsOutcomeOfWrite : Result ℕ Error → Tried → Type 0
IsOutcomeOfWrite (Ok n) tried = (n ≡ 0 → tried ≡ NoBytes) × (0 < n → tried ≡ Bytes)
IsOutcomeOfWrite (Err e) tried = IsOutcomeOfError e tried

-- the result that is recorded for the return value of a flush
abbrev pub IsOutcomeOfFlush : Result (Unit {0}) Error → Tried → Type 0
IsOutcomeOfFlush (Ok u) tried = tried ≡ Flushed
IsOutcomeOfFlush (Err e) tried = IsOutcomeOfError e tried

-- at the last try the writer failed or accepted nothing, or 2^33 tries were made
abbrev pub WasGivenUp : TryNote → Type 0
WasGivenUp note = (last_in note ≡ NoBytes) ⊎ (last_in note ≡ Failure) ⊎ (made_in note ≡ 2 ^ 33)

abbrev pub IsUnwritten : {W : Type 0} → CountedWriter W → Type 0
IsUnwritten writer = WasGivenUp writer.note

-- a result `Write` is caused by the writer
abbrev pub HasWriteCause : {A W : Type 0} → CountedWriter W → Result A ReplayFault → Type 0
HasWriteCause writer (Ok x) = Unit {0}
HasWriteCause writer (Err (Tape line)) = Unit {0}
HasWriteCause writer (Err OutOfMemory) = Unit {0}
HasWriteCause writer (Err Read) = Unit {0}
HasWriteCause writer (Err Write) = IsUnwritten writer

-- after any result but `Write` the last try was a successful flush
abbrev pub ReplayWritten : {W : Type 0} → CountedWriter W → Result (Unit {0}) ReplayFault → Type 0
ReplayWritten writer (Ok u) = last_try writer ≡ Flushed
ReplayWritten writer (Err (Tape line)) = last_try writer ≡ Flushed
ReplayWritten writer (Err OutOfMemory) = last_try writer ≡ Flushed
ReplayWritten writer (Err Read) = last_try writer ≡ Flushed
ReplayWritten writer (Err Write) = IsUnwritten writer
