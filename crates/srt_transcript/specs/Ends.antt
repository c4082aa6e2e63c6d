-- What the reads and writes of a transcript have to do with its result.
use Rattle.std.specs.Prelude.{◌≡◌, ◌⊎◌, ℕ, Result, Ok, Err}
use Rattle.srt_replay.specs.declared.reader.Brought.{Brought}
use Rattle.srt_replay.specs.declared.reader.Brought.TheVariants.{End}
use Rattle.srt_replay.specs.declared.writer.CountedWriter.{CountedWriter}
use Rattle.srt_replay.specs.declared.writer.Tried.TheVariants.{Flushed}
use Rattle.srt_replay.specs.Counted.{WasUnread}
use Rattle.srt_replay.specs.Tries.{IsUnwritten, last_try}
use Rattle.srt_transcript.specs.declared.transcribing.TranscriptFault.{TranscriptFault}
use Rattle.srt_transcript.specs.declared.transcribing.TranscriptFault.TheVariants.{NoEvent, Output, Read, Write}

-- a transcript that is complete reached the end of both readers; one that ended with `Read` had a reader that failed or had
-- no read left
abbrev pub TranscriptRead : (tape_left : ℕ) → Brought → (output_left : ℕ) → Brought → Result (Unit {0}) TranscriptFault → Type 0
TranscriptRead tape_left tape output_left output (Ok u) = (tape ≡ End) × (output ≡ End)
TranscriptRead tape_left tape output_left output (Err (NoEvent line)) = Unit {0}
TranscriptRead tape_left tape output_left output (Err Output) = Unit {0}
TranscriptRead tape_left tape output_left output (Err Read) = WasUnread tape_left tape ⊎ WasUnread output_left output
TranscriptRead tape_left tape output_left output (Err Write) = Unit {0}

-- a result `Write` is caused by the writer
abbrev pub HasWriteCause : {A W : Type 0} → CountedWriter W → Result A TranscriptFault → Type 0
HasWriteCause writer (Ok x) = Unit {0}
HasWriteCause writer (Err (NoEvent line)) = Unit {0}
HasWriteCause writer (Err Output) = Unit {0}
HasWriteCause writer (Err Read) = Unit {0}
HasWriteCause writer (Err Write) = IsUnwritten writer

-- and with any other result the last flush was done
abbrev pub TranscriptWritten : {W : Type 0} → CountedWriter W → Result (Unit {0}) TranscriptFault → Type 0
TranscriptWritten writer (Ok u) = last_try writer ≡ Flushed
TranscriptWritten writer (Err (NoEvent line)) = last_try writer ≡ Flushed
TranscriptWritten writer (Err Output) = last_try writer ≡ Flushed
TranscriptWritten writer (Err Read) = last_try writer ≡ Flushed
TranscriptWritten writer (Err Write) = IsUnwritten writer
