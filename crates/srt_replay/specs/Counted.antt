-- A reader that counts its reads: the number of reads left, and the result of the last one.
use Rattle.std.specs.Prelude.{◌≡◌, ◌≢◌, ℕ, ◌<◌, ◌≤◌, Bool, true, false, List, length, Result, Ok, Err}
use Rattle.std.specs.IoError.{error_kind}
use Rattle.std.specs.declared.io.Error.{Error}
use Rattle.std.specs.declared.io.ErrorKind.TheVariants.{Interrupted}
use denote.Ref.{Bor}
use Rattle.srt_replay.specs.declared.reader.Brought.{Brought}
use Rattle.srt_replay.specs.declared.reader.Brought.TheVariants.{Nothing, Bytes, End, Failure}
use Rattle.srt_replay.specs.declared.reader.ReadBudget.{ReadBudget}
use Rattle.srt_replay.specs.declared.reader.CountedReader.{CountedReader}
use Rattle.srt_replay.specs.declared.reader.ReadFailed.{ReadFailed}
use Rattle.srt_replay.specs.declared.reader.Piece.{Piece}
use Rattle.srt_replay.specs.declared.reader.Piece.TheVariants as piece
use Rattle.srt_replay.specs.declared.reader.Taken.{Taken}
use Rattle.srt_replay.specs.declared.reader.Taken.TheVariants as taken
use Rattle.srt_replay.specs.declared.reader.TapeLine.{TapeLine}
use Rattle.srt_replay.specs.declared.reader.TapeLine.TheVariants as tape
use Rattle.srt_replay.specs.declared.replaying.ReplayFault.{ReplayFault}
use Rattle.srt_replay.specs.declared.replaying.ReplayFault.TheVariants.{Tape, OutOfMemory, Read, Write}
use Rattle.srt_replay.specs.Tape.{max_lines}

abbrev pub left_in : ReadBudget → ℕ
left_in budget = budget.left

abbrev pub brought_in : ReadBudget → Brought
brought_in budget = budget.brought

-- the reader whose reads are counted
abbrev pub source : {R : Type 0} → CountedReader R → R
source reader = reader.reader

-- the number of reads left
abbrev pub reads_left : {R : Type 0} → CountedReader R → ℕ
reads_left reader = left_in reader.budget

-- the result of the last read
abbrev pub last_brought : {R : Type 0} → CountedReader R → Brought
last_brought reader = brought_in reader.budget

-- the result that is recorded for the return value of a read
abbrev pub BroughtBy : Result (Bor (List ℕ)) Error → Brought → Type 0
BroughtBy (Ok bytes) brought = (length bytes.now ≡ 0 → brought ≡ End) × (0 < length bytes.now → brought ≡ Bytes)
BroughtBy (Err e) brought = (error_kind e ≡ Interrupted → brought ≡ Nothing) × (error_kind e ≢ Interrupted → brought ≡ Failure)

-- a read is left, and the last one didn't fail
abbrev pub MayLook : {R : Type 0} → CountedReader R → Type 0
MayLook reader = (0 < reads_left reader) × (last_brought reader ≢ Failure)

-- the last read failed, or none is left
abbrev pub WasUnread : (left : ℕ) → Brought → Type 0
WasUnread left brought = brought ≢ Failure → left ≡ 0

-- the state of the reads after one read, after a line, after a line of a tape, after a line's answer and after a whole replay: unless the
-- result is that the reader failed or has no read left, the last read didn't fail
abbrev pub PieceRead : Brought → Result Piece ReadFailed → Type 0
PieceRead brought (Ok (piece.Part n)) = brought ≢ Failure
PieceRead brought (Ok (piece.Line n)) = brought ≢ Failure
PieceRead brought (Ok piece.Long) = brought ≢ Failure
PieceRead brought (Ok piece.End) = brought ≡ End
PieceRead brought (Err fault) = brought ≡ Failure

abbrev pub LineRead : (left : ℕ) → Brought → Result Taken ReadFailed → Type 0
LineRead left brought (Ok (taken.Line n)) = brought ≢ Failure
LineRead left brought (Ok taken.Long) = brought ≢ Failure
LineRead left brought (Ok taken.End) = brought ≡ End
LineRead left brought (Err fault) = WasUnread left brought

abbrev pub TapeLineRead : (left : ℕ) → Brought → Result TapeLine ReadFailed → Type 0
TapeLineRead left brought (Ok (tape.Line n)) = brought ≢ Failure
TapeLineRead left brought (Ok tape.Beyond) = brought ≢ Failure
TapeLineRead left brought (Ok tape.End) = brought ≡ End
TapeLineRead left brought (Err fault) = WasUnread left brought

abbrev pub TurnRead : (number left : ℕ) → Brought → Result Bool ReplayFault → Type 0
TurnRead number left brought (Ok true) = number ≤ max_lines
TurnRead number left brought (Ok false) = brought ≡ End
TurnRead number left brought (Err (Tape line)) = brought ≢ Failure
TurnRead number left brought (Err OutOfMemory) = brought ≢ Failure
TurnRead number left brought (Err Read) = WasUnread left brought
TurnRead number left brought (Err Write) = brought ≢ Failure

-- the state of the reads after a replay: if it succeeded, the reader was at its end; if it ended with `Read`, the
-- reader failed or no read was left; if it ended with `Write`, the flush may have failed after a failed read
abbrev pub ReplayRead : (left : ℕ) → Brought → Result (Unit {0}) ReplayFault → Type 0
ReplayRead left brought (Ok u) = brought ≡ End
ReplayRead left brought (Err (Tape line)) = brought ≢ Failure
ReplayRead left brought (Err OutOfMemory) = brought ≢ Failure
ReplayRead left brought (Err Read) = WasUnread left brought
ReplayRead left brought (Err Write) = Unit {0}
