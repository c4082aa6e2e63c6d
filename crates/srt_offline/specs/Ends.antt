-- How a command ends (our choice).
use Rattle.std.specs.Prelude.{ℕ, ◌≡◌, Bool, true, false, List, Option, Result, Ok, Err, IfSome}
use Rattle.std.specs.Fmt.{with_newline}
use Rattle.std.specs.Io.KnownBytes.{Keeps, Appends}
use Rattle.srt_command_line.specs.declared.words.WordsFault.{WordsFault}
use Rattle.srt_command_line.specs.declared.words.WordsFault.TheVariants as words
use Rattle.srt_config.specs.declared.files.Unread.{Unread}
use Rattle.srt_config.specs.declared.files.Unread.TheVariants as unread
use Rattle.srt_replay.specs.declared.replaying.ReplayFault.{ReplayFault}
use Rattle.srt_replay.specs.declared.replaying.ReplayFault.TheVariants as replays
use Rattle.srt_transcript.specs.declared.transcribing.TranscriptFault.{TranscriptFault}
use Rattle.srt_transcript.specs.declared.transcribing.TranscriptFault.TheVariants as transcripts
use Rattle.srt_offline.specs.declared.faults.OfflineFault.{OfflineFault}
use Rattle.srt_offline.specs.declared.faults.OfflineFault.TheVariants.{File, Config, Replay, Transcript, Memory, Output}

-- a replay's fault is printed as a line, unless it is that of an output that can't be written
abbrev pub is_replay_printed : ReplayFault → Bool
is_replay_printed (replays.Tape line) = true
is_replay_printed replays.OutOfMemory = true
is_replay_printed replays.Read = true
is_replay_printed replays.Write = false

-- a transcript's fault is, unless it is that, or its last line states it
abbrev pub is_transcript_printed : TranscriptFault → Bool
is_transcript_printed (transcripts.NoEvent line) = false
is_transcript_printed transcripts.Output = true
is_transcript_printed transcripts.Read = true
is_transcript_printed transcripts.Write = false

-- so is every other fault
abbrev pub is_printed : OfflineFault → Bool
is_printed File = true
is_printed (Config fault) = true
is_printed (Replay fault) = is_replay_printed fault
is_printed (Transcript fault) = is_transcript_printed fault
is_printed Memory = true
is_printed Output = false

-- a file that can't be read, or is too large, is a fault of the file
abbrev pub unread_fault : Unread → OfflineFault
unread_fault (unread.System error) = File
unread_fault (unread.Large most) = File
unread_fault unread.Memory = Memory

-- the fault of a command line that came to nothing
abbrev pub words_fault : WordsFault → OfflineFault
words_fault words.OutOfMemory = Memory
words_fault words.Output = Output

-- the exit status of a run, whatever its faults are
abbrev pub status_after : {F : Type 0} → Result (Unit {0}) F → ℕ
status_after (Ok done) = 0
status_after (Err fault) = 1

-- a line of this text is written behind what was there; or nothing is
abbrev pub Prints : (has_line : Bool) → (text : Option (List ℕ)) → (old new : Option (List ℕ)) → Type 0
Prints true text old new = IfSome (with_newline text) (Appends old new)
Prints false text old new = Keeps old new

-- the line of a command's fault is written, if it has one; nothing behind a command that ended well
abbrev pub PrintsEnd : {F : Type 0} → (has_line : F → Bool) → (text : F → Option (List ℕ)) → Result (Unit {0}) F → (old new : Option (List ℕ)) → Type 0
PrintsEnd has_line text (Ok done) old new = Keeps old new
PrintsEnd has_line text (Err fault) old new = Prints (has_line fault) (text fault) old new

-- a configuration's file is read, or it has one of these faults
abbrev pub IsConfigFault : OfflineFault → Type 0
IsConfigFault File = Unit {0}
IsConfigFault (Config fault) = Unit {0}
IsConfigFault (Replay fault) = ⊥
IsConfigFault (Transcript fault) = ⊥
IsConfigFault Memory = Unit {0}
IsConfigFault Output = ⊥

-- a check replays nothing
abbrev pub IsCheckFault : OfflineFault → Type 0
IsCheckFault File = Unit {0}
IsCheckFault (Config fault) = Unit {0}
IsCheckFault (Replay fault) = ⊥
IsCheckFault (Transcript fault) = ⊥
IsCheckFault Memory = Unit {0}
IsCheckFault Output = Unit {0}

-- a replay tells no output fault of its own: a result that can't be written is a fault of the replay that was made
abbrev pub IsReplayFault : OfflineFault → Type 0
IsReplayFault File = Unit {0}
IsReplayFault (Config fault) = Unit {0}
IsReplayFault (Replay fault) = Unit {0}
IsReplayFault (Transcript fault) = ⊥
IsReplayFault Memory = Unit {0}
IsReplayFault Output = ⊥

-- a replay that was made ends as it does; its fault is the command's, unchanged
abbrev pub command_end : Result (Unit {0}) ReplayFault → Result (Unit {0}) OfflineFault
command_end (Ok done) = Ok done
command_end (Err fault) = Err (Replay fault)

-- an explanation of a tape reads no configuration and replays nothing
abbrev pub IsExplainFault : OfflineFault → Type 0
IsExplainFault File = Unit {0}
IsExplainFault (Config fault) = ⊥
IsExplainFault (Replay fault) = ⊥
IsExplainFault (Transcript fault) = Unit {0}
IsExplainFault Memory = Unit {0}
IsExplainFault Output = ⊥

-- a transcript ends as it does; its fault is the command's, unchanged
abbrev pub explain_end : Result (Unit {0}) TranscriptFault → Result (Unit {0}) OfflineFault
explain_end (Ok done) = Ok done
explain_end (Err fault) = Err (Transcript fault)
