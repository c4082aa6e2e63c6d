-- How the waits for a log's writer end.
use Rattle.std.specs.Prelude.{◌≡◌, ℕ, ◌≤◌, Option, None, Some}
use Rattle.srt_watch.specs.Facts.{MachineFacts}
use Rattle.srt_watch.specs.declared.log.Closing.{Closing}
use Rattle.srt_watch.specs.declared.log.Drained.{Drained}
use Rattle.srt_watch.specs.declared.log.Drained.TheVariants.{All, Over, Rested}

-- All is out, of which the value has evidence. Otherwise the clock returned a moment at which the time was over, or the machine rested a hundred times.
abbrev pub HasWaited : MachineFacts → (ends : ℕ) → Drained → Type 0
HasWaited machine ends (All flushed) = Unit {0}
HasWaited machine ends (Over moment) = machine.was_moment moment × (ends ≤ moment)
HasWaited machine ends (Rested rests) = rests.rests ≡ 100

-- The same, by the number of lines that the writer had no room for and that the log hasn't told of: none, where all is out.
abbrev pub IsDrained : MachineFacts → (ends refused : ℕ) → Drained → Type 0
IsDrained machine ends refused (All flushed) = refused ≡ 0
IsDrained machine ends refused (Over moment) = machine.was_moment moment × (ends ≤ moment)
IsDrained machine ends refused (Rested rests) = rests.rests ≡ 100

-- A log has ended: it waited before its last line, and after it.
abbrev pub HasClosed : MachineFacts → (ends refused : ℕ) → Option Closing → Type 0
HasClosed machine ends refused None = ⊥
HasClosed machine ends refused (Some closing) = HasWaited machine ends closing.first × IsDrained machine ends refused closing.last
