-- The statuses of a command line that is no task (our choice).
use Rattle.std.specs.Prelude.{ℕ, ◌≡◌, ◌⊎◌}
use Rattle.clap.specs.declared.error.kind.ErrorKind.{ErrorKind}
use Rattle.clap.specs.declared.error.kind.ErrorKind.TheVariants.{DisplayHelp, DisplayVersion}
use Rattle.srt_command_line.specs.declared.words.CommandLine.{CommandLine}
use Rattle.srt_command_line.specs.declared.words.CommandLine.TheVariants.{Task, Reported}

-- a text that was asked for is no fault; every other one is a wrong command line
abbrev pub status_of : ErrorKind → ℕ
status_of DisplayHelp = 0
status_of DisplayVersion = 0
status_of _ = 2

-- what was told has status 0 or 2
abbrev pub HasStatus : CommandLine → Type 0
HasStatus (Task task) = Unit {0}
HasStatus (Reported status) = (status ≡ 0) ⊎ (status ≡ 2)
