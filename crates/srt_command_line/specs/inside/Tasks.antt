-- The tasks of a command line (our choice).
use Rattle.std.specs.Prelude.{ℕ, codes, List, Option, None, Some, option_map}
use Rattle.srt_command_line.specs.Durations.{duration_in}
use Rattle.srt_command_line.specs.declared.tasks.Task.{Task}
use Rattle.srt_command_line.specs.declared.tasks.Task.TheVariants as tasks
use Rattle.srt_command_line.specs.declared.tasks.Given.{Given}
use Rattle.srt_command_line.specs.declared.tasks.Given.TheVariants as givens

-- when a run ends by itself, by the text of --for: never without one; a text that is no duration has no answer
abbrev pub lasts_of : (text : Option (List ℕ)) → Option (Option ℕ)
lasts_of None = Some None
lasts_of (Some text) = option_map (λ lasts. Some lasts) (duration_in text)

-- the name of the command that a task is of
abbrev pub name_of : Task → List ℕ
name_of (tasks.Check config explains tries) = codes "check"
name_of (tasks.Replay config tape) = codes "replay"
name_of (tasks.Explain tape output) = codes "explain"
name_of (tasks.Serve config rounds) = codes "serve"
name_of (tasks.Run config manner) = codes "run"

abbrev pub command_of : Given → List ℕ
command_of (givens.Task task) = name_of task
command_of givens.WrongDuration = codes "run"
