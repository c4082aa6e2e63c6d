-- How the program's command is built, argument by argument and command by command.
use Rattle.std.specs.Prelude.{◌≡◌, false, List, [], ◌∷◌, Option}
use Rattle.clap.specs.Words.{App, Rule, Shape, app_of, rule_of, with_subcommand}
use Rattle.clap.specs.declared.builder.arg.Arg.{Arg}
use Rattle.clap.specs.declared.builder.command.Command.{Command}
use Rattle.clap.specs.declared.builder.command.Command.TheViews.{out-Command}
use Rattle.clap.specs.declared.builder.value_parser.ValueParser.{ValueParser}
use Rattle.srt_command_line.specs.Commands.{serve_shape, run_shape, HasForms}

-- an argument with this rule, for its command alone
abbrev pub HasRule : Rule → Arg → Type 0
HasRule rule arg = (rule_of arg ≡ rule) × (arg.global ≡ false)

-- a command without arguments for those below it; and such a one that is this
abbrev pub IsLocal : Command → Type 0
IsLocal command = (out-Command command).has_globals ≡ false

abbrev pub IsApp : App → Command → Type 0
IsApp app command = (app_of command ≡ app) × IsLocal command

-- a command without others below it
abbrev pub leaf_app : Shape → App
leaf_app shape = record { top = shape; subs = [] }

abbrev pub IsRun : Command → Type 0
IsRun command = (forms : Option ValueParser) × HasForms forms × IsApp (leaf_app (run_shape forms)) command

-- a program with these commands more
abbrev pub with_all : App → List Shape → App
with_all app [] = app
with_all app (shape ∷ shapes) = with_all (with_subcommand app shape) shapes

abbrev pub AddsShapes : List Shape → (old new : Command) → Type 0
AddsShapes shapes old new = (app_of new ≡ with_all (app_of old) shapes) × IsLocal new

-- the program with the commands that serve callers
abbrev pub AddsCallers : (old new : Command) → Type 0
AddsCallers old new = (forms : Option ValueParser) × HasForms forms × AddsShapes (serve_shape ∷ run_shape forms ∷ []) old new
