-- The commands with their arguments, as a parse of the command line reads them (our choice).
use Rattle.std.specs.Prelude.{◌≡◌, ℕ, codes, true, List, [], ◌∷◌, map, Option, None, Some}
use Rattle.clap.specs.Words.{App, Rule, Shape, app_of, new_rule}
use Rattle.clap.specs.Simple.{new_shape}
use Rattle.clap.specs.Walk.{is_empty}
use Rattle.clap.specs.declared.builder.action.ArgAction.TheVariants.{Set, SetTrue}
use Rattle.clap.specs.declared.builder.command.Command.{Command}
use Rattle.clap.specs.declared.builder.value_parser.ValueParser.{ValueParser}
use Rattle.clap.specs.declared.builder.value_parser.ValueParser.TheVariants.{Names, Unsigned}

-- a file by its path, which has to be given
abbrev pub path_rule : (name : List ℕ) → Rule
path_rule name = record (new_rule name) { required = true; action = Some Set }

-- an option with a value, and one without
abbrev pub option_rule : (name : List ℕ) → Rule
option_rule name = record (new_rule name) { long = Some name; value_names = 1; action = Some Set }

abbrev pub flag_rule : (name : List ℕ) → Rule
flag_rule name = record (new_rule name) { long = Some name; action = Some SetTrue }

-- the rounds of serve, which have to be given, and the form of the log
abbrev pub rounds_rule : Rule
rounds_rule = record (option_rule (codes "rounds")) { required = true; parser = Some (Unsigned 0 1_000_000_000) }

abbrev pub log_rule : (forms : Option ValueParser) → Rule
log_rule forms = record (option_rule (codes "log")) { parser = forms }

-- a command of this name with these arguments
abbrev pub command_shape : (name : List ℕ) → List Rule → Shape
command_shape name rules = record (new_shape name) { rules = rules }

abbrev pub check_shape : Shape
check_shape = command_shape (codes "check") (path_rule (codes "CONFIG") ∷ flag_rule (codes "explain") ∷ flag_rule (codes "addresses") ∷ [])

abbrev pub replay_shape : Shape
replay_shape = command_shape (codes "replay") (path_rule (codes "CONFIG") ∷ path_rule (codes "TAPE") ∷ [])

abbrev pub explain_shape : Shape
explain_shape = command_shape (codes "explain") (path_rule (codes "TAPE") ∷ option_rule (codes "output") ∷ [])

abbrev pub serve_shape : Shape
serve_shape = command_shape (codes "serve") (path_rule (codes "CONFIG") ∷ rounds_rule ∷ [])

abbrev pub run_shape : (forms : Option ValueParser) → Shape
run_shape forms =
    command_shape (codes "run")
    (path_rule (codes "CONFIG") ∷ option_rule (codes "for") ∷ flag_rule (codes "no-time") ∷ log_rule forms ∷ [])

-- the program, which asks for a command: these, and none besides
abbrev pub program_app : (commands : List Shape) → App
program_app commands = record {
  top = record (new_shape (codes "srtgw")) { has_version = true; subcommand_required = true; is_leaf = is_empty commands };
  subs = commands;
}

abbrev pub commands_with : (forms : Option ValueParser) → List Shape
commands_with forms = check_shape ∷ replay_shape ∷ explain_shape ∷ serve_shape ∷ run_shape forms ∷ []

-- the names of which a value has to be one
abbrev pub names_in : Option ValueParser → Option (List (List ℕ))
names_in (Some (Names names)) = Some (map (λ name. name.now) names.now)
names_in parser = None

-- the forms of the log
abbrev pub HasForms : Option ValueParser → Type 0
HasForms forms = names_in forms ≡ Some (codes "text" ∷ codes "json" ∷ [])

-- The program has just these commands with just these arguments
pub record IsProgram (command : Command) : Type 0 where
  pub forms : Option ValueParser
  pub forms_are : HasForms forms
  pub app : app_of command ≡ program_app (commands_with forms)
