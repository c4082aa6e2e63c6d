-- The program with its commands, added one group after the other.
use Rattle.std.proofs.Common.{◌≡◌, [], ◌∷◌, Option, ap, ◌∙◌}
use Rattle.clap.specs.Words.{app_of}
use Rattle.clap.specs.declared.builder.command.Command.{Command}
use Rattle.clap.specs.declared.builder.value_parser.ValueParser.{ValueParser}
use Rattle.srt_command_line.specs.Commands.{check_shape, replay_shape, explain_shape, serve_shape, run_shape, program_app, commands_with, IsProgram}
use Rattle.srt_command_line.specs.inside.Building.{with_all, AddsShapes, AddsCallers}

all_of : (a b c d : Command) (forms : Option ValueParser) → app_of a ≡ program_app [] → app_of b ≡ with_all (app_of a) (check_shape ∷ [])
    → app_of c ≡ with_all (app_of b) (replay_shape ∷ explain_shape ∷ [])
    → app_of d ≡ with_all (app_of c) (serve_shape ∷ run_shape forms ∷ []) → app_of d ≡ program_app (commands_with forms)
all_of a b c d forms first checks tapes callers =
    callers ∙ ap (λ e. with_all e (serve_shape ∷ run_shape forms ∷ [])) (tapes
    ∙ ap (λ e. with_all e (replay_shape ∷ explain_shape ∷ [])) (checks ∙ ap (λ e. with_all e (check_shape ∷ [])) first))

pub whole : (a b c d : Command) → app_of a ≡ program_app [] → AddsShapes (check_shape ∷ []) a b → AddsShapes (replay_shape ∷ explain_shape ∷ []) b c
    → AddsCallers c d → IsProgram d
whole a b c d first checks tapes callers =
    record { forms = callers.0; forms_are = callers.1; app = all_of a b c d callers.0 first checks.0 tapes.0 callers.2.0 }
