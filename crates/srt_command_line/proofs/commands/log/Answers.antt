use Rattle.std.proofs.Common.{ap, ◌∙◌, ◌≡◌, Some}
use Rattle.srt_command_line.specs.Commands.{names_in}
use Rattle.srt_command_line.proofs.commands.log.Goals as goal

pub returns-clause-form : goal.returns-clause-form
returns-clause-form c =
    let given = c.value_parser.ensures.given in
    let kept : c.help.result.value_parser ≡ c.value_parser.result.value_parser = ap (λ a. a.value_parser) c.help.ensures in
    ap names_in kept ∙ ap names_in given.1 ∙ ap (λ q. names_in (Some q)) given.2
