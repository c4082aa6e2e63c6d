use Rattle.std.proofs.lemmas.Result.{IfOk-weaker}
use Rattle.srt_command_line.specs.Commands.{IsProgram}
use Rattle.srt_command_line.proofs.Programs.{whole}
use Rattle.srt_command_line.proofs.commands.command.Goals as goal

pub returns : goal.returns
returns c =
    IfOk-weaker c.with_callers.result _ IsProgram (λ r h. whole c.in_ok-program.field-0 c.in_ok-all.all c.in_ok-all-2.all r c.in_ok-program.ensures.0
    c.in_ok-all.ensures c.in_ok-all-2.ensures h) c.with_callers.ensures
