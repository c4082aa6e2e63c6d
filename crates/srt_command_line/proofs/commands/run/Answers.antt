use Rattle.std.proofs.Common.{ap, ap₂, ◌∙◌, ◌≡◌, ◌||◌, codes, rules}
use Rattle.std.proofs.lemmas.Result.{IfOk-weaker}
use Rattle.clap.specs.Words.{app_of, new_app, with_rule}
use Rattle.srt_command_line.specs.Commands.{path_rule, option_rule, flag_rule}
use Rattle.srt_command_line.specs.inside.Building.{IsLocal, IsRun}
use Rattle.srt_command_line.proofs.commands.run.Goals as goal

pub returns : goal.returns
returns c =
    let first : app_of c.after_help.result ≡ new_app (codes "run") = search rules in
    let with_path : app_of c.in_ok-arg.field-0 ≡ with_rule (new_app (codes "run")) (path_rule (codes "CONFIG")) =
    c.in_ok-arg.ensures.shape c.config.ensures.1 ∙ ap₂ with_rule first c.config.ensures.0 in
    let with_time : app_of c.in_ok-arg-2.field-0 ≡ with_rule (with_rule (new_app (codes "run")) (path_rule (codes "CONFIG"))) (option_rule (codes "for")) =
    c.in_ok-arg-2.ensures.shape c.duration.ensures.1 ∙ ap₂ with_rule with_path c.duration.ensures.0 in
    let with_flag = c.in_ok-arg-3.ensures.shape c.no_time.ensures.1 ∙ ap₂ with_rule with_time c.no_time.ensures.0 in
    let local : IsLocal c.in_ok-arg-3.field-0 = search rules in
    IfOk-weaker c.arg-4.result _ IsRun (λ r h. (
      c.log.result.value_parser,
      c.log.ensures.form,
      (
        h.shape c.log.ensures.rule.1 ∙ ap₂ with_rule with_flag c.log.ensures.rule.0,
        h.globals ∙ ap₂ (λ a b. a || b) local c.log.ensures.rule.1,
      ),
    )) c.arg-4.ensures
