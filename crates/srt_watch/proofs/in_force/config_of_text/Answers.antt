use Rattle.std.proofs.Common.{subst, sym}
use Rattle.srt_watch.proofs.ReadTexts.{is_config, has_faults}
use Rattle.srt_watch.specs.Configs.{HasFaults}
use Rattle.srt_watch.proofs.in_force.config_of_text.Goals as goal

pub returns-in-Ok-explain-clause-config : goal.returns-in-Ok-explain-clause-config
returns-in-Ok-explain-clause-config c = is_config _ c.in-Ok-explain.explained c.in-Ok-explain.ensures.gives c.in-Ok-explain.ensures.no_text

pub returns-in-Err-clause-wrong : goal.returns-in-Err-clause-wrong
returns-in-Err-clause-wrong c =
    subst (λ f. HasFaults c.args.content.now f) (sym c.reason_of.ensures.of)
    (has_faults c.args.content.now c.in-Err.faults c.in-Err.ensures.all c.in-Err.ensures.no_text)
