use Rattle.std.proofs.Common.{sym, ap, ◌∙◌}
use Rattle.srt_config.specs.AllFaults.{faults_seen}
use Rattle.srt_config.specs.FirstFault.{plain_fault}
use Rattle.srt_explain.specs.Misspelled.{is_missing_told}
use Rattle.srt_explain.proofs.Meant.{any_seen}
use Rattle.srt_explain.proofs.misspelled.is_told.Goals as goal

pub returns-in-Missing : goal.returns-in-Missing
returns-in-Missing c =
    c.any_may_be.ensures ∙ any_seen _ _ c.args.before.now
    ∙ sym (ap (λ f. is_missing_told (faults_seen c.args.before.now) c.args.it.now.place (plain_fault f)) c.in-Missing.is)
