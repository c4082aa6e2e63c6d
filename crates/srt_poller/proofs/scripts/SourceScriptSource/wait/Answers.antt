use Rattle.std.proofs.Common.{sym, ap, ◌∙◌, Some, append-nil}
use Rattle.srt_poller.proofs.Scripted.{given_more}
use Rattle.srt_poller.specs.declared.scripts.SourceStep.TheVariants.{Wait, WaitFails}
use Rattle.srt_poller.proofs.scripts.SourceScriptSource.wait.Goals as goal

pub returns-in-Some-WaitFails-clause-records : goal.returns-in-Some-WaitFails-clause-records
returns-in-Some-WaitFails-clause-records c =
    ap Some
    (given_more c.args.self.now.steps.items c.args.self.now.at WaitFails
    (sym c.in-Some-WaitFails.ensures ∙ ap Some c.in-Some-WaitFails.field-0-is)
    ∙ append-nil _)

pub returns-in-Some-Wait-clause-records : goal.returns-in-Some-Wait-clause-records
returns-in-Some-Wait-clause-records c =
    ap Some (given_more c.args.self.now.steps.items c.args.self.now.at Wait (sym c.in-Some-Wait.ensures ∙ ap Some c.in-Some-Wait.field-0-is) ∙ append-nil _)
