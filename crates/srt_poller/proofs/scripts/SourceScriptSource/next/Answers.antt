use Rattle.std.proofs.Common.{sym, ap, ◌∙◌, Some}
use Rattle.srt_poller.specs.declared.scripts.SourceStep.TheVariants.{Datagram, Empty, ReadFails}
use Rattle.srt_poller.proofs.Scripted.{given_more}
use Rattle.srt_poller.proofs.scripts.SourceScriptSource.next.Goals as goal

pub returns-in-Some-Empty-clause-records : goal.returns-in-Some-Empty-clause-records
returns-in-Some-Empty-clause-records c =
    ap Some (given_more c.args.self.now.steps.items c.args.self.now.at Empty (sym c.in-Some-Empty.ensures ∙ ap Some c.in-Some-Empty.field-0-is))

pub returns-in-Some-ReadFails-clause-records : goal.returns-in-Some-ReadFails-clause-records
returns-in-Some-ReadFails-clause-records c =
    ap Some (given_more c.args.self.now.steps.items c.args.self.now.at ReadFails (sym c.in-Some-ReadFails.ensures ∙ ap Some c.in-Some-ReadFails.field-0-is))

pub returns-in-Some-Datagram-clause-records : goal.returns-in-Some-Datagram-clause-records
returns-in-Some-Datagram-clause-records c =
    rw (c.copy_to-len.ensures.bytes, c.min-moment.ensures)
    (ap Some
    (given_more c.args.self.now.steps.items c.args.self.now.at (Datagram c.in-Some-Datagram.datagram)
    (sym c.in-Some-Datagram.ensures ∙ ap Some c.in-Some-Datagram.field-0-is)))
