use Rattle.std.proofs.Common.{Option, subst, arith}
use Rattle.srt_route.specs.declared.ledger.EndCause.{EndCause}
use Rattle.srt_route.specs.Ledgers.{idle_cause}
use Rattle.srt_route.specs.inside.Notes.{Notes}
use Rattle.srt_route.proofs.steps.Noting.{none_noted, one_noted, all_noted}
use Rattle.srt_route.proofs.ledger.Ledger.note_idle.Goals as goal

pub loop-at-init : goal.loop-at-init
loop-at-init c = none_noted (idle_cause c.args.clock) c.args.clock c.args.table.now c.args.self.now

pub loop-at-preserved : goal.loop-at-preserved
loop-at-preserved c =
    one_noted (idle_cause c.args.clock) c.args.clock c.loop-at.at c.args.table.now c.args.self.now c.loop-at.self c.note.new.self
    c.index.result.now c.loop-at.invariant (omega (arith, c.loop-at-test.true, c.len-at-end.ensures)) c.index.ensures
    (subst (λ (cause : Option EndCause). Notes c.loop-at.at cause c.args.clock c.args.table.now c.loop-at.self c.note.new.self)
    c.end_by_time.ensures c.note.ensures)

pub returns : goal.returns
returns c =
    all_noted (idle_cause c.args.clock) c.args.clock c.loop-at.at c.args.table.now c.args.self.now c.loop-at.self c.loop-at.invariant
    (omega (arith, c.loop-at-test.false, c.len-at-end.ensures))
