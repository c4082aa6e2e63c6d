use Rattle.std.proofs.Common.{◌<◌, length, get_or, sym, arith}
use Rattle.std.proofs.lemmas.List.{get_or_default}
use Rattle.srt_route.specs.Ledgers.{closed_cause}
use Rattle.srt_route.proofs.stored.Stored.{some_item}
use Rattle.srt_route.proofs.steps.Noting.{none_noted, one_noted, all_noted}
use Rattle.srt_route.proofs.ledger.Ledger.note_closed.Goals as goal

pub loop-at-init : goal.loop-at-init
loop-at-init c = none_noted closed_cause c.args.clock c.args.table.now c.args.self.now

pub loop-at-preserved : goal.loop-at-preserved
loop-at-preserved c =
    let inside : c.loop-at.at < length c.args.table.now.seats.items = omega (arith, c.loop-at-test.true, c.len-at-end.ensures) in
    let d = some_item c.args.table.now.seats.items c.loop-at.at inside in
    one_noted closed_cause c.args.clock c.loop-at.at c.args.table.now c.args.self.now c.loop-at.self c.note.new.self
    (get_or c.args.table.now.seats.items c.loop-at.at d) c.loop-at.invariant inside
    (sym (get_or_default c.args.table.now.seats.items c.loop-at.at (get_or c.args.table.now.seats.items c.loop-at.at d) d inside))
    c.note.ensures

pub returns : goal.returns
returns c =
    all_noted closed_cause c.args.clock c.loop-at.at c.args.table.now c.args.self.now c.loop-at.self c.loop-at.invariant
    (omega (arith, c.loop-at-test.false, c.len-at-end.ensures))
