use Rattle.std.proofs.Common.{arith}
use Rattle.srt_serve.proofs.Moments.{was_offered, first_more, all_first}
use Rattle.srt_serve.proofs.ticking.tick_each.Goals as goal

pub loop-end-preserved : goal.loop-end-preserved
loop-end-preserved g c =
    first_more g.E.TickEnd.inbox g.E.TickEnd.tried c.loop-end.end-index _ _ _ c.end-item.result _ c.loop-end.invariant
    (was_offered g.E.TickEnd.inbox g.E.TickEnd.tried _ _ _ _ c.offer_tick.ensures.accepted c.offer_tick.ensures.full
    c.offer_tick.ensures.records)

pub returns : goal.returns
returns g c =
    all_first g.E.TickEnd.inbox g.E.TickEnd.tried c.loop-end.end-index _ _ _ c.loop-end.invariant
    (omega (arith, c.loop-end-test.false, c.loop-end.auto))
