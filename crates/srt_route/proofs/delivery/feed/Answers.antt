use Rattle.std.proofs.Common.{refl, sym, subst, arith}
use Rattle.srt_route.specs.declared.seat.Seat.{Seat}
use Rattle.srt_route.proofs.stored.Kept.{none_yet, one_more}
use Rattle.srt_route.proofs.steps.Feeding.{Changes, Feeds}
use Rattle.srt_route.proofs.steps.Passing.{all_fed}
use Rattle.srt_route.proofs.delivery.feed.Goals as goal

pub loop-at-init : goal.loop-at-init
loop-at-init c = none_yet (Changes (Feeds c.args.clock c.args.payload.now)) c.args.seats.now

pub loop-at-preserved : goal.loop-at-preserved
loop-at-preserved c =
    one_more (Changes (Feeds c.args.clock c.args.payload.now)) c.loop-at.at c.args.seats.now c.loop-at.seats _ c.index-seats-at.result
    c.feed_seat.new.seat c.loop-at.invariant c.loop-at-test.true c.index-seats-at.is
    (subst (λ (x : Seat). Changes (Feeds c.args.clock c.args.payload.now) x c.feed_seat.new.seat) (sym c.index-seats-at.is)
    (record {
      count_is = c.feed_seat.ensures.generation;
      session_is = c.feed_seat.ensures.session;
      stays = c.feed_seat.ensures.none;
      changes = c.feed_seat.ensures.some;
    }))
    refl

pub returns : goal.returns
returns c = all_fed c.args.clock c.args.payload.now c.loop-at.at c.args.seats.now c.loop-at.seats c.loop-at.invariant (omega (arith, c.loop-at-test.false))
