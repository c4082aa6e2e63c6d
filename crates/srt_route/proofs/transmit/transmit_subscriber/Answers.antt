use Rattle.std.proofs.Common.{subst, ◌-◌}
use Rattle.srt_route.specs.Waits.{replies_of}
use Rattle.srt_sub.specs.Subscribing as subscribing
use Rattle.srt_sub.specs.Stands as subscribers
use Rattle.srt_route.proofs.steps.Saying.{telling_begins, telling_more, telling_ends, never_so_many}
use Rattle.srt_route.proofs.transmit.transmit_subscriber.Goals as goal

pub loop-turn-init : goal.loop-turn-init
loop-turn-init c terms initial opening caller m stands fresh =
    telling_begins terms initial opening caller c.args.clock c.args.recent c.args.peer c.args.subscriber.now m (replies_of c.args.waiting.now) _ stands
    fresh

pub loop-turn-preserved : goal.loop-turn-preserved
loop-turn-preserved c terms initial opening caller m stands fresh =
    let h = c.loop-turn.invariant terms initial opening caller m stands fresh in
    telling_more terms initial opening caller c.args.clock c.args.recent c.args.peer c.emit.new.self m (replies_of c.args.waiting.now)
    (replies_of c.loop-turn.waiting) (replies_of c.put_to.new.self) _ _ _ c.loop-turn.turn h.gone h.left c.emit.new.packet h.whole h.count
    h.said
    (c.emit.ensures.some c.if-not-emit.false terms initial opening caller m h.left h.emitting) c.put_to.ensures

pub returns-then-not-emit-clause-stands : goal.returns-then-not-emit-clause-stands
returns-then-not-emit-clause-stands c terms initial opening caller m stands fresh =
    let h = c.loop-turn.invariant terms initial opening caller m stands fresh in
    subst
    (λ (k : subscribing.Subscribing).
    subscribers.StandsFor terms initial opening caller c.args.clock c.emit.new.self (subscribing.reported terms (c.args.clock - opening) c.args.recent k))
    fresh
    (c.emit.ensures.none c.if-not-emit.true terms initial opening caller m h.left h.emitting).1

pub returns-then-not-emit-clause-said : goal.returns-then-not-emit-clause-said
returns-then-not-emit-clause-said c terms initial opening caller m stands fresh =
    let h = c.loop-turn.invariant terms initial opening caller m stands fresh in
    telling_ends terms initial opening caller c.args.clock c.args.recent c.args.peer m (replies_of c.args.waiting.now) (replies_of c.loop-turn.waiting) _
    _ h.gone h.left h.whole (c.emit.ensures.none c.if-not-emit.true terms initial opening caller m h.left h.emitting).0 h.said

pub returns-clause-stands : goal.returns-clause-stands
returns-clause-stands c terms initial opening caller m stands fresh =
    absurd (never_so_many terms initial opening caller c.args.clock c.args.recent c.args.peer c.loop-turn.subscriber m (replies_of c.args.waiting.now)
    (replies_of c.loop-turn.waiting) _ _ c.loop-turn.turn (c.loop-turn.invariant terms initial opening caller m stands fresh)
    c.loop-turn-test.false)

pub returns-clause-said : goal.returns-clause-said
returns-clause-said c terms initial opening caller m stands fresh =
    absurd (never_so_many terms initial opening caller c.args.clock c.args.recent c.args.peer c.loop-turn.subscriber m (replies_of c.args.waiting.now)
    (replies_of c.loop-turn.waiting) _ _ c.loop-turn.turn (c.loop-turn.invariant terms initial opening caller m stands fresh)
    c.loop-turn-test.false)
