use Rattle.srt_pub.proofs.session.Publisher.room_in_order.Goals as goal
use Rattle.std.proofs.Common.{◌+◌, subst, arith}
use Rattle.srt_types.specs.declared.shared.Mode.{Mode}
use Rattle.srt_recvbuf.specs.Receiving.{ack_point}
use Rattle.srt_recvbuf.proofs.Points.{ack_points}
use Rattle.srt_pub.specs.Stands.{IsOrderly}
use Rattle.srt_pub.proofs.Windows.{beyond}
use Rattle.srt_pub.proofs.Deliveries.{buffer_none, buffer_next}

pub returns-then-steps-eq0 : goal.returns-then-steps-eq0
returns-then-steps-eq0 c terms initial opening stamp caller m h b time =
    let r = m.receiving in
    let k = ack_points terms.width r in
    let s = c.steps.ensures (initial + r.front) (initial + ack_point terms.width r) (omega (arith, k.low)) (omega (arith, k.high, h.narrow))
    (c.front.ensures terms.width initial opening r h.buffer) (c.ack_point.ensures terms.width initial opening r h.buffer) in
    buffer_none terms time c.args.room m b (omega (arith, s, c.if-steps-eq0.true))

pub returns : goal.returns
returns c terms initial opening stamp caller m h b time =
    let r = m.receiving in
    let k = ack_points terms.width r in
    let s = c.steps.ensures (initial + r.front) (initial + ack_point terms.width r) (omega (arith, k.low)) (omega (arith, k.high, h.narrow))
    (c.front.ensures terms.width initial opening r h.buffer) (c.ack_point.ensures terms.width initial opening r h.buffer) in
    buffer_next terms time c.args.room m b (beyond terms.width initial opening c.args.self.now.buffer r h.buffer)
    (subst (λ (d : Mode). IsOrderly d terms.width r) b h.orderly) (omega (arith, s, c.if-steps-eq0.false))
