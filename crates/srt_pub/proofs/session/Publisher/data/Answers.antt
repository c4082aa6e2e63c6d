use Rattle.srt_pub.proofs.session.Publisher.data.Goals as goal
use Rattle.srt_pub.proofs.session.Publisher.data.Goals.{After-receive}
use Rattle.std.proofs.Common.{◌≡◌, ℕ, subst, arith}
use Rattle.srt_types.specs.Lift.{stamped_from}
use Rattle.srt_pub.specs.Changes.{HearsAt, data_from}
use Rattle.srt_pub.specs.Publishing.{took}
use Rattle.srt_pub.specs.Stands.{StandsFor}

-- only an unencrypted packet is received
heard : (c : After-receive)
    → HearsAt c.args.now c.args.stamp c.args.self.now c.receive.new.self
    (λ initial. data_from initial c.args.packet.word c.args.packet.encryption c.args.packet.payload.bytes.now)
heard c terms initial opening first caller time m n h =
    let zero : 0 ≡ c.args.packet.encryption = omega (arith, c.if-packet-ne0.false) in
    subst
    (λ (x : ℕ). StandsFor terms initial opening first caller c.receive.new.self
    (took terms time (stamped_from first c.args.stamp) (data_from initial c.args.packet.word x c.args.packet.payload.bytes.now) m))
    zero (c.receive.ensures.stands terms initial opening first caller time m n h)

pub returns-then-lost-clause-stands : goal.returns-then-lost-clause-stands
returns-then-lost-clause-stands c = heard (goal.at.returns-then-lost-clause-stands c).After-receive

pub returns-else-lost-clause-stands : goal.returns-else-lost-clause-stands
returns-else-lost-clause-stands c = heard (goal.at.returns-else-lost-clause-stands c).After-receive
