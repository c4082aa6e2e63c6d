use Rattle.srt_pub.proofs.session.Publisher.datagram.Goals as goal
use Rattle.std.proofs.Common.{◌∙◌, ap, sym, subst}
use Rattle.srt_types.specs.Lift.{stamped_from}
use Rattle.srt_packet.specs.declared.reading.Kind.{Kind}
use Rattle.srt_packet.specs.View.{body_of}
use Rattle.srt_pub.specs.Heard.{heard_from}
use Rattle.srt_pub.specs.Calls.{ended}
use Rattle.srt_pub.specs.Publishing.{took}
use Rattle.srt_pub.specs.Stands.{StandsFor}

pub returns-in-Data-clause-stands : goal.returns-in-Data-clause-stands
returns-in-Data-clause-stands c terms initial opening stamp caller time m n h =
    subst
    (λ (k : Kind). StandsFor terms initial opening stamp caller c.data.new.self
    (took terms time (stamped_from stamp c.args.packet.now.stamp) (heard_from initial (body_of k)) m))
    (sym c.in-Data.is) (c.data.ensures.stands terms initial opening stamp caller time m n h)

pub returns-in-AckAck-clause-stands : goal.returns-in-AckAck-clause-stands
returns-in-AckAck-clause-stands c terms initial opening stamp caller time m n h =
    subst
    (λ (k : Kind). StandsFor terms initial opening stamp caller c.ack_ack.new.self
    (took terms time (stamped_from stamp c.args.packet.now.stamp) (heard_from initial (body_of k)) m))
    (sym c.in-AckAck.is) (c.ack_ack.ensures.stands terms initial opening stamp caller time m n h)

pub returns-in-DropRequest-clause-stands : goal.returns-in-DropRequest-clause-stands
returns-in-DropRequest-clause-stands c terms initial opening stamp caller time m n h =
    subst
    (λ (k : Kind). StandsFor terms initial opening stamp caller c.drop_request.new.self
    (took terms time (stamped_from stamp c.args.packet.now.stamp) (heard_from initial (body_of k)) m))
    (sym c.in-DropRequest.is) (c.drop_request.ensures.stands terms initial opening stamp caller m h)

pub returns-in-Data-clause-end : goal.returns-in-Data-clause-end
returns-in-Data-clause-end c terms initial opening stamp caller m h =
    c.data.ensures.end terms initial opening stamp caller m h ∙ sym (ap (λ (k : Kind). ended terms initial (body_of k) m) c.in-Data.is)
