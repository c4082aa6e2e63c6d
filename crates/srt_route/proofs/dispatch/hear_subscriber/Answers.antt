use Rattle.std.proofs.Common.{◌-◌, ◌∙◌, sym, ap, subst}
use Rattle.srt_packet.specs.View.{packet_of}
use Rattle.srt_sub.specs.Heard.{heard_from}
use Rattle.srt_sub.specs.Stands.{StandsFor}
use Rattle.srt_sub.specs.Subscribing.{expired, took}
use Rattle.srt_sub.specs.declared.session.Subscriber.{Subscriber}
use Rattle.srt_route.specs.declared.seat.Seat.{Seat}
use Rattle.srt_route.specs.Buffers.{datagrams_to}
use Rattle.srt_route.proofs.dispatch.hear_subscriber.Goals as goal

pub returns-clause-subscriber : goal.returns-clause-subscriber
returns-clause-subscriber c terms initial opening caller last m h later =
    subst (λ (x : Subscriber). StandsFor terms initial opening caller c.args.arrival.clock x
    (took (c.args.arrival.clock - opening) (heard_from initial (packet_of c.args.packet.now).body)
    (expired terms (c.args.arrival.clock - opening) m)))
    (sym (ap (λ (z : Seat). z.subscriber) c.keep_or_end.ensures))
    (c.datagram-took.ensures.stands terms initial opening caller last m h later)

pub returns-clause-answer : goal.returns-clause-answer
returns-clause-answer c terms initial opening caller last m h later =
    c.answer_of.ensures ∙ ap (datagrams_to c.args.arrival.peer) (c.datagram-took.ensures.answer terms initial opening caller last m h later)
