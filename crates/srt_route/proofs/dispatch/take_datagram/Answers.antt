use Rattle.std.proofs.Common.{Result, Err, refl, subst}
use Rattle.srt_packet.specs.Grammar.{Packet}
use Rattle.srt_packet.specs.declared.reading.PacketFault.{PacketFault}
use Rattle.srt_route.specs.Ends.{Ends, EndsAre, kept_of, read_ending}
use Rattle.srt_route.specs.Tallies.{Tallies, read_tally}
use Rattle.srt_route.proofs.steps.Notified.{none_notified}
use Rattle.srt_route.proofs.dispatch.take_datagram.Goals as goal

pub returns-in-Ok-clause-ends : goal.returns-in-Ok-clause-ends
returns-in-Ok-clause-ends c =
    subst
    (λ (r : Result Packet PacketFault).
    Ends c.args.receipt.clock (λ e index. read_ending e index c.args.receipt.clock c.args.receipt.peer r) c.args.table.now c.args.ledger.now
    c.to_destination.new.ledger)
    c.in-Ok.ensures.value c.to_destination.ensures.ends

pub returns-in-Ok-clause-tally : goal.returns-in-Ok-clause-tally
returns-in-Ok-clause-tally c =
    subst
    (λ (r : Result Packet PacketFault).
    Tallies c.args.receipt.clock (λ e sessions. read_tally e c.args.receipt.peer r sessions) c.args.table.now c.args.ledger.now c.to_destination.new.ledger)
    c.in-Ok.ensures.value c.to_destination.ensures.tally

pub returns-in-Err-clause-ends : goal.returns-in-Err-clause-ends
returns-in-Err-clause-ends c e index sessions is =
    let kept = kept_of c.args.ledger.now in
    subst
    (λ (r : Result Packet PacketFault).
    EndsAre e index (read_ending e index c.args.receipt.clock c.args.receipt.peer r sessions) c.args.receipt.clock sessions kept kept)
    c.in-Err.ensures.value
    (none_notified e index (read_ending e index c.args.receipt.clock c.args.receipt.peer (Err c.in-Err.field-0) sessions) c.args.receipt.clock sessions
    kept kept (λ at s found. refl) (λ at. refl) refl)
