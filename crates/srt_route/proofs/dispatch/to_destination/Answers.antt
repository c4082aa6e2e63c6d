use Rattle.std.proofs.Common.{◌≡◌, Bool, cond, map, [], refl, subst, arith}
use Rattle.srt_types.specs.Given.{given}
use Rattle.srt_packet.specs.View.{packet_of}
use Rattle.srt_route.specs.Route.{arrived, concludes, sent, without_destination}
use Rattle.srt_route.specs.Tables.{IsTable, written_of}
use Rattle.srt_route.proofs.steps.Taking.{no_conclusion}
use Rattle.srt_route.proofs.steps.Tallied.{destined, destined_tally, has_destination, undestined}
use Rattle.srt_route.proofs.dispatch.to_destination.Goals as goal

pub returns-then-packet-ne0-clause-table : goal.returns-then-packet-ne0-clause-table
returns-then-packet-ne0-clause-table c e index sessions body =
    let packet = packet_of c.args.packet.now in
    let arrival = c.args.arrival in
    subst
    (λ (b : Bool).
    IsTable e index arrival.clock c.to_session.new.table
    (cond b (without_destination e index arrival.clock arrival.peer packet.stamp sessions (concludes packet.body))
    (arrived e index arrival.clock arrival.peer packet sessions)).sessions)
    (has_destination packet (λ none. omega (arith, none, c.if-packet-ne0.true))) (c.to_session.ensures.taken e index sessions body).table_is

pub returns-then-packet-ne0-clause-answer : goal.returns-then-packet-ne0-clause-answer
returns-then-packet-ne0-clause-answer c e index sessions body =
    let packet = packet_of c.args.packet.now in
    let arrival = c.args.arrival in
    subst
    (λ (b : Bool).
    written_of (given c.to_session.result c.to_session.new.reply)
    ≡ map sent
    (cond b (without_destination e index arrival.clock arrival.peer packet.stamp sessions (concludes packet.body))
    (arrived e index arrival.clock arrival.peer packet sessions)).answers)
    (has_destination packet (λ none. omega (arith, none, c.if-packet-ne0.true))) (c.to_session.ensures.taken e index sessions body).replies_are

pub returns-then-packet-ne0-clause-ends : goal.returns-then-packet-ne0-clause-ends
returns-then-packet-ne0-clause-ends c =
    destined c.args.arrival.clock c.args.arrival.peer (packet_of c.args.packet.now) c.args.table.now c.args.ledger.now
    c.to_session.new.ledger (λ none. omega (arith, none, c.if-packet-ne0.true)) c.to_session.ensures.ends

pub returns-then-packet-ne0-clause-tally : goal.returns-then-packet-ne0-clause-tally
returns-then-packet-ne0-clause-tally c =
    destined_tally c.args.arrival.clock c.args.arrival.peer (packet_of c.args.packet.now) c.args.table.now c.args.ledger.now
    c.to_session.new.ledger (λ none. omega (arith, none, c.if-packet-ne0.true)) c.to_session.ensures.counts

pub returns-in_default : goal.returns-in_default
returns-in_default c =
    let none = no_conclusion c.args.packet.now.kind c.in_default.not-Handshake in
    record {
      table = λ e index ss is. rw (c.if-packet-ne0.false, none) is;
      answer = λ e index ss is. rw (c.if-packet-ne0.false, none) refl;
      ends = undestined c.args.arrival.clock c.args.arrival.peer (packet_of c.args.packet.now) c.args.table.now c.args.ledger.now c.args.ledger.now
          (omega (arith, c.if-packet-ne0.false)) (refl, refl);
      tally = λ e index ss is. rw (c.if-packet-ne0.false, none) refl;
      sums = ([], refl);
    }

pub returns-in_default-conclusion_in-clause-ends : goal.returns-in_default-conclusion_in-clause-ends
returns-in_default-conclusion_in-clause-ends c =
    undestined c.args.arrival.clock c.args.arrival.peer (packet_of c.args.packet.now) c.args.table.now c.args.ledger.now c.args.ledger.now
    (omega (arith, c.if-packet-ne0.false)) (refl, refl)

pub returns-clause-ends : goal.returns-clause-ends
returns-clause-ends c =
    undestined c.args.arrival.clock c.args.arrival.peer (packet_of c.args.packet.now) c.args.table.now c.args.ledger.now c.conclude.new.ledger
    (omega (arith, c.if-packet-ne0.false)) c.conclude.ensures.ended
