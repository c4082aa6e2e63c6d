use Rattle.std.proofs.Common.{◌≡◌, ◌∙◌, None, Some, [], refl, sym, ap, subst}
use Rattle.srt_types.specs.Given.{given}
use Rattle.srt_packet.specs.declared.reading.Kind.{Kind}
use Rattle.srt_packet.specs.Grammar.{Handshake}
use Rattle.srt_packet.specs.View.{body_of, packet_of}
use Rattle.srt_route.specs.declared.secured.Verdict.{Verdict}
use Rattle.srt_route.specs.Conclusions.{conclusion_in}
use Rattle.srt_route.specs.Route.{concludes}
use Rattle.srt_route.specs.Tables.{written_of}
use Rattle.srt_route.specs.inside.Secured.{ConcludesAs, CountsAs}
use Rattle.srt_route.proofs.steps.Securing.{conclusion_heard, ignored_packet, plain_is, plain_secured, repeat_secured}
use Rattle.srt_route.proofs.steps.Taking.{no_conclusion}
use Rattle.srt_route.proofs.secured.to_secured_destination.Goals as goal

pub returns-then-packet-ne0-clause-secured : goal.returns-then-packet-ne0-clause-secured
returns-then-packet-ne0-clause-secured c = c.to_secured_session.ensures.secured

pub returns-in_default : goal.returns-in_default
returns-in_default c =
    record {
      secured = λ e index ss keys bytes is are has here.
          ignored_packet e index c.args.arrival.clock c.args.arrival.peer (packet_of c.args.packet.now) bytes ss keys c.args.keys.now c.args.table.now
          c.args.ledger.now here c.if-packet-ne0.false (no_conclusion c.args.packet.now.kind c.in_default.not-Handshake) is are;
      sums = ([], refl);
    }

pub returns-in_default-conclusion_in-clause-secured : goal.returns-in_default-conclusion_in-clause-secured
returns-in_default-conclusion_in-clause-secured c e index ss keys bytes is are has here =
    let none : concludes (body_of c.args.packet.now.kind) ≡ None =
    ap (λ (k : Kind). concludes (body_of k)) c.in-Handshake.is ∙ (sym c.conclusion_in.ensures.value ∙ c.in_default-conclusion_in.is) in
    ignored_packet e index c.args.arrival.clock c.args.arrival.peer (packet_of c.args.packet.now) bytes ss keys c.args.keys.now c.args.table.now
    c.args.ledger.now here c.if-packet-ne0.false none is are

pub returns-in-Repeats-clause-secured : goal.returns-in-Repeats-clause-secured
returns-in-Repeats-clause-secured c e index ss keys bytes is are has here =
    let arrival = c.args.arrival in
    let p = packet_of c.args.packet.now in
    let info = c.in-Handshake.info.now in
    let body : body_of c.args.packet.now.kind ≡ Handshake info = ap body_of c.in-Handshake.is in
    let reads : conclusion_in info ≡ Some c.in-Some.c = sym c.conclusion_in.ensures.value ∙ c.in-Some.is in
    let taken =
    subst
    (λ (v : Verdict). ConcludesAs v arrival c.in-Some.c c.args.table.now c.conclude_as-answered.new.table
    (written_of (given c.conclude_as-answered.result c.conclude_as-answered.new.reply)))
    c.in-Repeats.is c.conclude_as-answered.ensures.taken in
    let counts =
    subst (λ (v : Verdict). CountsAs v arrival c.in-Some.c c.args.table.now c.args.ledger.now c.conclude_as-answered.new.ledger)
    c.in-Repeats.is c.conclude_as-answered.ensures.tally in
    conclusion_heard e index arrival p bytes info c.in-Some.c ss keys c.judge-verdict.result c.conclude_as-answered.new.table c.judge-verdict.new.keys
    (written_of (given c.conclude_as-answered.result c.repeat_request.new.reply)) c.args.ledger.now c.conclude_as-answered.new.ledger here
    c.if-packet-ne0.false body reads (c.judge-verdict.ensures.judged e index ss keys is are)
    (repeat_secured e index arrival p bytes info c.in-Some.c ss keys c.in-Repeats.slot c.args.table.now c.conclude_as-answered.new.table
    c.judge-verdict.new.keys c.conclude_as-answered.result c.conclude_as-answered.new.reply c.repeat_request.new.reply c.args.ledger.now
    c.conclude_as-answered.new.ledger c.if-packet-ne0.false body reads c.requires.stamp has is c.in-Repeats.ensures.inside
    (c.in-Repeats.ensures.judged e index ss keys is are) (c.in-Repeats.ensures.repeats e index ss is) (taken e index ss is)
    c.conclude_as-answered.ensures.ended (counts e index ss is) c.repeat_request.ensures)

pub returns-in_default-verdict : goal.returns-in_default-verdict
returns-in_default-verdict c =
    let arrival = c.args.arrival in
    let p = packet_of c.args.packet.now in
    let info = c.in-Handshake.info.now in
    let body : body_of c.args.packet.now.kind ≡ Handshake info = ap body_of c.in-Handshake.is in
    let reads : conclusion_in info ≡ Some c.in-Some.c = sym c.conclusion_in.ensures.value ∙ c.in-Some.is in
    record {
      secured = λ e index ss keys bytes is are has here.
          conclusion_heard e index arrival p bytes info c.in-Some.c ss keys c.judge-verdict.result c.conclude_as-answered.new.table
          c.judge-verdict.new.keys (written_of (given c.conclude_as-answered.result c.conclude_as-answered.new.reply)) c.args.ledger.now
          c.conclude_as-answered.new.ledger here c.if-packet-ne0.false body reads (c.judge-verdict.ensures.judged e index ss keys is are)
          (plain_secured e index arrival p bytes info c.in-Some.c ss keys c.judge-verdict.result c.conclude_as-answered.new.table c.judge-verdict.new.keys
          (written_of (given c.conclude_as-answered.result c.conclude_as-answered.new.reply)) c.args.ledger.now c.conclude_as-answered.new.ledger
          c.if-packet-ne0.false body reads c.requires.stamp (c.judge-verdict.ensures.judged e index ss keys is are)
          (c.conclude_as-answered.ensures.taken e index ss is) c.conclude_as-answered.ensures.ended (c.conclude_as-answered.ensures.tally e index ss is)
          (plain_is c.judge-verdict.result c.in_default-verdict.not-Repeats));
      sums = ([], c.conclude_as-answered.ensures.ended.1);
    }
