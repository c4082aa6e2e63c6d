use Rattle.std.proofs.Common.{Option, None, Some, [], ◌∷◌, sym, ap, subst}
use Rattle.srt_types.specs.Given.{given}
use Rattle.srt_types.specs.Items.{Datagram}
use Rattle.srt_packet.specs.View.{packet_of}
use Rattle.srt_route.specs.declared.key_refresh.KeyResponse.{KeyResponse}
use Rattle.srt_route.specs.Route.{Judged, packet_judged}
use Rattle.srt_route.specs.Tables.{written_of}
use Rattle.srt_route.specs.inside.Secured.{IsAnswered, IsHeard, response_of}
use Rattle.srt_route.proofs.steps.Refreshing.{request_heard}
use Rattle.srt_route.proofs.secured.take_request.Goals as goal

pub returns-in-Some-clause-secured : goal.returns-in-Some-clause-secured
returns-in-Some-clause-secured c e index ss keys bytes is are has here =
    let p = packet_of c.args.request.now.packet in
    let clock = c.args.arrival.clock in
    let peer = c.args.arrival.peer in
    let contents = c.args.request.now.contents.now in
    let asked =
    subst
    (λ (r : Option KeyResponse). IsAnswered e keys (packet_judged e index clock peer (Some contents) p bytes ss keys)
    (packet_judged e index clock peer None p bytes ss keys) c.answer_request.new.keys contents r)
    c.in-Some.is (c.answer_request.ensures.answered e index ss keys bytes is are has) in
    let did = c.to_destination in
    request_heard e index clock peer contents p bytes ss keys c.answer_request.new.keys did.new.table _ c.args.ledger.now did.new.ledger
    (response_of c.in-Some.response contents) here asked.0 asked.1 (did.ensures.table e index ss is) (ap (λ (d : Datagram). d ∷ []) c.write.ensures)
    (did.ensures.ends e index ss is) (did.ensures.tally e index ss is)

pub returns-in-None-clause-secured : goal.returns-in-None-clause-secured
returns-in-None-clause-secured c e index ss keys bytes is are has here =
    let p = packet_of c.args.request.now.packet in
    let clock = c.args.arrival.clock in
    let peer = c.args.arrival.peer in
    let contents = c.args.request.now.contents.now in
    let asked =
    subst
    (λ (r : Option KeyResponse). IsAnswered e keys (packet_judged e index clock peer (Some contents) p bytes ss keys)
    (packet_judged e index clock peer None p bytes ss keys) c.answer_request.new.keys contents r)
    c.in-None.is (c.answer_request.ensures.answered e index ss keys bytes is are has) in
    let did = c.to_secured_destination in
    subst
    (λ (j : Judged). IsHeard e index clock peer bytes ss j did.new.table did.new.keys (written_of (given did.result did.new.reply)) c.args.ledger.now
    did.new.ledger)
    (sym asked.0) (did.ensures.secured e index ss keys bytes is asked.1 has here)
