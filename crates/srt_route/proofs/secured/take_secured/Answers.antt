use Rattle.std.proofs.Common.{◌≡◌, Option, None, Some, List, ℕ, Result, Err, [], ◌++◌, refl, sym, ap, subst, ◌∙◌}
use Rattle.std.specs.Prelude.{option_map}
use Rattle.srt_types.specs.Given.{given}
use Rattle.srt_packet.specs.View.{packet_of}
use Rattle.srt_packet.specs.Grammar.{Packet}
use Rattle.srt_packet.specs.declared.reading.PacketFault.{PacketFault}
use Rattle.srt_route.specs.KeyRefresh.{request_in}
use Rattle.srt_route.specs.Ends.{kept_of, read_ending}
use Rattle.srt_route.specs.Route.{as_before, packet_judged, read_judged, read_taken}
use Rattle.srt_route.specs.Tables.{written_of}
use Rattle.srt_route.specs.Tallies.{read_tally}
use Rattle.srt_route.specs.inside.Secured.{IsHeard, IsSecured}
use Rattle.srt_route.proofs.steps.Notified.{none_notified}
use Rattle.srt_route.proofs.secured.take_secured.Goals as goal

pub returns-in-Some-clause-secured : goal.returns-in-Some-clause-secured
returns-in-Some-clause-secured c e index ss keys is are has =
    let clock = c.args.clock in
    let peer = c.args.datagram.peer in
    let bytes : List ℕ = c.args.datagram.head.now ++ c.args.datagram.body.now in
    let p = packet_of c.in-Ok.packet in
    let asks : Some c.in-Some.contents.now ≡ request_in bytes =
    sym (ap (option_map (λ contents. contents.now)) c.in-Some.is) ∙ c.request_in.ensures.contents in
    let did = c.take_request in
    subst
    (λ (r : Result Packet PacketFault). IsHeard e index clock peer bytes ss (read_judged e index clock peer r bytes ss keys) did.new.table did.new.keys
    (written_of (given did.result did.new.reply)) c.args.ledger.now did.new.ledger)
    c.in-Ok.ensures.value
    (subst
    (λ (request : Option (List ℕ)). IsHeard e index clock peer bytes ss (packet_judged e index clock peer request p bytes ss keys) did.new.table did.new.keys
    (written_of (given did.result did.new.reply)) c.args.ledger.now did.new.ledger)
    asks (did.ensures.secured e index ss keys bytes is are has (sym c.in-Ok.ensures.value)))

pub returns-in-None-clause-secured : goal.returns-in-None-clause-secured
returns-in-None-clause-secured c e index ss keys is are has =
    let clock = c.args.clock in
    let peer = c.args.datagram.peer in
    let bytes : List ℕ = c.args.datagram.head.now ++ c.args.datagram.body.now in
    let p = packet_of c.in-Ok.packet in
    let asks : None ≡ request_in bytes = sym (ap (option_map (λ contents. contents.now)) c.in-None.is) ∙ c.request_in.ensures.contents in
    let did = c.to_secured_destination in
    subst
    (λ (r : Result Packet PacketFault). IsHeard e index clock peer bytes ss (read_judged e index clock peer r bytes ss keys) did.new.table did.new.keys
    (written_of (given did.result did.new.reply)) c.args.ledger.now did.new.ledger)
    c.in-Ok.ensures.value
    (subst
    (λ (request : Option (List ℕ)). IsHeard e index clock peer bytes ss (packet_judged e index clock peer request p bytes ss keys) did.new.table did.new.keys
    (written_of (given did.result did.new.reply)) c.args.ledger.now did.new.ledger)
    asks (did.ensures.secured e index ss keys bytes is are has (sym c.in-Ok.ensures.value)))

pub returns-in-Err-clause-secured : goal.returns-in-Err-clause-secured
returns-in-Err-clause-secured c e index ss keys is are has =
    let clock = c.args.clock in
    let peer = c.args.datagram.peer in
    let bytes : List ℕ = c.args.datagram.head.now ++ c.args.datagram.body.now in
    let kept = kept_of c.args.ledger.now in
    subst
    (λ (r : Result Packet PacketFault). IsHeard e index clock peer bytes ss (read_judged e index clock peer r bytes ss keys) c.args.table.now
    c.args.keys.now [] c.args.ledger.now c.args.ledger.now)
    c.in-Err.ensures.value
    (subst
    (λ (r : Result Packet PacketFault). IsSecured e index clock ss (as_before keys) (read_taken e index clock peer r ss) (read_ending e index clock peer r ss)
    (read_tally e peer r ss) c.args.table.now c.args.keys.now [] c.args.ledger.now c.args.ledger.now)
    c.in-Err.ensures.value
    (record {
      table_is = is;
      replies_are = refl;
      keys_are = are;
      ends = none_notified e index (read_ending e index clock peer (Err c.in-Err.field-0) ss) clock ss kept kept (λ at s found. refl) (λ at. refl) refl;
      tally = refl;
    }))
