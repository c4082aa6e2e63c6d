use Rattle.std.proofs.Common.{List, ℕ, ◌++◌, sym, ap, subst}
use Rattle.srt_types.specs.declared.shared.Item.{Item}
use Rattle.srt_types.specs.Items.{Received, input_of}
use Rattle.srt_route.specs.Route.{item_judged}
use Rattle.srt_route.specs.StoredKeys.{AreKeys}
use Rattle.srt_route.specs.inside.Secured.{IsDispatched}
use Rattle.srt_route.proofs.steps.Securing.{datagram_dispatched, passes_dispatched}
use Rattle.srt_route.proofs.secured.dispatch_with_keys.Goals as goal

pub returns-in-Datagram-clause-dispatched : goal.returns-in-Datagram-clause-dispatched
returns-in-Datagram-clause-dispatched c e index ss keys is are has =
    let clock = c.args.event.clock in
    let took = c.take_secured-answered in
    subst
    (λ (i : Item). IsDispatched e index clock ss (input_of i) (item_judged e index clock (input_of i) ss keys) took.new.table took.new.keys
    c.args.waiting.now c.put_if.new.self c.args.ledger.now took.new.ledger)
    (sym c.in-Datagram.is)
    (subst
    (λ (bytes : List ℕ). IsDispatched e index clock ss
    (Received (record { peer = c.in-Datagram.peer; bytes = c.in-Datagram.head ++ bytes }) c.in-Datagram.moment)
    (item_judged e index clock (Received (record { peer = c.in-Datagram.peer; bytes = c.in-Datagram.head ++ bytes }) c.in-Datagram.moment) ss keys)
    took.new.table took.new.keys c.args.waiting.now c.put_if.new.self c.args.ledger.now took.new.ledger)
    c.deref.ensures.value
    (datagram_dispatched e index clock ss (record { peer = c.in-Datagram.peer; bytes = c.in-Datagram.head ++ c.deref.result.now }) c.in-Datagram.moment _
    took.new.table took.new.keys c.args.waiting.now c.put_if.new.self _ c.args.ledger.now took.new.ledger (took.ensures.secured e index ss keys is are has)
    c.put_if.ensures))

pub returns-in-Tick-clause-dispatched : goal.returns-in-Tick-clause-dispatched
returns-in-Tick-clause-dispatched c e index ss keys is are has =
    let clock = c.args.event.clock in
    passes_dispatched e index clock ss (input_of c.args.event.item.now) (item_judged e index clock (input_of c.args.event.item.now) ss keys)
    c.dispatch.new.table c.args.keys.now c.args.waiting.now c.dispatch.new.waiting c.args.ledger.now c.dispatch.new.ledger
    (ap (λ (i : Item). (item_judged e index clock (input_of i) ss keys).verdict) c.in-Tick.is) (c.dispatch.ensures.table e index ss is)
    (c.dispatch.ensures.said e index ss is)
    (subst (λ (i : Item). AreKeys e c.args.keys.now (item_judged e index clock (input_of i) ss keys).keys) (sym c.in-Tick.is) are)
    (c.dispatch.ensures.ends e index ss is) (c.dispatch.ensures.tally e index ss is)

pub returns-in-Close-clause-dispatched : goal.returns-in-Close-clause-dispatched
returns-in-Close-clause-dispatched c e index ss keys is are has =
    let clock = c.args.event.clock in
    let did = c.dispatch-in-Close in
    passes_dispatched e index clock ss (input_of c.args.event.item.now) (item_judged e index clock (input_of c.args.event.item.now) ss keys)
    did.new.table c.args.keys.now c.args.waiting.now did.new.waiting c.args.ledger.now did.new.ledger
    (ap (λ (i : Item). (item_judged e index clock (input_of i) ss keys).verdict) c.in-Close.is) (did.ensures.table e index ss is)
    (did.ensures.said e index ss is)
    (subst (λ (i : Item). AreKeys e c.args.keys.now (item_judged e index clock (input_of i) ss keys).keys) (sym c.in-Close.is) are)
    (did.ensures.ends e index ss is) (did.ensures.tally e index ss is)
