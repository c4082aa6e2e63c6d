use Rattle.std.proofs.Common.{◌≡◌, ℕ, List, ◌++◌, length, map, refl, sym, subst}
use Rattle.srt_types.specs.declared.shared.Item.{Item}
use Rattle.srt_types.specs.Items.{Tick, input_of}
use Rattle.srt_packet.specs.Reading.{packet_in}
use Rattle.srt_route.specs.Route.{taken, read_taken, sent}
use Rattle.srt_route.specs.Tables.{IsTable}
use Rattle.srt_route.specs.inside.Reports.{Queues}
use Rattle.srt_route.specs.inside.Calls.{TakesItem, AnswersItem}
use Rattle.srt_route.specs.Ends.{Ends, item_ending, kept_of, read_ending}
use Rattle.srt_route.specs.Ledgers.{closed_cause, entry_of}
use Rattle.srt_route.specs.inside.Notes.{cause_at}
use Rattle.srt_route.specs.Tallies.{Tallies, item_tally, read_tally}
use Rattle.srt_route.proofs.steps.Saying.{same_said}
use Rattle.srt_route.proofs.steps.Noting.{same_grow, sums_grow}
use Rattle.srt_route.proofs.steps.Notified.{closed_notified, none_notified}
use Rattle.srt_route.proofs.steps.Tallied.{tally_stays}
use Rattle.srt_route.proofs.dispatch.dispatch.Goals as goal

pub returns-in-Close-clause-table : goal.returns-in-Close-clause-table
returns-in-Close-clause-table c =
    subst (λ (i : Item). TakesItem c.args.clock (input_of i) c.args.table.now c.close_seats.new.table) (sym c.in-Close.is)
    c.close_seats.ensures.table

pub returns-in-Close-clause-said : goal.returns-in-Close-clause-said
returns-in-Close-clause-said c =
    subst (λ (i : Item). AnswersItem c.args.clock (input_of i) c.args.table.now c.args.waiting.now c.close_seats.new.waiting)
    (sym c.in-Close.is) c.close_seats.ensures.said

pub returns-in-Datagram-clause-table : goal.returns-in-Datagram-clause-table
returns-in-Datagram-clause-table c e index sessions body =
    let same : c.deref.result.now ≡ c.in-Datagram.body.items = c.deref.ensures.value in
    subst
    (λ (i : Item). IsTable e index c.args.clock c.take_datagram-answered.new.table (taken e index c.args.clock (input_of i) sessions).sessions)
    (sym c.in-Datagram.is)
    (subst
    (λ (bytes : List ℕ). IsTable e index c.args.clock c.take_datagram-answered.new.table
    (read_taken e index c.args.clock c.in-Datagram.peer (packet_in (c.in-Datagram.head ++ bytes)) sessions).sessions)
    same (c.take_datagram-answered.ensures.taken e index sessions body).table_is)

pub returns-in-Datagram-clause-said : goal.returns-in-Datagram-clause-said
returns-in-Datagram-clause-said c e index sessions body =
    let same : c.deref.result.now ≡ c.in-Datagram.body.items = c.deref.ensures.value in
    subst (λ (i : Item). Queues c.args.waiting.now c.put_if.new.self (map sent (taken e index c.args.clock (input_of i) sessions).answers))
    (sym c.in-Datagram.is)
    (subst
    (λ (bytes : List ℕ). Queues c.args.waiting.now c.put_if.new.self
    (map sent (read_taken e index c.args.clock c.in-Datagram.peer (packet_in (c.in-Datagram.head ++ bytes)) sessions).answers))
    same
    (same_said (c.take_datagram-answered.ensures.taken e index sessions body).replies_are c.put_if.ensures))

pub returns-in-Tick-clause-ends : goal.returns-in-Tick-clause-ends
returns-in-Tick-clause-ends c =
    subst (λ (i : Item). Ends c.args.clock (λ e index. item_ending e index c.args.clock (input_of i)) c.args.table.now c.args.ledger.now c.args.ledger.now)
    (sym c.in-Tick.is)
    (λ e index sessions body. none_notified e index (item_ending e index c.args.clock (Tick c.in-Tick.moment) sessions) c.args.clock sessions
    (kept_of c.args.ledger.now) (kept_of c.args.ledger.now) (λ at s found. refl) (λ at. refl) refl)

pub returns-in-Close-clause-ends : goal.returns-in-Close-clause-ends
returns-in-Close-clause-ends c =
    subst (λ (i : Item). Ends c.args.clock (λ e index. item_ending e index c.args.clock (input_of i)) c.args.table.now c.args.ledger.now c.note_closed.new.self)
    (sym c.in-Close.is)
    (λ e index sessions body. closed_notified e index c.args.clock c.in-Close.moment c.args.table.now sessions c.args.ledger.now c.note_closed.new.self body
    c.note_closed.ensures)

pub returns-in-Datagram-clause-ends : goal.returns-in-Datagram-clause-ends
returns-in-Datagram-clause-ends c =
    let same : c.deref.result.now ≡ c.in-Datagram.body.items = c.deref.ensures.value in
    subst
    (λ (i : Item).
    Ends c.args.clock (λ e index. item_ending e index c.args.clock (input_of i)) c.args.table.now c.args.ledger.now c.take_datagram-answered.new.ledger)
    (sym c.in-Datagram.is)
    (subst
    (λ (bytes : List ℕ). Ends c.args.clock (λ e index. read_ending e index c.args.clock c.in-Datagram.peer (packet_in (c.in-Datagram.head ++ bytes)))
    c.args.table.now c.args.ledger.now c.take_datagram-answered.new.ledger)
    same
    c.take_datagram-answered.ensures.ends)

pub returns-in-Tick-clause-tally : goal.returns-in-Tick-clause-tally
returns-in-Tick-clause-tally c =
    subst
    (λ (i : Item). Tallies c.args.clock (λ e sessions. item_tally e (input_of i) sessions) c.args.table.now c.args.ledger.now c.args.ledger.now)
    (sym c.in-Tick.is) (λ e index sessions body. refl)

pub returns-in-Close-clause-tally : goal.returns-in-Close-clause-tally
returns-in-Close-clause-tally c =
    subst
    (λ (i : Item).
    Tallies c.args.clock (λ e sessions. item_tally e (input_of i) sessions) c.args.table.now c.args.ledger.now c.note_closed.new.self)
    (sym c.in-Close.is)
    (λ e index sessions body. tally_stays c.args.ledger.now c.note_closed.new.self c.note_closed.ensures.counts)

pub returns-in-Datagram-clause-tally : goal.returns-in-Datagram-clause-tally
returns-in-Datagram-clause-tally c =
    let same : c.deref.result.now ≡ c.in-Datagram.body.items = c.deref.ensures.value in
    subst
    (λ (i : Item). Tallies c.args.clock (λ e sessions. item_tally e (input_of i) sessions) c.args.table.now c.args.ledger.now
    c.take_datagram-answered.new.ledger)
    (sym c.in-Datagram.is)
    (subst
    (λ (bytes : List ℕ).
    Tallies c.args.clock (λ e sessions. read_tally e c.in-Datagram.peer (packet_in (c.in-Datagram.head ++ bytes)) sessions) c.args.table.now
    c.args.ledger.now c.take_datagram-answered.new.ledger)
    same
    c.take_datagram-answered.ensures.tally)

pub returns-in-Tick-clause-sums : goal.returns-in-Tick-clause-sums
returns-in-Tick-clause-sums c = same_grow c.args.ledger.now.totals c.args.ledger.now.totals refl

pub returns-in-Close-clause-sums : goal.returns-in-Close-clause-sums
returns-in-Close-clause-sums c =
    sums_grow (cause_at closed_cause c.args.table.now.seats.items) (entry_of c.note_closed.new.self) (length c.args.table.now.seats.items)
    c.args.ledger.now.totals c.note_closed.new.self.totals c.note_closed.ensures.sums

pub returns-in-Datagram-clause-sums : goal.returns-in-Datagram-clause-sums
returns-in-Datagram-clause-sums c = c.take_datagram-answered.ensures.sums
