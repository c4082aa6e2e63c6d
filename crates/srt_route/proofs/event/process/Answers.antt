use Rattle.std.proofs.Common.{◌≤◌, ◌∙◌, length, map, arith}
use Rattle.srt_types.specs.Items.{input_of}
use Rattle.srt_route.specs.Route.{after_delivery, found_by, heard_as, judged, taken}
use Rattle.srt_route.specs.Sessions.{advanced}
use Rattle.srt_route.specs.inside.Delivery.{after_publisher, changed}
use Rattle.srt_route.specs.Ends.{kept_of}
use Rattle.srt_route.specs.Ledgers.{entry_of, idle_cause}
use Rattle.srt_route.specs.inside.Notes.{cause_at}
use Rattle.srt_route.proofs.steps.Stepping.{before_subscribers, judged_keys, passed_keys, passed_table, queued_replies, stepped, taken_at}
use Rattle.srt_route.proofs.steps.Noting.{grow_both, sums_grow}
use Rattle.srt_route.proofs.steps.Notified.{event_kept, files_notified, idle_notified}
use Rattle.srt_route.proofs.steps.Tallied.{step_tally, tally_stays}
use Rattle.srt_route.proofs.event.process.Goals as goal
use Rattle.srt_route.proofs.steps.GivingUp.{given_before}

pub returns-clause-table : goal.returns-clause-table
returns-clause-table c e index n g =
    let clock = c.args.event.clock in
    let item = input_of c.args.event.item.now in
    let m = found_by e item n in
    let h = given_before e index clock item n c.args.table.now c.give_up.new.table c.args.keys.now g c.give_up.ensures in
    let later : m.clock ≤ clock = omega (arith, h.clock_is) in
    let aged_is = c.advance.ensures.table e index m.clock m.sessions h.table_is later c.requires.early in
    let did = c.dispatch_secured.ensures.dispatched e index (advanced e clock m.sessions) m.keys aged_is h.keys_are in
    let it =
    stepped e index m.clock clock m.sessions (taken_at e index clock item m) (judged_keys e index clock item m) c.give_up.new.table
    c.dispatch_secured.new.table c.deliver_and_settle.new.table c.transmit_publishers.new.table c.transmit_subscribers.new.table
    c.dispatch_secured.new.keys c.transmit_subscribers.new.keys
    c.args.waiting.now c.advance.new.waiting c.dispatch_secured.new.waiting c.transmit_publishers.new.waiting c.transmit_subscribers.new.waiting
    h.table_is c.advance.ensures.said did.table_is did.said c.deliver_and_settle.ensures.table c.transmit_publishers.ensures.table
    c.transmit_publishers.ensures.said did.keys_are c.transmit_subscribers.ensures.served in
    passed_table e index clock item m c.transmit_subscribers.new.table h.is_open h.clock_is it.last_is

pub returns-clause-keys : goal.returns-clause-keys
returns-clause-keys c e index n g =
    let clock = c.args.event.clock in
    let item = input_of c.args.event.item.now in
    let m = found_by e item n in
    let h = given_before e index clock item n c.args.table.now c.give_up.new.table c.args.keys.now g c.give_up.ensures in
    let later : m.clock ≤ clock = omega (arith, h.clock_is) in
    let aged_is = c.advance.ensures.table e index m.clock m.sessions h.table_is later c.requires.early in
    let did = c.dispatch_secured.ensures.dispatched e index (advanced e clock m.sessions) m.keys aged_is h.keys_are in
    let it =
    stepped e index m.clock clock m.sessions (taken_at e index clock item m) (judged_keys e index clock item m) c.give_up.new.table
    c.dispatch_secured.new.table c.deliver_and_settle.new.table c.transmit_publishers.new.table c.transmit_subscribers.new.table
    c.dispatch_secured.new.keys c.transmit_subscribers.new.keys
    c.args.waiting.now c.advance.new.waiting c.dispatch_secured.new.waiting c.transmit_publishers.new.waiting c.transmit_subscribers.new.waiting
    h.table_is c.advance.ensures.said did.table_is did.said c.deliver_and_settle.ensures.table c.transmit_publishers.ensures.table
    c.transmit_publishers.ensures.said did.keys_are c.transmit_subscribers.ensures.served in
    passed_keys e index clock item m c.transmit_subscribers.new.keys h.is_open h.clock_is it.keys_are

pub returns-clause-replies : goal.returns-clause-replies
returns-clause-replies c e index n g =
    let clock = c.args.event.clock in
    let item = input_of c.args.event.item.now in
    let m = found_by e item n in
    let h = given_before e index clock item n c.args.table.now c.give_up.new.table c.args.keys.now g c.give_up.ensures in
    let later : m.clock ≤ clock = omega (arith, h.clock_is) in
    let aged_is = c.advance.ensures.table e index m.clock m.sessions h.table_is later c.requires.early in
    let did = c.dispatch_secured.ensures.dispatched e index (advanced e clock m.sessions) m.keys aged_is h.keys_are in
    let it =
    stepped e index m.clock clock m.sessions (taken_at e index clock item m) (judged_keys e index clock item m) c.give_up.new.table
    c.dispatch_secured.new.table c.deliver_and_settle.new.table c.transmit_publishers.new.table c.transmit_subscribers.new.table
    c.dispatch_secured.new.keys c.transmit_subscribers.new.keys
    c.args.waiting.now c.advance.new.waiting c.dispatch_secured.new.waiting c.transmit_publishers.new.waiting c.transmit_subscribers.new.waiting
    h.table_is c.advance.ensures.said did.table_is did.said c.deliver_and_settle.ensures.table c.transmit_publishers.ensures.table
    c.transmit_publishers.ensures.said did.keys_are c.transmit_subscribers.ensures.served in
    queued_replies e index clock item m c.args.waiting.now c.transmit_subscribers.new.waiting h.is_open h.clock_is it.said

pub returns-clause-ends : goal.returns-clause-ends
returns-clause-ends c e index n g =
    let clock = c.args.event.clock in
    let item = input_of c.args.event.item.now in
    let m = found_by e item n in
    let h = given_before e index clock item n c.args.table.now c.give_up.new.table c.args.keys.now g c.give_up.ensures in
    let later : m.clock ≤ clock = omega (arith, h.clock_is) in
    let aged_is = c.advance.ensures.table e index m.clock m.sessions h.table_is later c.requires.early in
    let did = c.dispatch_secured.ensures.dispatched e index (advanced e clock m.sessions) m.keys aged_is h.keys_are in
    let heard = heard_as (judged e index clock item (advanced e clock m.sessions) m.keys).verdict item in
    let ss = (taken e index clock heard (advanced e clock m.sessions)).sessions in
    let fourth = before_subscribers e index clock ss c.dispatch_secured.new.table c.deliver_and_settle.new.table
    c.transmit_publishers.new.table did.table_is c.deliver_and_settle.ensures.table c.transmit_publishers.ensures.table in
    event_kept e index clock item m (kept_of c.args.ledger.now) (kept_of c.transmit_subscribers.new.ledger) h.is_open h.clock_is
    (record {
      kept_after_time = kept_of c.advance.new.ledger;
      kept_after_item = kept_of c.dispatch_secured.new.ledger;
      kept_after_delivery = kept_of c.deliver_and_settle.new.ledger;
      by_time = idle_notified e index m.clock clock c.give_up.new.table m.sessions c.args.ledger.now c.advance.new.ledger h.table_is
          c.advance.ensures.ended;
      by_item = did.ends;
      by_delivery = c.deliver_and_settle.ensures.ends e index ss did.table_is;
      by_end = files_notified e index clock (after_delivery e clock ss) (kept_of c.deliver_and_settle.new.ledger)
          (kept_of c.transmit_subscribers.new.ledger)
          (c.transmit_subscribers.ensures.ends e index (map (changed (after_publisher e clock)) (after_delivery e clock ss)) fourth);
    })

pub returns-clause-tally : goal.returns-clause-tally
returns-clause-tally c e index n g =
    let clock = c.args.event.clock in
    let item = input_of c.args.event.item.now in
    let m = found_by e item n in
    let h = given_before e index clock item n c.args.table.now c.give_up.new.table c.args.keys.now g c.give_up.ensures in
    let later : m.clock ≤ clock = omega (arith, h.clock_is) in
    let aged_is = c.advance.ensures.table e index m.clock m.sessions h.table_is later c.requires.early in
    let did = c.dispatch_secured.ensures.dispatched e index (advanced e clock m.sessions) m.keys aged_is h.keys_are in
    tally_stays c.deliver_and_settle.new.ledger c.transmit_subscribers.new.ledger c.transmit_subscribers.ensures.counts
    ∙ tally_stays c.dispatch_secured.new.ledger c.deliver_and_settle.new.ledger c.deliver_and_settle.ensures.counts
    ∙ step_tally e index clock item m c.args.ledger.now c.advance.new.ledger c.dispatch_secured.new.ledger h.is_open h.clock_is
    c.advance.ensures.ended.counts did.tally

pub returns-clause-sums : goal.returns-clause-sums
returns-clause-sums c =
    grow_both c.args.ledger.now.totals c.deliver_and_settle.new.ledger.totals c.transmit_subscribers.new.ledger.totals
    (grow_both c.args.ledger.now.totals c.dispatch_secured.new.ledger.totals c.deliver_and_settle.new.ledger.totals
    (grow_both c.args.ledger.now.totals c.advance.new.ledger.totals c.dispatch_secured.new.ledger.totals
    (sums_grow (cause_at (idle_cause c.args.event.clock) c.give_up.new.table.seats.items) (entry_of c.advance.new.ledger)
    (length c.give_up.new.table.seats.items) c.args.ledger.now.totals c.advance.new.ledger.totals c.advance.ensures.ended.sums)
    c.dispatch_secured.ensures.sums)
    c.deliver_and_settle.ensures.sums)
    c.transmit_subscribers.ensures.sums
