use Rattle.std.proofs.Common.{Option, List, length, ℕ, ◌<◌, refl, sym, ap, subst, arith}
use Rattle.std.specs.Option.{is_some}
use Rattle.srt_recvbuf.specs.Receiving.{Arrival}
use Rattle.srt_pub.specs.Calls.{next_delivery, after_delivery}
use Rattle.srt_pub.specs.Stands as publishers
use Rattle.srt_route.specs.inside.Delivery.{AreFed, AreGiven}
use Rattle.srt_route.proofs.steps.Passing.{one_due, none_due, fed_use_the_same}
use Rattle.srt_route.proofs.stored.Counting.{fed_counted}
use Rattle.srt_route.proofs.delivery.pass_on.Goals as goal

pub returns-in_default-clause-given : goal.returns-in_default-clause-given
returns-in_default-clause-given c terms initial opening stamp caller time q n h =
    sym (ap is_some (none_due (next_delivery terms time c.args.room q) (c.in_default.ensures.payload terms initial opening stamp caller time q n h)))

pub returns-in_default-clause-publisher : goal.returns-in_default-clause-publisher
returns-in_default-clause-publisher c terms initial opening stamp caller time q n h =
    let none = none_due (next_delivery terms time c.args.room q) (c.in_default.ensures.payload terms initial opening stamp caller time q n h) in
    subst (λ (o : Option Arrival). publishers.StandsFor terms initial opening stamp caller c.args.publisher.now (after_delivery terms o q)) (sym none) h

pub returns-in_default-clause-seats : goal.returns-in_default-clause-seats
returns-in_default-clause-seats c terms initial opening stamp caller time q n h =
    let none = none_due (next_delivery terms time c.args.room q) (c.in_default.ensures.payload terms initial opening stamp caller time q n h) in
    subst (λ (o : Option Arrival). AreGiven c.args.clock o c.args.seats.now c.args.seats.now) (sym none) refl

pub returns-clause-given : goal.returns-clause-given
returns-clause-given c terms initial opening stamp caller time q n h = c.note_delivered.ensures.answer terms initial opening stamp caller time q n h

pub returns-clause-publisher : goal.returns-clause-publisher
returns-clause-publisher c terms initial opening stamp caller time q n h = c.note_delivered.ensures.stands terms initial opening stamp caller time q n h

pub returns-clause-seats : goal.returns-clause-seats
returns-clause-seats c terms initial opening stamp caller time q n h =
    let old = c.args.seats.now in
    let one = one_due c.in-Some.payload.now (next_delivery terms time c.args.room q)
    (c.in-Some.ensures.payload terms initial opening stamp caller time q n h) in
    let some = c.in-Some.ensures.some terms initial opening stamp caller q (omega (arith, n)) h in
    subst (λ (o : Option Arrival). AreGiven c.args.clock o old c.feed.new.seats) (sym one.1)
    (subst (λ (x : List ℕ). (0 < length x) × AreFed c.args.clock x old c.feed.new.seats) one.2 (some, c.feed.ensures))

pub returns-clause-publishers : goal.returns-clause-publishers
returns-clause-publishers c = fed_counted c.args.clock c.in-Some.payload.now c.args.seats.now c.feed.new.seats c.feed.ensures

pub returns-clause-stays : goal.returns-clause-stays
returns-clause-stays c = fed_use_the_same c.args.clock c.in-Some.payload.now c.args.seats.now c.feed.new.seats c.feed.ensures
