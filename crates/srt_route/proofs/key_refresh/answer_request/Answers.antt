use Rattle.std.proofs.Common.{◌≡◌, ℕ, Option, None, Some, sym, ap, subst, ◌∙◌, arith}
use Rattle.srt_packet.specs.View.{packet_of}
use Rattle.srt_route.specs.KeyRefresh.{answer_by, refreshed}
use Rattle.srt_route.specs.RouteKeys.{with_slot}
use Rattle.srt_route.specs.StoredKeys.{AreKeys}
use Rattle.srt_route.specs.Tables.{IsStored}
use Rattle.srt_route.specs.declared.seat.Session.{Session as TheSession}
use Rattle.srt_route.proofs.stored.Stored.{for_none_beyond, for_none_stored, for_one}
use Rattle.srt_route.proofs.steps.Refreshing.{asks_in_vain, asks_no_session, asks_nobody, asks_publisher}
use Rattle.srt_route.proofs.steps.Securing.{slot_is}
use Rattle.srt_route.proofs.key_refresh.answer_request.Goals as goal

pub returns-then-request-eq0-clause-answered : goal.returns-then-request-eq0-clause-answered
returns-then-request-eq0-clause-answered c e index ss keys bytes is are has =
    asks_no_session e index c.args.arrival.clock c.args.arrival.peer c.args.request.now.contents.now (packet_of c.args.request.now.packet) bytes ss keys
    c.args.keys.now c.if-request-eq0.true are

pub returns-then-at-len-clause-answered : goal.returns-then-at-len-clause-answered
returns-then-at-len-clause-answered c e index ss keys bytes is are has =
    let p = packet_of c.args.request.now.packet in
    asks_nobody e index c.args.arrival.clock c.args.arrival.peer c.args.request.now.contents.now p bytes ss keys c.args.keys.now
    c.if-request-eq0.false is.alone
    (for_none_beyond index c.args.arrival.peer p.dest e.sessions ss (omega (arith, c.args.table.now.few, is.places_are))
    (omega (arith, c.slot_in-at.ensures, c.if-at-len.true, c.len.ensures, is.places_are))) are

pub returns-then-not-is_for-clause-answered : goal.returns-then-not-is_for-clause-answered
returns-then-not-is_for-clause-answered c e index ss keys bytes is are has =
    let p = packet_of c.args.request.now.packet in
    let clock = c.args.arrival.clock in
    let peer = c.args.arrival.peer in
    asks_nobody e index clock peer c.args.request.now.contents.now p bytes ss keys c.args.keys.now c.if-request-eq0.false is.alone
    (for_none_stored e index clock c.args.table.now ss peer p.dest c.slot_in-at.result c.index-seat.result.now is c.args.table.now.few c.slot_in-at.ensures
    (omega (arith, c.if-at-len.false, c.len.ensures)) c.index-seat.ensures (sym c.is_for.ensures ∙ c.if-not-is_for.true)) are

pub returns-in-Some-refresh-clause-answered : goal.returns-in-Some-refresh-clause-answered
returns-in-Some-refresh-clause-answered c e index ss keys bytes is are has =
    let p = packet_of c.args.request.now.packet in
    let clock = c.args.arrival.clock in
    let peer = c.args.arrival.peer in
    let contents = c.args.request.now.contents.now in
    let at = c.slot_in-at.result in
    let one = for_one e index clock c.args.table.now ss peer p.dest at c.index-seat.result.now is c.args.table.now.few c.slot_in-at.ensures
    (omega (arith, c.if-at-len.false, c.len.ensures)) c.index-seat.ensures (sym c.is_for.ensures ∙ c.if-not-is_for.false) in
    let s = one.1 in
    let it = one.2 in
    let slot = slot_is at ss s it.found_is in
    asks_publisher e index clock peer contents p bytes ss keys c.refresh.new.self s c.in-Some.session c.time_of.result c.in-Some-refresh.answer
    c.if-request-eq0.false it.found_for
    (sym c.in-Some-refresh.is ∙ c.refresh.ensures.answer e keys are has it.below ∙ ap (λ (n : ℕ). answer_by contents (keys.held n)) (sym slot))
    (subst (λ (o : Option TheSession). IsStored e index o (Some s)) (sym it.stored_is ∙ c.in-Some.is) it.session_is)
    c.time_of.ensures
    (subst (λ (n : ℕ). AreKeys e c.refresh.new.self (with_slot n (refreshed contents (keys.held n)) keys)) (sym slot)
    (c.refresh.ensures.keys e keys are has it.below))

pub returns-in-None-refresh-clause-answered : goal.returns-in-None-refresh-clause-answered
returns-in-None-refresh-clause-answered c e index ss keys bytes is are has =
    let p = packet_of c.args.request.now.packet in
    let clock = c.args.arrival.clock in
    let peer = c.args.arrival.peer in
    let contents = c.args.request.now.contents.now in
    let at = c.slot_in-at.result in
    let one = for_one e index clock c.args.table.now ss peer p.dest at c.index-seat.result.now is c.args.table.now.few c.slot_in-at.ensures
    (omega (arith, c.if-at-len.false, c.len.ensures)) c.index-seat.ensures (sym c.is_for.ensures ∙ c.if-not-is_for.false) in
    let s = one.1 in
    let it = one.2 in
    let slot = slot_is at ss s it.found_is in
    asks_in_vain e index clock peer contents p bytes ss keys c.refresh.new.self s c.if-request-eq0.false it.found_for
    (sym c.in-None-refresh.is ∙ c.refresh.ensures.answer e keys are has it.below ∙ ap (λ (n : ℕ). answer_by contents (keys.held n)) (sym slot))
    (subst (λ (n : ℕ). AreKeys e c.refresh.new.self (with_slot n (refreshed contents (keys.held n)) keys)) (sym slot)
    (c.refresh.ensures.keys e keys are has it.below))

pub returns-in-None-clause-answered : goal.returns-in-None-clause-answered
returns-in-None-clause-answered c e index ss keys bytes is are has =
    let p = packet_of c.args.request.now.packet in
    let clock = c.args.arrival.clock in
    let peer = c.args.arrival.peer in
    let at = c.slot_in-at.result in
    let one = for_one e index clock c.args.table.now ss peer p.dest at c.index-seat.result.now is c.args.table.now.few c.slot_in-at.ensures
    (omega (arith, c.if-at-len.false, c.len.ensures)) c.index-seat.ensures (sym c.is_for.ensures ∙ c.if-not-is_for.false) in
    absurd (let bad : None ≡ Some one.0 = sym c.in-None.is ∙ one.2.stored_is in cc)
