use Rattle.std.proofs.Common.{◌≡◌, ℕ, Bool, Option, is_some, ◌∙◌, true, false, get_or, set, refl, sym, ap, subst, arith}
use Rattle.srt_packet.specs.View.{packet_of}
use Rattle.srt_pub.specs.Publishing.{Publishing, Terms}
use Rattle.srt_pub.specs.Stands.{StandsFor}
use Rattle.srt_pub.specs.declared.ends.PubEnd.{PubEnd}
use Rattle.srt_route.specs.declared.seat.Seat.{Seat}
use Rattle.srt_types.specs.Given.{given}
use Rattle.srt_route.specs.Sessions.{of_libsrt}
use Rattle.srt_route.specs.Ledgers.{cause_of}
use Rattle.srt_route.specs.inside.Files.{shutdown_end}
use Rattle.srt_route.specs.inside.OneSession.{end_unless, is_lost, shutdowns_if}
use Rattle.srt_route.specs.Tables.{is_stored_for, used_buffers, stored_after, with_stored, written_of}
use Rattle.srt_route.specs.Seats.{has_publisher, session_passes}
use Rattle.srt_route.proofs.stored.Stored.{for_none_beyond, for_none_stored, for_one, same_read}
use Rattle.srt_route.proofs.steps.Taking.{none_arrived, publisher_arrived, subscriber_arrived, stored_role}
use Rattle.srt_route.proofs.steps.Noting.{end_grows, same_grow}
use Rattle.srt_route.proofs.steps.Notified.{none_for, publisher_notified, subscriber_notified}
use Rattle.srt_route.proofs.dispatch.to_session.Goals as goal

pub returns-then-at-len-clause-taken : goal.returns-then-at-len-clause-taken
returns-then-at-len-clause-taken c e index sessions h =
    none_arrived e index c.args.arrival.clock c.args.arrival.peer (packet_of c.args.packet.now) c.args.table.now _ sessions h
    (refl, refl, refl, refl, refl, refl) refl refl
    (for_none_beyond index c.args.arrival.peer c.args.packet.now.dest e.sessions sessions
    (omega (arith, c.args.table.now.few, h.places_are)) (omega (arith, c.slot_in-at.ensures, c.if-at-len.true, c.len.ensures, h.places_are)))

pub returns-then-not-is_for-clause-taken : goal.returns-then-not-is_for-clause-taken
returns-then-not-is_for-clause-taken c e index sessions h =
    none_arrived e index c.args.arrival.clock c.args.arrival.peer (packet_of c.args.packet.now) c.args.table.now _ sessions h
    (refl, refl, refl, refl, refl, refl) refl refl
    (for_none_stored e index c.args.arrival.clock c.args.table.now sessions c.args.arrival.peer c.args.packet.now.dest c.slot_in-at.result
    c.index.result.now h c.args.table.now.few c.slot_in-at.ensures (omega (arith, c.if-at-len.false, c.len.ensures)) c.index.ensures
    (sym c.is_for.ensures ∙ c.if-not-is_for.true))

pub returns-then-has_publisher-clause-taken : goal.returns-then-has_publisher-clause-taken
returns-then-has_publisher-clause-taken c e index sessions h =
    let packet = packet_of c.args.packet.now in
    let at = c.slot_in-at.result in
    let seat = c.index_mut-then-has_publisher.result.now in
    let seats = c.args.table.now.seats.items in
    let same : c.index.result.now ≡ seat = same_read seats at c.index.result.now seat (omega (arith, c.if-at-len.false, c.len.ensures))
    c.index.ensures c.index_mut-then-has_publisher.ensures.value in
    let same_too : c.index-2.result.now ≡ seat = same_read seats at c.index-2.result.now seat
    (omega (arith, c.if-at-len.false, c.len.ensures)) c.index-2.ensures c.index_mut-then-has_publisher.ensures.value in
    let here = for_one e index c.args.arrival.clock c.args.table.now sessions c.args.arrival.peer packet.dest at seat h c.args.table.now.few
    c.slot_in-at.ensures (omega (arith, c.if-at-len.false, c.len.ensures)) c.index_mut-then-has_publisher.ensures.value
    (ap (λ (x : Seat). session_passes (is_stored_for c.args.arrival.peer packet.dest) x.session) (sym same)
    ∙ (sym c.is_for.ensures ∙ c.if-not-is_for.false)) in
    let role = stored_role e index sessions c.args.arrival.peer packet.dest at seat here.0 here.1 true here.2
    (ap has_publisher (sym same_too) ∙ (sym c.has_publisher.ensures ∙ c.if-has_publisher.true)) in
    let which = c.used_buffers-which.result in
    let place = c.place.ensures.value in
    let same_again : c.index-then-has_publisher.result.now ≡ seat = same_read seats at c.index-then-has_publisher.result.now seat
    (omega (arith, c.if-at-len.false, c.len.ensures)) c.index-then-has_publisher.ensures c.index_mut-then-has_publisher.ensures.value in
    let uses : which ≡ used_buffers seat = c.used_buffers-which.ensures ∙ ap used_buffers same_again in
    let drains = c.drains_after-drains.result in
    let draining = c.drains_after-drains.ensures e index sessions here.1 h here.2.found_is (rw (here.2.is_open, role) refl) in
    let ends =
    λ (terms : Terms) (initial opening stamp caller : ℕ) (m : Publishing) (stands : StandsFor terms initial opening stamp caller
    c.index_mut.result.now m).
    c.keep_or_end.ensures
    ∙ ap {B = Seat} (λ (b : Bool). with_stored (stored_after b drains c.args.arrival.clock seat.session) seat)
    (c.is_some.ensures
    ∙ ap (λ (o : Option PubEnd). is_some o) c.end_unless-end.ensures
    ∙ ap (λ (o : Option PubEnd). is_some (end_unless drains o)) (c.hear_publisher-heard.ensures.end terms initial opening stamp caller m stands)) in
    let same_last : c.index-then-has_publisher-2.result.now ≡ seat = same_read seats at c.index-then-has_publisher-2.result.now seat
    (omega (arith, c.if-at-len.false, c.len.ensures)) c.index-then-has_publisher-2.ensures c.index_mut-then-has_publisher.ensures.value in
    let notified = c.tell_lost-notified.ensures
    ∙ ap (λ (x : Seat). shutdowns_if c.args.table.now.rules.callers (is_lost c.end_unless-end.result) c.args.arrival.clock x.session) same_last
    ∙ ap (λ (o : Option PubEnd). shutdowns_if c.args.table.now.rules.callers (is_lost o) c.args.arrival.clock seat.session) c.end_unless-end.ensures in
    publisher_arrived e index c.args.arrival.clock c.args.arrival.peer packet c.args.table.now _ c.note_end.new.table drains c.of_libsrt.result
    sessions at which
    c.index_mut.result.now
    c.hear_publisher-heard.new.publisher seat c.keep_or_end.new.self c.hear_publisher-heard.result
    (written_of (given c.tell_lost-notified.result c.tell_lost-notified.new.reply)) here.0 here.1 h c.index_mut-then-has_publisher.ensures.value here.2 role
    uses
    (subst (λ (n : ℕ). c.index_mut.result.now ≡ get_or c.args.table.now.publishers.items n c.index_mut.result.now) place
    c.index_mut.ensures.value)
    (sym draining) c.hear_publisher-heard.ensures.publisher ends c.hear_publisher-heard.ensures.end notified (refl, refl, refl, refl, refl, refl) refl
    (ap (λ (n : ℕ). set c.args.table.now.publishers.items n c.hear_publisher-heard.new.publisher) place)
    (c.of_libsrt.ensures
    ∙ ap (of_libsrt c.args.table.now.rules.callers)
    (c.shutdown_end.ensures ∙ ap (λ (o : Option PubEnd). shutdown_end o) c.end_unless-end.ensures)) c.note_end.ensures

pub returns-clause-taken : goal.returns-clause-taken
returns-clause-taken c e index sessions h =
    let packet = packet_of c.args.packet.now in
    let at = c.slot_in-at.result in
    let seat = c.index_mut-2.result.now in
    let seats = c.args.table.now.seats.items in
    let same : c.index.result.now ≡ seat = same_read seats at c.index.result.now seat (omega (arith, c.if-at-len.false, c.len.ensures))
    c.index.ensures c.index_mut-2.ensures.value in
    let same_too : c.index-2.result.now ≡ seat = same_read seats at c.index-2.result.now seat
    (omega (arith, c.if-at-len.false, c.len.ensures)) c.index-2.ensures c.index_mut-2.ensures.value in
    let here = for_one e index c.args.arrival.clock c.args.table.now sessions c.args.arrival.peer packet.dest at seat h c.args.table.now.few
    c.slot_in-at.ensures (omega (arith, c.if-at-len.false, c.len.ensures)) c.index_mut-2.ensures.value
    (ap (λ (x : Seat). session_passes (is_stored_for c.args.arrival.peer packet.dest) x.session) (sym same)
    ∙ (sym c.is_for.ensures ∙ c.if-not-is_for.false)) in
    let role = stored_role e index sessions c.args.arrival.peer packet.dest at seat here.0 here.1 false here.2
    (ap has_publisher (sym same_too) ∙ (sym c.has_publisher.ensures ∙ c.if-has_publisher.false)) in
    subscriber_arrived e index c.args.arrival.clock c.args.arrival.peer packet c.args.table.now _ sessions at seat
    c.hear_subscriber.new.seat (written_of (given c.hear_subscriber.result c.hear_subscriber.new.reply)) here.0 here.1 h
    c.index_mut-2.ensures.value here.2 role c.hear_subscriber.ensures.subscriber c.hear_subscriber.ensures.generation
    c.hear_subscriber.ensures.session c.hear_subscriber.ensures.answer (refl, refl, refl, refl, refl, refl) refl refl

pub returns-then-at-len-clause-ends : goal.returns-then-at-len-clause-ends
returns-then-at-len-clause-ends c e index sessions h =
    none_for e index c.args.arrival.clock c.args.arrival.peer (packet_of c.args.packet.now) c.args.table.now sessions c.args.ledger.now h
    (for_none_beyond index c.args.arrival.peer c.args.packet.now.dest e.sessions sessions
    (omega (arith, c.args.table.now.few, h.places_are)) (omega (arith, c.slot_in-at.ensures, c.if-at-len.true, c.len.ensures, h.places_are)))

pub returns-then-not-is_for-clause-ends : goal.returns-then-not-is_for-clause-ends
returns-then-not-is_for-clause-ends c e index sessions h =
    none_for e index c.args.arrival.clock c.args.arrival.peer (packet_of c.args.packet.now) c.args.table.now sessions c.args.ledger.now h
    (for_none_stored e index c.args.arrival.clock c.args.table.now sessions c.args.arrival.peer c.args.packet.now.dest c.slot_in-at.result
    c.index.result.now h c.args.table.now.few c.slot_in-at.ensures (omega (arith, c.if-at-len.false, c.len.ensures)) c.index.ensures
    (sym c.is_for.ensures ∙ c.if-not-is_for.true))

pub returns-then-has_publisher-clause-ends : goal.returns-then-has_publisher-clause-ends
returns-then-has_publisher-clause-ends c e index sessions h =
    let packet = packet_of c.args.packet.now in
    let at = c.slot_in-at.result in
    let seat = c.index_mut-then-has_publisher.result.now in
    let seats = c.args.table.now.seats.items in
    let same : c.index.result.now ≡ seat = same_read seats at c.index.result.now seat (omega (arith, c.if-at-len.false, c.len.ensures))
    c.index.ensures c.index_mut-then-has_publisher.ensures.value in
    let same_too : c.index-2.result.now ≡ seat = same_read seats at c.index-2.result.now seat
    (omega (arith, c.if-at-len.false, c.len.ensures)) c.index-2.ensures c.index_mut-then-has_publisher.ensures.value in
    let here = for_one e index c.args.arrival.clock c.args.table.now sessions c.args.arrival.peer packet.dest at seat h c.args.table.now.few
    c.slot_in-at.ensures (omega (arith, c.if-at-len.false, c.len.ensures)) c.index_mut-then-has_publisher.ensures.value
    (ap (λ (x : Seat). session_passes (is_stored_for c.args.arrival.peer packet.dest) x.session) (sym same)
    ∙ (sym c.is_for.ensures ∙ c.if-not-is_for.false)) in
    let role = stored_role e index sessions c.args.arrival.peer packet.dest at seat here.0 here.1 true here.2
    (ap has_publisher (sym same_too) ∙ (sym c.has_publisher.ensures ∙ c.if-has_publisher.true)) in
    let which = c.used_buffers-which.result in
    let same_again : c.index-then-has_publisher.result.now ≡ seat = same_read seats at c.index-then-has_publisher.result.now seat
    (omega (arith, c.if-at-len.false, c.len.ensures)) c.index-then-has_publisher.ensures c.index_mut-then-has_publisher.ensures.value in
    let uses : which ≡ used_buffers seat = c.used_buffers-which.ensures ∙ ap used_buffers same_again in
    let draining = c.drains_after-drains.ensures e index sessions here.1 h here.2.found_is (rw (here.2.is_open, role) refl) in
    publisher_notified e index c.args.arrival.clock c.args.arrival.peer packet c.args.table.now sessions at which c.index_mut.result.now
    c.hear_publisher-heard.new.publisher seat
    here.0 here.1 c.hear_publisher-heard.result c.drains_after-drains.result c.cause_of.result _ c.args.ledger.now c.note.new.self h
    c.index_mut-then-has_publisher.ensures.value
    here.2 role uses
    (subst (λ (n : ℕ). c.index_mut.result.now ≡ get_or c.args.table.now.publishers.items n c.index_mut.result.now) c.place.ensures.value
    c.index_mut.ensures.value)
    (ap (λ (n : ℕ). set c.args.table.now.publishers.items n c.hear_publisher-heard.new.publisher) c.place.ensures.value)
    c.hear_publisher-heard.ensures.publisher
    c.hear_publisher-heard.ensures.end (c.cause_of.ensures ∙ ap (λ (o : Option PubEnd). cause_of o) c.end_unless-end.ensures) draining c.note.ensures

pub returns-clause-ends : goal.returns-clause-ends
returns-clause-ends c e index sessions h =
    let packet = packet_of c.args.packet.now in
    let at = c.slot_in-at.result in
    let seat = c.index_mut-2.result.now in
    let seats = c.args.table.now.seats.items in
    let same : c.index.result.now ≡ seat = same_read seats at c.index.result.now seat (omega (arith, c.if-at-len.false, c.len.ensures))
    c.index.ensures c.index_mut-2.ensures.value in
    let same_too : c.index-2.result.now ≡ seat = same_read seats at c.index-2.result.now seat
    (omega (arith, c.if-at-len.false, c.len.ensures)) c.index-2.ensures c.index_mut-2.ensures.value in
    let here = for_one e index c.args.arrival.clock c.args.table.now sessions c.args.arrival.peer packet.dest at seat h c.args.table.now.few
    c.slot_in-at.ensures (omega (arith, c.if-at-len.false, c.len.ensures)) c.index_mut-2.ensures.value
    (ap (λ (x : Seat). session_passes (is_stored_for c.args.arrival.peer packet.dest) x.session) (sym same)
    ∙ (sym c.is_for.ensures ∙ c.if-not-is_for.false)) in
    let role = stored_role e index sessions c.args.arrival.peer packet.dest at seat here.0 here.1 false here.2
    (ap has_publisher (sym same_too) ∙ (sym c.has_publisher.ensures ∙ c.if-has_publisher.false)) in
    subscriber_notified e index c.args.arrival.clock c.args.arrival.peer packet c.args.table.now sessions at seat here.0 here.1
    c.shutdown_cause.result c.args.ledger.now c.note-2.new.self h c.index_mut-2.ensures.value here.2 role c.shutdown_cause.ensures
    c.note-2.ensures

pub returns-then-at-len-clause-sums : goal.returns-then-at-len-clause-sums
returns-then-at-len-clause-sums c = same_grow c.args.ledger.now.totals c.args.ledger.now.totals refl

pub returns-then-not-is_for-clause-sums : goal.returns-then-not-is_for-clause-sums
returns-then-not-is_for-clause-sums c = same_grow c.args.ledger.now.totals c.args.ledger.now.totals refl

pub returns-then-has_publisher-clause-sums : goal.returns-then-has_publisher-clause-sums
returns-then-has_publisher-clause-sums c =
    let seat = c.index-2.result.now in
    end_grows _ _ c.args.ledger.now.totals c.note.new.self.totals (c.note.ensures seat).sums

pub returns-clause-sums : goal.returns-clause-sums
returns-clause-sums c =
    let seat = c.index-2.result.now in
    end_grows _ _ c.args.ledger.now.totals c.note-2.new.self.totals (c.note-2.ensures seat).sums
