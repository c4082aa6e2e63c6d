use Rattle.std.proofs.Common.{ℕ, List, ◌∙◌, set, refl, sym, ap, subst}
use Rattle.srt_route.specs.Sessions.{Session, terms_of, time_in}
use Rattle.srt_route.specs.Parts.{buffers_used}
use Rattle.srt_route.specs.PublisherBuffers.{place_of}
use Rattle.srt_route.specs.Tables.{IsTable}
use Rattle.srt_route.specs.Waits.{replies_of}
use Rattle.srt_route.proofs.stored.Kept.{table_same}
use Rattle.srt_route.proofs.stored.Stored.{same_read}
use Rattle.srt_route.proofs.steps.Saying.{nothing_said, same_said, publisher_queued, publisher_gone, no_publisher_gone, no_publisher_says}
use Rattle.srt_route.proofs.steps.Saying.{seat_without, reporting_at, has_none}
use Rattle.srt_route.proofs.transmit.transmit_publisher.Goals as goal

pub returns-then-not-speaks-clause-table : goal.returns-then-not-speaks-clause-table
returns-then-not-speaks-clause-table c e index ss body =
    let without = seat_without e index c.args.clock c.args.table.now ss c.args.at c.index.result.now body c.index.ensures
    (sym c.speaks.ensures ∙ c.if-not-speaks.true) in
    table_same e index c.args.clock c.args.table.now _ _
    (subst (λ (ts : List Session). IsTable e index c.args.clock c.args.table.now ts)
    (sym (no_publisher_gone e index c.args.clock c.args.table.now ss c.args.at body without)) body)
    (refl, refl, refl, refl, refl, refl) refl refl

pub returns-then-not-speaks-clause-said : goal.returns-then-not-speaks-clause-said
returns-then-not-speaks-clause-said c e index ss body =
    let without = seat_without e index c.args.clock c.args.table.now ss c.args.at c.index.result.now body c.index.ensures
    (sym c.speaks.ensures ∙ c.if-not-speaks.true) in
    same_said (sym (no_publisher_says e c.args.clock ss c.args.at without)) (nothing_said (replies_of c.args.waiting.now) _)

pub returns-in_default-clause-table : goal.returns-in_default-clause-table
returns-in_default-clause-table c e index ss body =
    let same = same_read c.args.table.now.seats.items c.args.at c.index-2.result.now c.index.result.now c.requires.inside c.index-2.ensures c.index.ensures in
    absurd (has_none c.index.result.now c.index-2.result.now same c.in_default.is (sym c.speaks.ensures ∙ c.if-not-speaks.false))

pub returns-in_default-clause-said : goal.returns-in_default-clause-said
returns-in_default-clause-said c e index ss body =
    let same = same_read c.args.table.now.seats.items c.args.at c.index-2.result.now c.index.result.now c.requires.inside c.index-2.ensures c.index.ensures in
    absurd (has_none c.index.result.now c.index-2.result.now same c.in_default.is (sym c.speaks.ensures ∙ c.if-not-speaks.false))

pub returns-clause-table : goal.returns-clause-table
returns-clause-table c e index ss body =
    let table = c.args.table.now in
    let clock = c.args.clock in
    let it = reporting_at e index clock table ss c.args.at _ c.index.result.now c.index-2.result.now c.in-Some.session
    c.index_mut.result.now body c.requires.inside c.index.ensures c.index-2.ensures (sym c.speaks.ensures ∙ c.if-not-speaks.false)
    c.in-Some.is (c.place.ensures.value ∙ ap place_of c.buffers.ensures) c.index_mut.ensures.value in
    let s = it.session in
    publisher_gone e index clock table _ ss c.args.at s it.past (buffers_used c.in-Some.session.part) c.transmit_reports.new.publisher it.its it.speaking
    (record {
      alike = (refl, refl, refl, refl, refl, refl);
      seats_are = refl;
      publishers_are = ap (λ (n : ℕ). set table.publishers.items n c.transmit_reports.new.publisher)
          (c.place.ensures.value ∙ ap place_of c.buffers.ensures);
    })
    (c.transmit_reports.ensures.stands (terms_of e s).publisher s.conclusion.initial s.opening s.stamp s.conclusion.caller (time_in s clock)
    it.past it.buffers.moment it.buffers.stands)

pub returns-clause-said : goal.returns-clause-said
returns-clause-said c e index ss body =
    let table = c.args.table.now in
    let clock = c.args.clock in
    let it = reporting_at e index clock table ss c.args.at _ c.index.result.now c.index-2.result.now c.in-Some.session
    c.index_mut.result.now body c.requires.inside c.index.ensures c.index-2.ensures (sym c.speaks.ensures ∙ c.if-not-speaks.false)
    c.in-Some.is (c.place.ensures.value ∙ ap place_of c.buffers.ensures) c.index_mut.ensures.value in
    let s = it.session in
    publisher_queued e clock ss c.args.at s it.past c.in-Some.session.peer (replies_of c.args.waiting.now)
    (replies_of c.transmit_reports.new.waiting) _ _ it.its.here it.speaking it.peer_is
    (c.transmit_reports.ensures.said (terms_of e s).publisher s.conclusion.initial s.opening s.stamp s.conclusion.caller (time_in s clock)
    it.past it.buffers.moment it.buffers.stands)
