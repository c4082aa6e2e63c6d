use Rattle.std.proofs.Common.{◌≡◌, ℕ, false, List, ◌∙◌, set, refl, sym, ap, subst, arith}
use Rattle.std.specs.List.{list_any}
use Rattle.srt_route.specs.declared.publisher_buffers.PublisherBuffers.{PublisherBuffers}
use Rattle.srt_route.specs.Sessions.{Session, terms_of, time_in}
use Rattle.srt_route.specs.Tables.{IsTable, publishes_from}
use Rattle.srt_route.specs.inside.Delivery.{IsPublisherOf}
use Rattle.srt_route.proofs.stored.Publishers.{found_from}
use Rattle.srt_route.proofs.steps.Passing.{publisher_at}
use Rattle.srt_route.proofs.steps.Delivered.{has_past, standby_gone, none_stands_by}
use Rattle.srt_route.proofs.steps.Besides.{none_besides}
use Rattle.srt_route.proofs.standby.deliver_standby.Goals as goal

pub returns-then-table-lt2 : goal.returns-then-table-lt2
returns-then-table-lt2 c e index ss at s q its =
    let none = none_besides e index c.args.clock c.args.table.now ss at s q c.args.active its (omega (arith, c.if-table-lt2.true)) in
    subst (λ (ts : List Session). IsTable e index c.args.clock c.args.table.now ts)
    (sym (none_stands_by e index c.args.clock c.args.table.now ss at s q c.args.active its none)) its.body

pub returns-then-not-have_publisher : goal.returns-then-not-have_publisher
returns-then-not-have_publisher c e index ss at s q its =
    let none = subst (λ (b : PublisherBuffers). list_any (publishes_from b) c.args.table.now.seats.items ≡ false) c.other-which.ensures
    (sym (c.have_publisher.ensures ∙ ap (list_any (publishes_from c.other-which.result)) c.deref.ensures.value) ∙ c.if-not-have_publisher.true) in
    subst (λ (ts : List Session). IsTable e index c.args.clock c.args.table.now ts)
    (sym (none_stands_by e index c.args.clock c.args.table.now ss at s q c.args.active its none)) its.body

pub returns : goal.returns
returns c e index ss at s q its =
    let table = c.args.table.now in
    let which = c.other-which.result in
    let some = sym (c.have_publisher.ensures ∙ ap (list_any (publishes_from which)) c.deref.ensures.value) ∙ c.if-not-have_publisher.false in
    let other = found_from e index c.args.clock table ss which its.body some in
    let past = has_past e index c.args.clock table ss other.at other.session its.body other.here in
    let p = c.index_mut.result.now in
    let others : IsPublisherOf e index c.args.clock table ss other.at other.session past.0 which =
    record { body = its.body; here = past.1; uses = other.uses } in
    let is = publisher_at e index c.args.clock table ss other.at other.session past.0 which _ p others
    c.place.ensures.value c.index_mut.ensures.value in
    let t = other.session in
    standby_gone e index c.args.clock table _ ss at other.at s t q past.0 c.args.active which c.stand_by.new.publisher
    c.other-which.ensures
    its others
    (record {
      alike = (refl, refl, refl, refl, refl, refl);
      seats_are = refl;
      publishers_are = ap (λ (n : ℕ). set table.publishers.items n c.stand_by.new.publisher) c.place.ensures.value;
    })
    (c.stand_by.ensures (terms_of e t).publisher t.conclusion.initial t.opening t.stamp t.conclusion.caller (time_in t c.args.clock) past.0 is.moment is.stands)
