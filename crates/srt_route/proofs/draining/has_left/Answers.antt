use Rattle.std.proofs.Common.{◌≡◌, ◌∙◌, Some, get_or, sym, ap, arith}
use Rattle.std.proofs.lemmas.List.{get_or_default}
use Rattle.srt_route.specs.PublisherBuffers.{place_of}
use Rattle.srt_route.specs.declared.seat.Seat.{Seat}
use Rattle.srt_route.proofs.steps.Draining.{publisher_left}
use Rattle.srt_route.proofs.draining.has_left.Goals as goal

pub returns-else-not-publishes : goal.returns-else-not-publishes
returns-else-not-publishes c d =
    let table = c.args.table.now in
    let x = c.index.result.now in
    let t = c.in-Some.session in
    let stored : (get_or table.seats.items c.args.at d).session ≡ Some t =
    ap (λ (z : Seat). z.session) (sym (c.index.ensures ∙ get_or_default table.seats.items c.args.at x d c.requires)) ∙ c.in-Some.is in
    publisher_left table.publishers.items (get_or table.seats.items c.args.at d) t c.place.result c.index-in-Some.result.now c.has_undelivered.result
    stored (sym c.publishes.ensures ∙ c.if-not-publishes.false) (c.place.ensures.value ∙ ap place_of c.buffers.ensures) c.index-in-Some.ensures
    (omega (arith, c.place.ensures.below, table.two)) c.has_undelivered.ensures
