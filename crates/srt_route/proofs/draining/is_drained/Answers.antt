use Rattle.std.proofs.Common.{◌≡◌, ◌∙◌, Some, get_or, sym, ap}
use Rattle.std.proofs.lemmas.List.{get_or_default}
use Rattle.srt_route.specs.declared.seat.Seat.{Seat}
use Rattle.srt_route.proofs.steps.Draining.{draining_ends}
use Rattle.srt_route.proofs.draining.is_drained.Goals as goal

pub returns-else-not-drains : goal.returns-else-not-drains
returns-else-not-drains c d =
    let table = c.args.table.now in
    let x = c.index.result.now in
    let t = c.in-Some.session in
    let stored : (get_or table.seats.items c.args.at d).session ≡ Some t =
    ap (λ (z : Seat). z.session) (sym (c.index.ensures ∙ get_or_default table.seats.items c.args.at x d c.requires)) ∙ c.in-Some.is in
    draining_ends table.publishers.items (get_or table.seats.items c.args.at d) t c.has_left.result stored
    (sym c.drains.ensures ∙ c.if-not-drains.false) (c.has_left.ensures d)
