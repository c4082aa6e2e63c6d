use Rattle.std.proofs.Common.{Bool, ◌&&◌, not, refl, sym, ap, ◌∙◌}
use Rattle.std.specs.List.{list_all}
use Rattle.srt_route.specs.Route.{after}
use Rattle.srt_route.specs.Rests.{is_any_open}
use Rattle.srt_route.specs.Tables.{is_vacant}
use Rattle.srt_route.proofs.steps.Closing.{table_of, was_closed, was_open}
use Rattle.srt_route.proofs.steps.Resting.{vacant_at_rest}
use Rattle.srt_route.proofs.route.Route.is_at_rest.Goals as goal

pub returns-in-Open : goal.returns-in-Open
returns-in-Open c e index items h =
    let m = after e index items in
    let ss = m.sessions in
    c.are_vacant.ensures
    ∙ (ap (list_all is_vacant) c.deref.ensures.value
    ∙ (vacant_at_rest e index c.args.self.now.clock c.in-Open.table ss (is_any_open ss) refl
    (table_of e index c.args.self.now m c.in-Open.table _ _ h c.in-Open.is)
    ∙ ap (λ (b : Bool). not b && not (is_any_open ss)) (sym (was_open e index c.args.self.now m c.in-Open.table _ _ h c.in-Open.is))))

pub returns-in-Closed : goal.returns-in-Closed
returns-in-Closed c e index items h =
    ap (λ (b : Bool). not b && not (is_any_open (after e index items).sessions))
    (sym (was_closed e index c.args.self.now (after e index items) _ h c.in-Closed.is))
