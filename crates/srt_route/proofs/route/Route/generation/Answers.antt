use Rattle.std.proofs.Common.{◌∙◌, arith}
use Rattle.srt_route.specs.Route.{after}
use Rattle.srt_route.proofs.steps.Closing.{generation_there, left_of, table_of}
use Rattle.srt_route.proofs.route.Route.generation.Goals as goal

pub returns-in-Open-clause-value : goal.returns-in-Open-clause-value
returns-in-Open-clause-value c e index items h below =
    let m = after e index items in
    generation_there e index c.args.self.now.clock c.in-Open.table m.sessions c.args.slot c.generation.result
    (table_of e index c.args.self.now m c.in-Open.table _ _ h c.in-Open.is) c.generation.ensures.value below

pub returns-in-Open-clause-none : goal.returns-in-Open-clause-none
returns-in-Open-clause-none c e index items h past =
    let is = table_of e index c.args.self.now (after e index items) c.in-Open.table _ _ h c.in-Open.is in
    c.generation.ensures.none (omega (arith, past, is.places_are))

pub returns-in-Closed-clause-value : goal.returns-in-Closed-clause-value
returns-in-Closed-clause-value c e index items h below =
    c.generation_at.ensures ∙ (left_of e index c.args.self.now (after e index items) _ h c.in-Closed.is).counts c.args.slot below

pub returns-in-Closed-clause-none : goal.returns-in-Closed-clause-none
returns-in-Closed-clause-none c e index items h past =
    c.generation_at.ensures ∙ (left_of e index c.args.self.now (after e index items) _ h c.in-Closed.is).none c.args.slot past
