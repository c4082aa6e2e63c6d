use Rattle.srt_route.specs.Route.{after}
use Rattle.srt_route.proofs.steps.Closing.{all_ended, none_added, table_of}
use Rattle.srt_route.proofs.route.Route.totals.Goals as goal

pub returns-in-Open : goal.returns-in-Open
returns-in-Open c e index items h =
    let m = after e index items in
    c.add_to.ensures e index c.args.self.now.clock m.sessions (table_of e index c.args.self.now m c.in-Open.table _ _ h c.in-Open.is)

pub returns-in-Closed : goal.returns-in-Closed
returns-in-Closed c e index items h =
    none_added e index (after e index items).sessions e.sessions c.args.self.now.ledger.totals
    (all_ended e index items c.args.self.now _ h c.in-Closed.is)
