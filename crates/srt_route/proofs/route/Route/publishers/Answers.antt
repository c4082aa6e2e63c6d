use Rattle.std.proofs.Common.{◌∙◌, sym}
use Rattle.srt_route.specs.Route.{after}
use Rattle.srt_route.proofs.steps.Closing.{all_ended, no_publishers, table_of}
use Rattle.srt_route.proofs.stored.Stored.{publishers_among}
use Rattle.srt_route.proofs.route.Route.publishers.Goals as goal

pub returns-in-Open : goal.returns-in-Open
returns-in-Open c e index items h =
    c.in-Open.table.counted
    ∙ publishers_among e index _ _ _ (table_of e index c.args.self.now (after e index items) c.in-Open.table _ _ h c.in-Open.is)

pub returns-in-Closed : goal.returns-in-Closed
returns-in-Closed c e index items h =
    sym (no_publishers (after e index items).sessions (all_ended e index items c.args.self.now _ h c.in-Closed.is))
