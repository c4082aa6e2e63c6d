use Rattle.std.proofs.Common.{arith, subst}
use Rattle.srt_watch.specs.Pages.{ShowedPage}
use Rattle.srt_watch.specs.Routes.{used_of}
use Rattle.srt_watch.proofs.PagesShown.{rested_by_number, rested_by_time}
use Rattle.srt_watch.proofs.page.Page.rest.Goals as goal

pub returns-then-moment-ends-clause-rested : goal.returns-then-moment-ends-clause-rested
returns-then-moment-ends-clause-rested g c =
    rested_by_time _ _ _ _ _ _ _ _ _ _ _ _ _ c.is_awaited-is_awaited.result c.moment-began.result c.saturating_add-ends.result c.pause-moment.result
    c.is_awaited-is_awaited.ensures c.if-not-is_awaited.false c.loop-counts.invariant.none c.pause-moment.ensures.rested c.moment-began.ensures.known
    c.pause-moment.ensures.known c.saturating_add-ends.ensures (omega (arith, c.if-moment-ends.true)) c.loop-counts.invariant.shown
    (subst (λ v. ShowedPage g.M.Machine.facts (g.P.StatusServer.shown c.loop-counts.self.server) (g.P.StatusServer.shown c.pause-moment.new.self.server)
    c.args.overview.now c.args.counts v c.args.routes.now.shown.items (used_of c.args.routes.now.routes.items) c.args.events.now.events.items)
    c.loop-counts.invariant.version c.pause-moment.ensures.shown)

pub returns-clause-rested : goal.returns-clause-rested
returns-clause-rested g c =
    rested_by_number _ _ _ _ _ _ _ _ _ _ _ c.is_awaited-is_awaited.result c.is_awaited-is_awaited.ensures c.if-not-is_awaited.false c.loop-counts.invariant.none
    (omega (arith, c.loop-counts-test.false, c.loop-counts.invariant.few, c.pauses.ensures)) c.loop-counts.invariant.shown
