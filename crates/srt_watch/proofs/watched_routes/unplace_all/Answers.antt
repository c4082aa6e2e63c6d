use Rattle.std.proofs.Common.{◌≡◌, ap, ◌∙◌, length, arith}
use Rattle.srt_watch.proofs.PlacedRoutes.{unplaced_to, unplaced_all}
use Rattle.srt_watch.proofs.watched_routes.unplace_all.Goals as goal

pub returns : goal.returns
returns c =
    let all : c.loop-at.at ≡ length c.args.routes.now.items =
    omega (arith, c.loop-at-test.false, c.loop-at.auto.at-end, c.len-at-end.ensures, c.args.routes.now.ok.0) in
    c.loop-at.invariant ∙ ap (λ n. unplaced_to n c.args.routes.now.items) all ∙ unplaced_all c.args.routes.now.items
