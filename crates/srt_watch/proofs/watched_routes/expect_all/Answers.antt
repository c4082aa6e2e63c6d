use Rattle.std.proofs.Common.{◌≡◌, ap, ◌∙◌, length, arith}
use Rattle.srt_watch.proofs.ExpectedRoutes.{expecting_to, expecting_all}
use Rattle.srt_watch.proofs.watched_routes.expect_all.Goals as goal

pub returns : goal.returns
returns c =
    let all : c.loop-at.at ≡ length c.args.shown.now.items =
    omega (arith, c.loop-at-test.false, c.loop-at.auto.at-end, c.len-at-end.ensures, c.args.shown.now.ok.0) in
    c.loop-at.invariant ∙ ap (λ n. expecting_to n c.args.expected.now c.args.shown.now.items) all
    ∙ expecting_all c.args.expected.now c.args.shown.now.items
