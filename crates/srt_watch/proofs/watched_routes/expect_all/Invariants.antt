use Rattle.std.proofs.Common.{◌≡◌}
use Rattle.srt_watch.proofs.ExpectedRoutes.{expecting_to}
use Rattle.srt_watch.proofs.watched_routes.expect_all.Given as goal

abbrev pub invariant-loop-at : goal.invariant-loop-at
invariant-loop-at l = l.shown.items ≡ expecting_to l.at l.fn.expected l.fn.shown.items
