use Rattle.std.proofs.Common.{◌≡◌}
use Rattle.srt_watch.proofs.PlacedRoutes.{unplaced_to}
use Rattle.srt_watch.proofs.watched_routes.unplace_all.Given as goal

abbrev pub invariant-loop-at : goal.invariant-loop-at
invariant-loop-at l = l.routes.items ≡ unplaced_to l.at l.fn.routes.items
