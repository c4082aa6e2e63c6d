use Rattle.std.proofs.Common.{◌≡◌, length}
use Rattle.srt_watch.specs.Holding.{first_used}
use Rattle.srt_watch.proofs.watched_routes.WatchedRoutes.first_used.Given as goal

abbrev pub invariant-loop-rest : goal.invariant-loop-rest
invariant-loop-rest l = first_used l.self l.indexes l.rest ≡ first_used l.self l.indexes l.gone

abbrev pub decreases-loop-rest : goal.decreases-loop-rest
decreases-loop-rest l = length l.rest
