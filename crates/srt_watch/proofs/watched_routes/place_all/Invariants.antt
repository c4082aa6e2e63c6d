use Rattle.std.proofs.Common.{◌≡◌, length}
use Rattle.srt_watch.specs.Placing.{placed_from, all_placed}
use Rattle.srt_watch.proofs.watched_routes.place_all.Given as goal

abbrev pub invariant-loop-rest : goal.invariant-loop-rest
invariant-loop-rest l = placed_from l.routes.items l.place l.rest ≡ all_placed l.fn.routes.items l.indexes

abbrev pub decreases-loop-rest : goal.decreases-loop-rest
decreases-loop-rest l = length l.rest
