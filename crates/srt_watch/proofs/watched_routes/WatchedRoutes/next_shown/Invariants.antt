use Rattle.std.proofs.Common.{◌≡◌, ◌≤◌, ◌+◌, ◌++◌, Some, length, map}
use Rattle.std.specs.Vec.{vec_len, vec_capacity}
use Rattle.std.specs.Vec.Iter.{into_iter_items, into_iter_len}
use Rattle.srt_watch.specs.Placing.{opened_routes, next_statuses}
use Rattle.srt_watch.proofs.GrownRoutes.{ArePartly}
use Rattle.srt_watch.proofs.watched_routes.WatchedRoutes.next_shown.Given as goal

abbrev pub invariant-loop-rest : goal.invariant-loop-rest
invariant-loop-rest l = record {
  partly : ArePartly (next_statuses (map Some l.fn.self.shown.items) l.changes l.indexes l.fn.opening.items)
      (l.fn.self.routes.items ++ opened_routes l.changes l.indexes l.fn.opening.items)
      l.rest l.left (into_iter_items l.opening) l.self.routes.items l.self.shown.items l.list.items;
  many : into_iter_len l.opening ≡ length (into_iter_items l.opening);
  room : vec_len l.self.routes + length (into_iter_items l.opening) ≤ vec_capacity l.self.routes;
  fits : vec_len l.list + length l.rest ≤ vec_capacity l.list;
}

abbrev pub decreases-loop-rest : goal.decreases-loop-rest
decreases-loop-rest l = length l.rest
