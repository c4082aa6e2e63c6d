use Rattle.std.proofs.Common.{rules, inl, inr}
use Rattle.srt_watch.proofs.GrownRoutes.{partly_shown, partly_routes}
use Rattle.srt_watch.proofs.watched_routes.WatchedRoutes.next_shown.Goals as goal
use Rattle.srt_watch.proofs.watched_routes.WatchedRoutes.next_shown.Goals.{then-loop-rest-test+else-not-is_empty, else-loop-rest-test}

pub returns-clause-routes : goal.returns-clause-routes
returns-clause-routes c = elim c.loop-rest-test.branch [
  | then-loop-rest-test+else-not-is_empty w ↦ partly_routes _ _ _ _ _ _ _ _ c.loop-rest.invariant.partly (inr (search rules))
  | else-loop-rest-test w ↦ partly_routes _ _ _ _ _ _ _ _ c.loop-rest.invariant.partly (inl (search rules))
]

pub returns-clause-shown : goal.returns-clause-shown
returns-clause-shown c = elim c.loop-rest-test.branch [
  | then-loop-rest-test+else-not-is_empty w ↦ partly_shown _ _ _ _ _ _ _ _ c.loop-rest.invariant.partly (inr (search rules))
  | else-loop-rest-test w ↦ partly_shown _ _ _ _ _ _ _ _ c.loop-rest.invariant.partly (inl (search rules))
]
