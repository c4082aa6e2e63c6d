-- The routes that the polling thread was requested to close.
use Rattle.std.specs.Prelude.{ℕ, List, map}
use Rattle.srt_supervision.specs.declared.watch.Answers.{Ghosts}
use Rattle.srt_serve.specs.declared.evidence.CloseRequest.{CloseRequest}

module _ {A : Type 0} {g : Ghosts A} where
  -- the indexes of these routes
  abbrev pub routes_of : List (CloseRequest A g) → List ℕ
  routes_of requests = map (λ q. q.route) requests
