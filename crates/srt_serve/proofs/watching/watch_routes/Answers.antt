use Rattle.std.proofs.Common.{◌∷◌, refl, []}
use Rattle.srt_serve.proofs.watching.watch_routes.Goals as goal

pub loop-preserved : goal.loop-preserved
loop-preserved g c =
    let before = c.loop.invariant in
    let turn = c.watch_once.ensures in (
      c.loop.known ∷ before.0,
      (
        before.1,
        record {
          left = c.watch_once.result.rested.left;
          faults = c.watch_once.result.rested.faults.number;
          missed = c.watch_once.result.rested.missed.number;
          order = c.watch_once.result.rested.order;
          is_quiet = c.watch_once.result.check.is_quiet;
          rested_is = turn.rested;
          known_is = turn.known;
        },
      ),
    )
