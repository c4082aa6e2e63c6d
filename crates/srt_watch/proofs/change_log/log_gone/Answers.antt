use Rattle.srt_watch.proofs.ChangedRoutes.{logged_flat}
use Rattle.srt_watch.proofs.change_log.log_gone.Goals as goal

pub loop-place-preserved : goal.loop-place-preserved
loop-place-preserved g c =
    logged_flat _ _ _ _ _ _ _ _ _ _ c.loop-place-test.true c.loop-place.invariant c.log_close_at.ensures
