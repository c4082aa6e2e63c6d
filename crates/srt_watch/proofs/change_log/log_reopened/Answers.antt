use Rattle.srt_watch.proofs.ChangedRoutes.{logged_flat}
use Rattle.srt_watch.proofs.change_log.log_reopened.Goals as goal

pub loop-change-preserved : goal.loop-change-preserved
loop-change-preserved g c =
    logged_flat _ _ _ _ _ _ _ _ _ _ c.loop-change-test.true c.loop-change.invariant c.log_if_reopened.ensures
