use Rattle.srt_watch.proofs.Logging.{logged_both}
use Rattle.srt_watch.proofs.watcher.log_pair.Goals as goal

pub returns : goal.returns
returns g c = logged_both _ _ _ _ _ _ _ _ (logged_both _ _ _ _ _ _ _ _ c.log_changes.ensures c.log_limits.ensures) c.log_absence.ensures
