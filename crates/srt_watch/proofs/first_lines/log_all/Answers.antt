use Rattle.srt_watch.proofs.Logging.{logged_mapped}
use Rattle.srt_watch.proofs.first_lines.log_all.Goals as goal

pub loop-warning-preserved : goal.loop-warning-preserved
loop-warning-preserved g c =
    logged_mapped _ _ _ _ _ _ _ _ _ _ c.loop-warning-test.true c.loop-warning.invariant c.log_warning.ensures
