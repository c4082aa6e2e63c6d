use Rattle.srt_watch.proofs.Logging.{logged_both}
use Rattle.srt_watch.proofs.Kept.{kept_both}
use Rattle.srt_watch.proofs.log.LogWriter.close.Goals as goal

pub returns-clause-logged : goal.returns-clause-logged
returns-clause-logged g c =
    logged_both _ _ _ _ _ _ _ _ c.end.ensures.logged
    (logged_both _ _ _ _ _ _ _ _ c.drain-first.ensures.logged
    (logged_both _ _ _ _ _ _ _ _ c.append_always.ensures.logged c.drain-last.ensures.logged))

pub returns-clause-events : goal.returns-clause-events
returns-clause-events g c =
    kept_both _ _ _ c.end.ensures.events
    (kept_both _ _ _ c.drain-first.ensures.events (kept_both _ _ _ c.append_always.ensures.events c.drain-last.ensures.events))
