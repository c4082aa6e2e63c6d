use Rattle.std.proofs.Common.{[], ◌∷◌, ap}
use Rattle.srt_log.specs.declared.config_events.ConfigEvent.TheVariants.{Wrong}
use Rattle.srt_watch.specs.ChangeLines.{config_said}
use Rattle.srt_watch.specs.Log.{Always, lent}
use Rattle.srt_watch.proofs.Logging.{logged_as}
use Rattle.srt_watch.proofs.change_log.ChangeLog.refuse_for_memory.Goals as goal

pub returns-clause-logged : goal.returns-clause-logged
returns-clause-logged g c =
    logged_as _ _ _ _ _ _ (ap (λ why. Always c.args.when (config_said (Wrong (lent why))) ∷ []) c.as_bytes-why.ensures.value) c.refuse.ensures.logged
