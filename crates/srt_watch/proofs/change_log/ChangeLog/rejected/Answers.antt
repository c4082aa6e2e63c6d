use Rattle.std.proofs.Common.{[], ◌∷◌, sym, ap, ◌∙◌}
use Rattle.srt_log.specs.declared.config_events.ConfigEvent.TheVariants.{NoMemory, NoIndexes}
use Rattle.srt_watch.specs.ChangeLines.{config_said, rejected_said}
use Rattle.srt_watch.specs.Log.{Always, lent}
use Rattle.srt_watch.proofs.Logging.{logged_as}
use Rattle.srt_watch.proofs.change_log.ChangeLog.rejected.Goals as goal

pub returns-in-OutOfMemory-clause-logged : goal.returns-in-OutOfMemory-clause-logged
returns-in-OutOfMemory-clause-logged g c =
    logged_as _ _ _ _ _ _
    (ap (λ w. Always c.args.when w ∷ [])
    (ap (λ name. config_said (NoMemory (lent name))) (c.as_bytes-route.ensures.value ∙ c.name_at.ensures)
    ∙ sym (ap (rejected_said c.args.change.now.room.opening.items) c.in-OutOfMemory.is)))
    c.refuse.ensures.logged

pub returns-in-NoIndexLeft-clause-logged : goal.returns-in-NoIndexLeft-clause-logged
returns-in-NoIndexLeft-clause-logged g c =
    logged_as _ _ _ _ _ _
    (ap (λ w. Always c.args.when w ∷ [])
    (ap (λ n. config_said (NoIndexes n c.in-NoIndexLeft.left)) c.opens.ensures
    ∙ sym (ap (rejected_said c.args.change.now.room.opening.items) c.in-NoIndexLeft.is)))
    c.refuse-in-NoIndexLeft.ensures.logged
