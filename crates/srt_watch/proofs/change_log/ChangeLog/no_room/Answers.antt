use Rattle.std.proofs.Common.{[], ◌∷◌, sym, ap, ◌∙◌}
use Rattle.srt_log.specs.declared.config_events.ConfigEvent.TheVariants.{NoMemory}
use Rattle.srt_watch.specs.ChangeLines.{config_said, no_room_said}
use Rattle.srt_watch.proofs.Logging.{logged_as}
use Rattle.srt_watch.specs.Log.{Always, lent}
use Rattle.srt_watch.proofs.change_log.ChangeLog.no_room.Goals as goal

pub returns-in-Route-clause-logged : goal.returns-in-Route-clause-logged
returns-in-Route-clause-logged g c =
    logged_as _ _ _ _ _ _
    (ap (λ w. Always c.args.when w ∷ [])
    (ap (λ name. config_said (NoMemory (lent name))) (c.as_bytes-route.ensures.value ∙ c.as_str.ensures.value)
    ∙ sym (ap no_room_said c.in-Route.is)))
    c.refuse.ensures.logged

pub returns-in-Lists-clause-logged : goal.returns-in-Lists-clause-logged
returns-in-Lists-clause-logged g c =
    logged_as _ _ _ _ _ _ (ap (λ w. Always c.args.when w ∷ []) (sym (ap no_room_said c.in-Lists.is))) c.refuse_for_memory.ensures.logged
