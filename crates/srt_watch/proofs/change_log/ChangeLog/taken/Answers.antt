use Rattle.std.proofs.Common.{◌∷◌}
use Rattle.srt_log.specs.declared.config_events.ConfigEvent.TheVariants as events
use Rattle.srt_watch.specs.ChangeLines.{config_said, route_calls}
use Rattle.srt_watch.specs.Log.{Always}
use Rattle.srt_watch.proofs.Logging.{logged_as, logged_both}
use Rattle.srt_watch.proofs.change_log.ChangeLog.taken.Goals as goal

pub returns-clause-logged : goal.returns-clause-logged
returns-clause-logged g c =
    logged_as _ _ _ _ _ _
    (λ i. Always c.args.when (config_said (events.Taken (c.numbers-routes.ensures i)))
    ∷ route_calls c.args.when (c.as_slice.ensures.value i) (c.wanted-wanted.ensures i) c.args.first)
    (logged_both _ _ _ _ _ _ _ _ c.write.ensures.logged c.log_routes.ensures)
