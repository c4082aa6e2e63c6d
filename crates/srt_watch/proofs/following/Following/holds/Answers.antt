use Rattle.std.proofs.Common.{[], ◌∷◌, sym, ap, ◌∙◌}
use Rattle.srt_watch.specs.ChangeLines.{held_said}
use Rattle.srt_watch.specs.Holding.{held_calls}
use Rattle.srt_watch.specs.Log.{Always}
use Rattle.srt_watch.proofs.Logging.{logged_as}
use Rattle.srt_watch.proofs.following.Following.holds.Goals as goal

pub returns-clause-logged : goal.returns-clause-logged
returns-clause-logged g c =
    logged_as _ _ _ _ _ _
    (ap (λ n. Always c.args.when (held_said n) ∷ []) c.name_of.ensures
    ∙ ap (held_calls c.args.when c.args.routes.now) (sym c.in-Some.is ∙ c.waits_for.ensures))
    c.held.ensures.logged
