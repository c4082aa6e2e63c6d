use Rattle.std.proofs.Common.{[], ◌∷◌, sym, ap, ◌∙◌, option_map}
use Rattle.srt_log.specs.declared.events.LogEvent.TheVariants.{RefusedAgain}
use Rattle.srt_log.specs.declared.line_limits.LineKind.TheVariants.{Refusal}
use Rattle.srt_log.specs.Repeats.{caller_of}
use Rattle.srt_watch.specs.Log.{Offered, said, lent}
use Rattle.srt_watch.specs.Repeating.{again_calls}
use Rattle.srt_watch.proofs.Logging.{logged_as, logged_none}
use Rattle.srt_watch.proofs.refusals.log_again.Goals as goal

pub returns-in_default-clause-logged : goal.returns-in_default-clause-logged
returns-in_default-clause-logged g c =
    logged_none _ _ _ (ap (again_calls c.args.when) (sym c.take_due.ensures.due ∙ ap (option_map caller_of) c.in_default.is))

pub returns-clause-logged : goal.returns-clause-logged
returns-clause-logged g c =
    let x = c.in-Some.caller in
    logged_as _ _ _ _ _ _
    ((λ i. Offered c.args.when Refusal (said (RefusedAgain x.ip x.code (lent (c.as_slice.ensures.value i)) x.by x.count)) ∷ [])
    ∙ ap (again_calls c.args.when) (ap (option_map caller_of) (sym c.in-Some.is) ∙ c.take_due.ensures.due))
    c.append.ensures.logged
