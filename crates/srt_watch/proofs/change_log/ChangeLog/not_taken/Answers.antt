use Rattle.std.proofs.Common.{[], ◌∷◌, sym, ap, ◌∙◌}
use Rattle.srt_log.specs.declared.config_events.ConfigEvent.TheVariants.{Unread, Wrong}
use Rattle.srt_watch.specs.ChangeLines.{config_said, not_taken_said}
use Rattle.srt_watch.specs.Log.{Always, lent}
use Rattle.srt_watch.proofs.Logging.{logged_as}
use Rattle.srt_watch.proofs.change_log.ChangeLog.not_taken.Goals as goal

pub returns-in-Unread-clause-logged : goal.returns-in-Unread-clause-logged
returns-in-Unread-clause-logged g c =
    logged_as _ _ _ _ _ _
    (ap (λ w. Always c.args.when w ∷ [])
    (ap (λ why. config_said (Unread (lent why))) (c.as_bytes-why.ensures.value ∙ c.as_str.ensures.value)
    ∙ sym (ap not_taken_said c.in-Unread.is)))
    c.write.ensures.logged

pub returns-in-Wrong-clause-logged : goal.returns-in-Wrong-clause-logged
returns-in-Wrong-clause-logged g c =
    logged_as _ _ _ _ _ _
    (ap (λ w. Always c.args.when w ∷ [])
    (ap (λ why. config_said (Wrong (lent why))) (c.as_bytes-why-in-Wrong.ensures.value ∙ c.as_str-in-Wrong.ensures.value)
    ∙ sym (ap not_taken_said c.in-Wrong.is)))
    c.refuse.ensures.logged

pub returns-in-NoMemory-clause-logged : goal.returns-in-NoMemory-clause-logged
returns-in-NoMemory-clause-logged g c =
    logged_as _ _ _ _ _ _ (ap (λ w. Always c.args.when w ∷ []) (sym (ap not_taken_said c.in-NoMemory.is))) c.refuse_for_memory.ensures.logged

pub returns-in-KeysDiffer-clause-logged : goal.returns-in-KeysDiffer-clause-logged
returns-in-KeysDiffer-clause-logged g c =
    logged_as _ _ _ _ _ _ (ap (λ w. Always c.args.when w ∷ []) (sym (ap not_taken_said c.in-KeysDiffer.is))) c.refuse-in-KeysDiffer.ensures.logged
