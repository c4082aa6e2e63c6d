use Rattle.std.proofs.Common.{◌∷◌, ◌++◌, subst, sym, ◌∙◌}
use Rattle.srt_watch.specs.FirstLines.{first_calls, unblocked_calls, warning_calls}
use Rattle.srt_watch.specs.Log.{Logged, Always}
use Rattle.srt_watch.proofs.Logging.{logged_both}
use Rattle.srt_watch.proofs.first_lines.FirstLines.log.Goals as goal

pub returns-clause-logged : goal.returns-clause-logged
returns-clause-logged g c =
    subst (λ o. Logged (g.W.Write.contents c.args.log.now.out.out) (g.W.Write.contents c.log_warnings.new.log.out.out) c.args.log.now.pace
    c.log_warnings.new.log.pace (first_calls o c.args.self.now.warnings.items c.args.when c.args.routes c.args.memory))
    (sym (sym c.take.ensures.value ∙ c.in-Some.is))
    (subst (λ w. Logged (g.W.Write.contents c.args.log.now.out.out) (g.W.Write.contents c.log_warnings.new.log.out.out) c.args.log.now.pace
    c.log_warnings.new.log.pace
    (Always c.args.when w ∷ (unblocked_calls c.args.when c.in-Some.start.is_blocked ++ warning_calls c.args.when c.args.self.now.warnings.items)))
    c.started.ensures
    (logged_both _ _ _ _ _ _ _ _ c.append_always.ensures.logged
    (logged_both _ _ _ _ _ _ _ _ c.log_unblocked.ensures c.log_warnings.ensures.logged)))
