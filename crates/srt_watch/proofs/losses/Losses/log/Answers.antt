use Rattle.std.proofs.Common.{◌++◌, subst, ap, ◌∙◌}
use Rattle.srt_watch.specs.Log.{Logged}
use Rattle.srt_watch.specs.Losses.{fault_calls, drop_calls}
use Rattle.srt_watch.proofs.Logging.{logged_both}
use Rattle.srt_watch.proofs.LossLines.{same_drops}
use Rattle.srt_watch.proofs.losses.Losses.log.Goals as goal

pub returns-clause-logged : goal.returns-clause-logged
returns-clause-logged g c =
    subst (λ x. Logged (g.W.Write.contents c.args.log.now.out.out) (g.W.Write.contents c.log_drops.new.log.out.out)
    c.args.log.now.pace c.log_drops.new.log.pace (fault_calls c.args.self.now c.args.when ++ x))
    (ap (λ l. drop_calls l c.args.when c.args.drops) c.log_faults.ensures.new ∙ same_drops c.args.self.now c.args.when c.args.drops)
    (logged_both _ _ _ _ _ _ _ _ c.log_faults.ensures.logged c.log_drops.ensures.logged)
