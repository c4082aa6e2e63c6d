use Rattle.std.proofs.Common.{◌≡◌, true, false, IfSome, refl, ap, ◌∙◌, subst, rules}
use Rattle.srt_watch.specs.Course.{is_due}
use Rattle.srt_watch.specs.Repeating.{known_by, taken_to, repeat_calls}
use Rattle.srt_watch.specs.Turns.{HasUse, Early, Due}
use Rattle.srt_watch.proofs.Logging.{logged_as, logged_both}
use Rattle.srt_watch.proofs.watcher.WatcherWatch.wants_routes.Goals as goal

pub returns-then-not-is_snapshot_due-clause-course : goal.returns-then-not-is_snapshot_due-clause-course
returns-then-not-is_snapshot_due-clause-course g c =
    let due : false ≡ is_due c.args.self.now.steering.course c.now-when.result.moment = search rules in
    record {
      when = c.now-when.result;
      now_is = c.now-when.ensures.time;
      is_done = (due, c.is_snapshot_due.ensures.new, Early refl refl refl refl refl);
    }

pub returns-clause-course : goal.returns-clause-course
returns-clause-course g c =
    let due : true ≡ is_due c.args.self.now.steering.course c.now-when.result.moment = search rules in
    let lost = c.log_losses.ensures.lost in
    record {
      when = c.now-when.result;
      now_is = c.now-when.ensures.time;
      is_done = (
        due,
        ap (λ s. s.course) c.log_losses.ensures.others.0 ∙ c.is_snapshot_due.ensures.new,
        Due lost.drops (subst (λ z. IfSome z (λ s. lost.drops ≡ s.drops)) c.now-when.ensures.machine lost.drops_are) lost.losses_are
            (c.log_repeats.ensures.known ∙ ap (λ r. taken_to (known_by r) c.now-when.result.moment 32) c.log_losses.ensures.kept.5)
            (subst (λ o. HasUse (g.M.Machine.says c.args.self.now.machine) o c.read_use.new.overview) lost.overview_is
            (subst (λ z. HasUse z c.log_losses.new.self.overview c.read_use.new.overview)
            (c.log_losses.ensures.machine ∙ c.now-when.ensures.machine) c.read_use.ensures))
            (logged_both _ _ _ _ _ _ _ _ lost.logged
            (logged_as _ _ _ _ _ _ (ap (λ r. repeat_calls c.now-when.result (known_by r) c.now-when.result.moment 32) c.log_losses.ensures.kept.5)
            c.log_repeats.ensures.logged)),
      );
    }
