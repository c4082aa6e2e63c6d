use Rattle.std.proofs.Common.{◌≡◌, [], ◌∷◌, IfSome, ap, ◌∙◌, subst}
use Rattle.srt_watch.specs.Course.{stop_of, after_stop}
use Rattle.srt_watch.specs.Log.{Missed}
use Rattle.srt_watch.specs.Losses.{more_missed}
use Rattle.srt_watch.specs.Watching.{stop_calls}
use Rattle.srt_watch.proofs.Logging.{logged_as, logged_both}
use Rattle.srt_watch.proofs.watcher.Watcher.turn.Goals as goal

pub returns-clause-turned : goal.returns-clause-turned
returns-clause-turned g c =
    let course = ap (λ s. s.course) c.note_status.ensures.others.0 ∙ c.begin.ensures.course in
    record {
      memory = c.begin.ensures.logged.memory;
      memory_is = c.begin.ensures.logged.memory_is;
      requested = c.check_stop.ensures.checked.requested;
      requested_is =
          subst (λ z. IfSome z (λ s. c.check_stop.ensures.checked.requested ≡ s.stops)) (c.note_status.ensures.machine ∙ c.begin.ensures.machine)
          c.check_stop.ensures.checked.said;
      course_is = c.check_stop.ensures.checked.course_is ∙ ap (λ k. after_stop k c.check_stop.ensures.checked.requested c.args.when.moment) course;
      logged =
          logged_both _ _ _ _ _ _ _ _ c.begin.ensures.logged.logged
          (logged_both _ _ _ _ _ _ _ _
          (logged_as _ _ _ _ _ _ (ap (λ l. Missed (more_missed l c.args.status.missed) ∷ []) c.begin.ensures.others.1) c.note_status.ensures.logged)
          (logged_both _ _ _ _ _ _ _ _ c.end_second.ensures.logged
          (logged_both _ _ _ _ _ _ _ _ c.look.ensures.logged
          (logged_as _ _ _ _ _ _
          (ap (λ k. stop_calls c.args.when (stop_of k c.check_stop.ensures.checked.requested c.args.when.moment)) course)
          c.check_stop.ensures.checked.logged))));
    }
