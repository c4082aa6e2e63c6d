use Rattle.std.proofs.Common.{◌≡◌, ◌-◌, ◌^◌, IfSome, ap, ◌∙◌, subst}
use Rattle.srt_watch.specs.Repeating.{known_by, repeat_calls}
use Rattle.srt_watch.specs.Turns.{rounds_unless}
use Rattle.srt_watch.specs.Watching.{stop_calls}
use Rattle.srt_watch.proofs.Logging.{logged_as, logged_both}
use Rattle.srt_watch.proofs.watcher.Watcher.end.Goals as goal

pub returns-clause-ended : goal.returns-clause-ended
returns-clause-ended g c = record {
  when = c.now-when.result;
  now_is = c.now-when.ensures.time;
  is_done = (
    record {
      drops = c.log_losses.ensures.lost.drops;
      drops_are =
          subst (λ z. IfSome z (λ s. c.log_losses.ensures.lost.drops ≡ s.drops)) c.now-when.ensures.machine c.log_losses.ensures.lost.drops_are;
      logged =
          logged_both _ _ _ _ _ _ _ _
          (logged_as _ _ _ _ _ _ (ap (stop_calls c.now-when.result) (c.rounds_unless-by.ensures ∙ ap rounds_unless c.is_stopping.ensures))
          c.log_stop.ensures)
          (logged_both _ _ _ _ _ _ _ _ c.log_losses.ensures.lost.logged
          (logged_both _ _ _ _ _ _ _ _
          (logged_as _ _ _ _ _ _ (ap (λ r. repeat_calls c.now-when.result (known_by r) (2 ^ 64 - 1) 32) c.log_losses.ensures.kept.5)
          c.log_repeats.ensures.logged)
          c.close.ensures.logged));
    },
    c.close.ensures.closed,
  );
}
