use Rattle.std.proofs.Common.{refl, ◌+◌, ap, ◌∙◌}
use Rattle.srt_watch.specs.Log.{most}
use Rattle.srt_watch.proofs.Logging.{logged_then}
use Rattle.srt_watch.proofs.Kept.{kept_both, kept_one}
use Rattle.srt_watch.proofs.log.LogWriter.append_always.Goals as goal

pub returns-clause-logged : goal.returns-clause-logged
returns-clause-logged g c = logged_then _ _ _ _ _ _ _ _ _ _ c.end_second.ensures.logged refl (λ s h. h) (λ s h. refl) c.write.ensures.wrote

pub returns-clause-events : goal.returns-clause-events
returns-clause-events g c = kept_both _ _ _ c.end_second.ensures.events (kept_one _ _ _ _ _ c.write.ensures.kept)

pub returns-clause-lines : goal.returns-clause-lines
returns-clause-lines g c = λ s h.
    record { middle = c.end_second.new.self.events.events.items; count_is = c.end_second.ensures.lines s h; line_is = c.write.ensures.kept }

pub returns-clause-given : goal.returns-clause-given
returns-clause-given g c = λ s h. c.write.ensures.given ∙ ap (λ n. most (n + 1)) (c.end_second.ensures.given s h)
