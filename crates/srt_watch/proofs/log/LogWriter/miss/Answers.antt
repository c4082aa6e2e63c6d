use Rattle.std.proofs.Common.{[], ◌+◌, refl, ap, ◌∙◌}
use Rattle.srt_watch.proofs.Logging.{logged_by, wrote_nothing}
use Rattle.srt_watch.specs.Log.{most}
use Rattle.srt_watch.proofs.log.LogWriter.miss.Goals as goal

pub returns-clause-logged : goal.returns-clause-logged
returns-clause-logged g c =
    logged_by _ _ _ _ _ _ [] refl
    (λ s h. record {
      shares_stand = h.shares_stand;
      missed_is = c.saturating_add-self.ensures ∙ ap (λ n. most (n + c.args.count)) h.missed_is;
      second_is = h.second_is;
      looks_is = h.looks_is;
    })
    (λ s h. refl) (wrote_nothing _ _)
