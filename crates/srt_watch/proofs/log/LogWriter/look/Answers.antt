use Rattle.std.proofs.Common.{◌+◌, ap, ◌∙◌}
use Rattle.srt_watch.specs.Log.{most, state_after_all, text_of_all}
use Rattle.srt_watch.proofs.log.LogWriter.look.Goals as goal

pub returns-clause-logged : goal.returns-clause-logged
unfolding state_after_all text_of_all
returns-clause-logged g c =
    let l = c.catch_up.ensures.logged in
    record {
      whole_is = l.whole_is;
      state_is = λ s h. let k = l.state_is s h in record {
        shares_stand = k.shares_stand;
        missed_is = k.missed_is;
        second_is = k.second_is;
        looks_is = c.saturating_add-self.ensures ∙ ap (λ n. most (n + 1)) k.looks_is;
      };
      text_is = l.text_is;
    }
