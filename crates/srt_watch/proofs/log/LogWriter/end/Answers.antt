use Rattle.std.proofs.Common.{refl, sym, ap, ◌∙◌, ◌+◌, ◌++◌, subst}
use Rattle.srt_watch.specs.Log.{most, left_out_text, second_text, state_after_all}
use Rattle.srt_watch.specs.Writes.{HasKeptCount, given_some}
use Rattle.srt_watch.proofs.Logging.{logged_then}
use Rattle.srt_watch.proofs.Kept.{kept_both, kept_if}
use Rattle.srt_watch.proofs.log.LogWriter.end.Goals as goal

pub returns-clause-logged : goal.returns-clause-logged
returns-clause-logged g c =
    logged_then _ _ _ _ _ _ _ _ _ _ c.end_second.ensures.logged refl
    (λ s h. record {
      shares_stand = h.shares_stand;
      missed_is = c.replace-missed.ensures.after;
      second_is = h.second_is;
      looks_is = h.looks_is;
    })
    (λ s h. ap (λ t. second_text s c.args.when ++ left_out_text c.args.when t)
    (sym (c.saturating_add.ensures ∙ (λ i. most (c.left_out-left_out.ensures _ h.shares_stand i + (c.replace-missed.ensures.value ∙ h.missed_is) i)))))
    c.append_left_out.ensures.wrote

pub returns-clause-events : goal.returns-clause-events
returns-clause-events g c = kept_both _ _ _ c.end_second.ensures.events (kept_if _ _ _ _ _ _ c.append_left_out.ensures.kept)

pub returns-clause-lines : goal.returns-clause-lines
unfolding state_after_all
returns-clause-lines g c = λ s h.
    let k = c.end_second.ensures.logged.state_is s h in
    record {
      middle = c.end_second.new.self.events.events.items;
      first_is = c.end_second.ensures.lines s h;
      second_is =
          subst (λ n. HasKeptCount n c.args.when c.end_second.new.self.events.events.items c.append_left_out.new.self.events.events.items)
          (c.saturating_add.ensures ∙ (λ j. most (c.left_out-left_out.ensures _ k.shares_stand j + (c.replace-missed.ensures.value ∙ k.missed_is) j)))
          c.append_left_out.ensures.kept;
    }

pub returns-clause-given : goal.returns-clause-given
unfolding state_after_all
returns-clause-given g c = λ s h.
    let k = c.end_second.ensures.logged.state_is s h in
    c.append_left_out.ensures.given
    ∙ (λ i. given_some ((c.saturating_add.ensures
    ∙ (λ j. most (c.left_out-left_out.ensures _ k.shares_stand j + (c.replace-missed.ensures.value ∙ k.missed_is) j))) i) (c.end_second.ensures.given s h i))
