use Rattle.std.proofs.Common.{[], refl, ◌∙◌, ◌++◌, subst}
use Rattle.srt_log.specs.Texts.{put}
use Rattle.srt_watch.specs.Log.{left_out_text, line_if, said}
use Rattle.srt_watch.specs.Writes.{HasKeptIf, HasKeptCount, given_if, given_some}
use Rattle.srt_watch.proofs.Logging.{logged_by, wrote_both}
use Rattle.srt_watch.proofs.Kept.{kept_both, kept_if}
use Rattle.srt_watch.proofs.log.LogWriter.append.Goals as goal

pub returns-clause-logged : goal.returns-clause-logged
returns-clause-logged g c =
    logged_by _ _ _ _ _ _ _ refl
    (λ s h. record {
      shares_stand = c.line-allowed.ensures.stands s.calls h.shares_stand;
      missed_is = h.missed_is;
      second_is = h.second_is;
      looks_is = h.looks_is;
    })
    (λ s h. λ i. left_out_text c.args.when (c.line-allowed.ensures.left_out s.calls h.shares_stand i)
    ++ line_if (c.line-allowed.ensures.written s.calls h.shares_stand i) c.args.when (said c.args.event))
    (wrote_both _ _ _ _ _ _ _ _ c.append_left_out.ensures.wrote c.write_if.ensures.wrote)

pub returns-clause-events : goal.returns-clause-events
returns-clause-events g c = kept_both _ _ _ (kept_if _ _ _ _ _ _ c.append_left_out.ensures.kept) (kept_if _ _ _ _ _ _ c.write_if.ensures.kept)

pub returns-clause-lines : goal.returns-clause-lines
returns-clause-lines g c = λ s h. record {
  middle = c.append_left_out.new.self.events.events.items;
  count_is =
      subst (λ n. HasKeptCount n c.args.when c.args.self.now.events.events.items c.append_left_out.new.self.events.events.items)
      (c.line-allowed.ensures.left_out s.calls h.shares_stand) c.append_left_out.ensures.kept;
  line_is =
      subst (λ b. HasKeptIf b c.append_left_out.new.self.events.events.items c.write_if.new.self.events.events.items c.args.when.moment
      (said c.args.event).is_refusal (put [] (said c.args.event).words))
      (c.line-allowed.ensures.written s.calls h.shares_stand) c.write_if.ensures.kept;
}

pub returns-clause-given : goal.returns-clause-given
returns-clause-given g c = λ s h.
    c.write_if.ensures.given
    ∙ (λ i. given_if (c.line-allowed.ensures.written s.calls h.shares_stand i) ((c.append_left_out.ensures.given
    ∙ (λ j. given_some (c.line-allowed.ensures.left_out s.calls h.shares_stand j) c.args.self.now.out.given)) i))
