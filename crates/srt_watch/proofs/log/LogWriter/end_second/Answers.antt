use Rattle.std.proofs.Common.{refl, ap, ◌∙◌, subst}
use Rattle.srt_watch.specs.Writes.{HasKeptCount, given_some}
use Rattle.srt_watch.proofs.Logging.{logged_by, missed_whole, polled_state, polled_count, polled_text}
use Rattle.srt_watch.proofs.Kept.{kept_if}
use Rattle.srt_watch.proofs.log.LogWriter.end_second.Goals as goal

pub returns-clause-logged : goal.returns-clause-logged
returns-clause-logged g c =
    logged_by _ _ _ _ _ _ _ (ap (λ p. p.is_whole) c.missed_by-missed.ensures.new ∙ missed_whole _ _)
    (polled_state _ _ _ c.args.when c.missed_by-missed.ensures.new refl refl refl c.poll-count.ensures.stands)
    (λ s h. polled_text c.args.self.now.pace (record c.args.self.now.pace { shares = c.poll-count.new.self })
    c.args.when _ _ _ c.saturating_add.ensures c.missed_by-missed.ensures.result refl refl s h
    (c.poll-count.ensures.left_out s.calls h.shares_stand))
    c.append_left_out.ensures.wrote

pub returns-clause-events : goal.returns-clause-events
returns-clause-events g c = kept_if _ _ _ _ _ _ c.append_left_out.ensures.kept

pub returns-clause-lines : goal.returns-clause-lines
returns-clause-lines g c = λ s h.
    subst (λ n. HasKeptCount n c.args.when c.args.self.now.events.events.items c.append_left_out.new.self.events.events.items)
    (polled_count c.args.self.now.pace (record c.args.self.now.pace { shares = c.poll-count.new.self })
    c.args.when _ _ _ c.saturating_add.ensures c.missed_by-missed.ensures.result refl refl s h
    (c.poll-count.ensures.left_out s.calls h.shares_stand))
    c.append_left_out.ensures.kept

pub returns-clause-given : goal.returns-clause-given
returns-clause-given g c = λ s h.
    c.append_left_out.ensures.given
    ∙ ap (λ n. given_some n c.args.self.now.out.given)
    (polled_count c.args.self.now.pace (record c.args.self.now.pace { shares = c.poll-count.new.self })
    c.args.when _ _ _ c.saturating_add.ensures c.missed_by-missed.ensures.result refl refl s h
    (c.poll-count.ensures.left_out s.calls h.shares_stand))
