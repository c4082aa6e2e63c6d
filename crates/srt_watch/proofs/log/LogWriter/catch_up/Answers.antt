use Rattle.std.proofs.Common.{sym, ◌∙◌, subst}
use Rattle.std.specs.Io.KnownBytes.{Keeps}
use Rattle.srt_watch.specs.Writes.{HasKeptCount}
use Rattle.srt_watch.proofs.Logging.{caught_up}
use Rattle.srt_watch.proofs.log.LogWriter.catch_up.Goals as goal

pub returns-then-count-eq0-clause-logged : goal.returns-then-count-eq0-clause-logged
returns-then-count-eq0-clause-logged g c =
    caught_up _ _ _ _ _ c.args.when _
    (subst (λ o. Keeps (g.W.Write.contents c.args.self.now.out.out) (g.W.Write.contents o)) (sym c.take_refused-count.ensures.out)
    c.flush-flushed.ensures.bytes)
    (λ e. c.take_refused-count.ensures.result ∙ c.flush-flushed.ensures.refused ∙ c.args.self.now.counted e)
    c.append_left_out.ensures.wrote

pub returns-else-count-eq0-clause-logged : goal.returns-else-count-eq0-clause-logged
returns-else-count-eq0-clause-logged g c =
    caught_up _ _ _ _ _ c.args.when _
    (subst (λ o. Keeps (g.W.Write.contents c.args.self.now.out.out) (g.W.Write.contents o)) (sym c.take_refused-count.ensures.out)
    c.flush-flushed.ensures.bytes)
    (λ e. c.take_refused-count.ensures.result ∙ c.flush-flushed.ensures.refused ∙ c.args.self.now.counted e)
    c.append_left_out.ensures.wrote

pub returns-then-count-eq0-clause-kept : goal.returns-then-count-eq0-clause-kept
returns-then-count-eq0-clause-kept g c =
    subst (λ n. HasKeptCount n c.args.when c.args.self.now.events.events.items c.append_left_out.new.self.events.events.items)
    (c.take_refused-count.ensures.result ∙ c.flush-flushed.ensures.refused) c.append_left_out.ensures.kept

pub returns-else-count-eq0-clause-kept : goal.returns-else-count-eq0-clause-kept
returns-else-count-eq0-clause-kept g c =
    subst (λ n. HasKeptCount n c.args.when c.args.self.now.events.events.items c.append_left_out.new.self.events.events.items)
    (c.take_refused-count.ensures.result ∙ c.flush-flushed.ensures.refused) c.append_left_out.ensures.kept
