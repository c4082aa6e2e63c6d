use Rattle.std.proofs.Common.{refl, sym, ◌∙◌}
use Rattle.std.proofs.lemmas.List.{take_rest}
use Rattle.srt_watch.proofs.OpenedLines.{leads_kept, leads_over, leads_over_too}
use Rattle.srt_watch.proofs.change_log.log_opens.Goals as goal

pub loop-rest-preserved : goal.loop-rest-preserved
loop-rest-preserved g c =
    leads_kept _ _ _ _ _ _ c.args.when c.loop-rest.index c.next_after-index.result c.loop-rest.rest.now _ c.loop-rest.routes.now _ _ _ _ _ _
    (sym c.is_empty.ensures ∙ c.loop-rest-test.true) (sym c.is_empty-in-loop-rest.ensures ∙ c.if-not-is_empty.true) refl c.index-routes-0.is
    c.next_after-index.ensures (take_rest c.loop-rest.rest.now 1) (take_rest c.loop-rest.routes.now 1) c.loop-rest.invariant c.log_if_opens.ensures

pub returns-else-not-is_empty : goal.returns-else-not-is_empty
returns-else-not-is_empty g c =
    leads_over_too _ _ _ _ c.args.when c.loop-rest.index c.loop-rest.rest.now c.loop-rest.routes.now _
    (sym c.is_empty-in-loop-rest.ensures ∙ c.if-not-is_empty.false) c.loop-rest.invariant

pub returns-after-loop-rest : goal.returns-after-loop-rest
returns-after-loop-rest g c =
    leads_over _ _ _ _ c.args.when c.loop-rest.index c.loop-rest.rest.now c.loop-rest.routes.now _ (sym c.is_empty.ensures ∙ c.loop-rest-test.false)
    c.loop-rest.invariant
