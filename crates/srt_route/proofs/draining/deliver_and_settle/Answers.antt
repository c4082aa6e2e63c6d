use Rattle.std.proofs.Common.{◌∙◌, refl, sym, ap, subst}
use Rattle.srt_types.specs.declared.shared.Callers.{Callers}
use Rattle.srt_types.specs.declared.shared.Callers.TheVariants.{Draft}
use Rattle.srt_types.specs.declared.shared.Rules.{Rules}
use Rattle.srt_route.specs.Ends.{EndsAre, kept_of, settled_ending}
use Rattle.srt_route.specs.Route.{delivered, gives_some, settled_by}
use Rattle.srt_route.specs.Tables.{IsTable}
use Rattle.srt_route.proofs.steps.Notified.{none_notified}
use Rattle.srt_route.proofs.draining.deliver_and_settle.Goals as goal

pub returns-in-Draft-clause-table : goal.returns-in-Draft-clause-table
returns-in-Draft-clause-table c e index ss body =
    subst
    (λ (k : Callers). IsTable e index c.args.clock c.deliver.new.table
    (settled_by k e c.args.clock (gives_some e c.args.clock ss) (delivered e c.args.clock ss)))
    (sym c.in-Draft.is ∙ ap (λ (r : Rules). r.callers) body.rules_are) (c.deliver.ensures e index ss body)

pub returns-in-Libsrt-clause-table : goal.returns-in-Libsrt-clause-table
returns-in-Libsrt-clause-table c e index ss body =
    subst
    (λ (k : Callers). IsTable e index c.args.clock c.deliver_and_end.new.table
    (settled_by k e c.args.clock (gives_some e c.args.clock ss) (delivered e c.args.clock ss)))
    (sym c.in-Libsrt.is ∙ ap (λ (r : Rules). r.callers) body.rules_are) (c.deliver_and_end.ensures.table e index ss body)

pub returns-in-Libsrt-clause-ends : goal.returns-in-Libsrt-clause-ends
returns-in-Libsrt-clause-ends c e index ss body =
    subst
    (λ (k : Callers). EndsAre e index (settled_ending k e) c.args.clock (delivered e c.args.clock ss) (kept_of c.args.ledger.now)
    (kept_of c.deliver_and_end.new.ledger))
    (sym c.in-Libsrt.is ∙ ap (λ (r : Rules). r.callers) body.rules_are) (c.deliver_and_end.ensures.ends e index ss body)

pub returns-in-Draft-clause-ends : goal.returns-in-Draft-clause-ends
returns-in-Draft-clause-ends c e index ss body =
    let kept = kept_of c.args.ledger.now in
    subst (λ (k : Callers). EndsAre e index (settled_ending k e) c.args.clock (delivered e c.args.clock ss) kept kept)
    (sym c.in-Draft.is ∙ ap (λ (r : Rules). r.callers) body.rules_are)
    (none_notified e index (settled_ending Draft e) c.args.clock (delivered e c.args.clock ss) kept kept (λ at s found. refl) (λ at. refl) refl)
