use Rattle.std.proofs.Common.{refl, sym, ap, ◌∙◌, subst, length, map, rules}
use Rattle.std.proofs.lemmas.List.{take_rest}
use Rattle.srt_types.specs.Terms.{terms_of}
use Rattle.srt_watch.specs.Preparing.{HasClosings}
use Rattle.srt_watch.proofs.PreparedRoutes.{IsPartly, partly_begun, partly_kept, partly_done, fewer_by_one, one_named}
use Rattle.srt_watch.proofs.prepared_change.Preparation.of.Goals as goal

pub loop-rest-init : goal.loop-rest-init
loop-rest-init c =
    let w = c.args.wanted.now in
    record {
      partly =
          subst (λ l. IsPartly c.args.indexes.now w.changes.gone.items w.changes.routes.items (map terms_of w.config.entries.items) l
          c.as_slice-entries.result.now c.in_ok-prepared.prepared) (sym c.as_slice-rest.ensures.value)
          (subst (λ l. IsPartly c.args.indexes.now w.changes.gone.items w.changes.routes.items (map terms_of w.config.entries.items) w.changes.routes.items
          l c.in_ok-prepared.prepared) (sym c.as_slice-entries.ensures.value)
          (partly_begun c.args.indexes.now w.changes.gone.items w.changes.routes.items w.config.entries.items c.in_ok-prepared.prepared
          (subst (λ l. HasClosings c.args.indexes.now l c.in_ok-prepared.prepared) c.as_slice.ensures.value c.in_ok-prepared.ensures)));
      many = ap length c.as_slice-rest.ensures.value ∙ c.requires ∙ sym (ap length c.as_slice-entries.ensures.value);
    }

pub loop-rest-preserved : goal.loop-rest-preserved
loop-rest-preserved c = record {
  partly =
      partly_kept _ _ _ _ c.loop-rest.rest.now _ c.loop-rest.entries.now _ _ _ _ _ _ _ (sym c.is_empty.ensures ∙ c.loop-rest-test.true)
      c.loop-rest.invariant.many refl c.index-entries-0.is (take_rest c.loop-rest.rest.now 1) (take_rest c.loop-rest.entries.now 1)
      c.loop-rest.invariant.partly c.in-Ok.ensures.prepared;
  many =
      ap length (take_rest c.loop-rest.rest.now 1) ∙ fewer_by_one c.loop-rest.rest.now c.loop-rest.entries.now c.loop-rest.invariant.many
      ∙ sym (ap length (take_rest c.loop-rest.entries.now 1));
}

pub returns-clause-prepared : goal.returns-clause-prepared
returns-clause-prepared c = partly_done _ _ _ _ _ _ _ (search rules) c.loop-rest.invariant.partly

pub returns-in-Err-clause-no_room : goal.returns-in-Err-clause-no_room
returns-in-Err-clause-no_room c =
    one_named _ _ _ _ c.loop-rest.rest.now c.loop-rest.entries.now _ _ _ _ _ _
    (sym c.is_empty.ensures ∙ c.loop-rest-test.true) c.loop-rest.invariant.many refl c.index-entries-0-in-Err.is c.loop-rest.invariant.partly
    c.in-Err.ensures.refused c.of_route.ensures
