use Rattle.std.proofs.Common.{◌∙◌, ◌≡◌, ℕ, Bool, Option, map, sym, ap, subst}
use Rattle.std.specs.Prelude.{count_by}
use Rattle.srt_route.specs.Ends.{kept_of}
use Rattle.srt_route.specs.Route.{delivered, drain_end, gives_some}
use Rattle.srt_route.specs.Sessions.{open_publishers, settled, with_end}
use Rattle.srt_route.specs.Tables.{IsTable, has_draining}
use Rattle.srt_route.proofs.stored.Stored.{publishers_among}
use Rattle.srt_route.proofs.steps.Draining.{none_drained, still_none, still_settled}
use Rattle.srt_route.proofs.draining.deliver_and_end.Goals as goal

pub returns-then-count_draining-eq0-clause-table : goal.returns-then-count_draining-eq0-clause-table
returns-then-count_draining-eq0-clause-table c e index ss body =
    let clock = c.args.clock in
    let none : count_by has_draining c.args.table.now.seats.items ≡ 0 =
    sym (c.count_draining.ensures ∙ ap (count_by has_draining) c.deref.ensures.value) ∙ c.if-count_draining-eq0.true in
    still_settled e index clock (gives_some e clock ss) c.deliver.new.table (delivered e clock ss) (c.deliver.ensures e index ss body)
    (still_none e index clock c.args.table.now ss body none)

pub returns-then-count_draining-eq0-clause-ends : goal.returns-then-count_draining-eq0-clause-ends
returns-then-count_draining-eq0-clause-ends c e index ss body =
    let clock = c.args.clock in
    let none : count_by has_draining c.args.table.now.seats.items ≡ 0 =
    sym (c.count_draining.ensures ∙ ap (count_by has_draining) c.deref.ensures.value) ∙ c.if-count_draining-eq0.true in
    none_drained e index clock (delivered e clock ss) (kept_of c.args.ledger.now) (still_none e index clock c.args.table.now ss body none)

pub returns-clause-table : goal.returns-clause-table
returns-clause-table c e index ss body =
    let clock = c.args.clock in
    let fed = delivered e clock ss in
    let fed_is = c.deliver-2.ensures e index ss body in
    let given = c.gives_some-delivered.ensures e index ss body in
    let settled_is = c.settle_each.ensures.table e index fed fed_is in
    let later = map (settled e c.gives_some-delivered.result clock) fed in
    let end = c.drain_end-end.ensures
    ∙ ap (λ (n : ℕ). drain_end n c.settle_each.new.table.open_publishers)
    (c.deliver-2.new.table.counted ∙ publishers_among e index clock _ fed fed_is)
    ∙ ap (drain_end (open_publishers fed))
    (c.settle_each.new.table.counted ∙ publishers_among e index clock _ later settled_is) in
    subst
    (λ (g : Bool). IsTable e index clock c.note_end.new.table
    (map (with_end (drain_end (open_publishers fed) (open_publishers (map (settled e g clock) fed)))) (map (settled e g clock) fed)))
    given
    (subst (λ (x : Option Bool). IsTable e index clock c.note_end.new.table (map (with_end x) later)) end
    (c.note_end.ensures clock e index later settled_is))

pub returns-clause-ends : goal.returns-clause-ends
returns-clause-ends c e index ss body =
    c.settle_each.ensures.ends e index (delivered e c.args.clock ss) (c.deliver-2.ensures e index ss body)
