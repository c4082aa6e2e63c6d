use Rattle.std.proofs.Common.{◌∙◌, ℕ, Bool, Option, map, sym, ap, subst}
use Rattle.std.specs.Prelude.{count_by}
use Rattle.srt_types.specs.declared.shared.Callers.{Callers}
use Rattle.srt_types.specs.declared.shared.Rules.{Rules}
use Rattle.srt_route.specs.Sessions.{aged, marked_if, of_libsrt, open_publishers, silent_end, takes_over, with_end}
use Rattle.srt_route.specs.Tables.{IsTable, has_expired}
use Rattle.srt_route.proofs.stored.Stored.{publishers_among}
use Rattle.srt_route.proofs.steps.Expiring.{lead_publishes, none_expired, still_aged}
use Rattle.srt_route.proofs.silence.advance.Goals as goal

pub returns-then-count_expired-eq0-clause-table : goal.returns-then-count_expired-eq0-clause-table
returns-then-count_expired-eq0-clause-table c e index before ss h later early =
    still_aged e index before c.args.clock c.args.table.now c.age.new.table ss h
    (sym (c.count_expired.ensures ∙ ap (count_by (has_expired c.args.clock)) c.deref.ensures.value) ∙ c.if-count_expired-eq0.true)
    (c.age.ensures.table e index before ss h later early)

pub returns-then-count_expired-eq0-clause-ended : goal.returns-then-count_expired-eq0-clause-ended
returns-then-count_expired-eq0-clause-ended c =
    none_expired c.args.clock c.args.table.now c.args.ledger.now
    (sym (c.count_expired.ensures ∙ ap (count_by (has_expired c.args.clock)) c.deref.ensures.value) ∙ c.if-count_expired-eq0.true)

pub returns-clause-table : goal.returns-clause-table
returns-clause-table c e index before ss h later early =
    let clock = c.args.clock in
    let older = map (aged e clock) ss in
    let took_is = c.age-2.ensures.table e index before ss h later early in
    let marked_are = marked_if (takes_over e clock older) older in
    let end = c.of_libsrt.ensures
    ∙ ap (λ (k : Callers). of_libsrt k c.silent_end-end.result) (ap (λ (r : Rules). r.callers) took_is.rules_are)
    ∙ ap (of_libsrt e.rules.callers) (c.silent_end-end.ensures
    ∙ ap (λ (n : ℕ). silent_end n c.age-2.new.table.open_publishers)
    (c.args.table.now.counted ∙ publishers_among e index _ _ _ h)
    ∙ ap (silent_end (open_publishers ss))
    (c.age-2.new.table.counted ∙ publishers_among e index _ _ _ took_is
    ∙ lead_publishes (takes_over e clock older) older)) in
    subst (λ (x : Option Bool). IsTable e index clock c.note_end.new.table (map (with_end x) marked_are)) end
    (c.note_end.ensures clock e index marked_are took_is)
