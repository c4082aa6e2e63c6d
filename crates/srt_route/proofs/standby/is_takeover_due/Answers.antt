use Rattle.std.proofs.Common.{◌≡◌, ◌∙◌, ◌==◌, ℕ, Bool, true, false, not, Option, Some, count_by, sym, ap, arith}
use Rattle.std.proofs.lemmas.Bool.{eq-eqb, ne_eqb}
use Rattle.srt_types.specs.declared.shared.Mode.{Mode}
use Rattle.srt_types.specs.declared.shared.Rules.{Rules}
use Rattle.srt_route.specs.Sessions.{number_draining, takeover_us, takes_over_after, takes_over_if}
use Rattle.srt_route.specs.Tables.{has_draining}
use Rattle.srt_route.proofs.stored.Stored.{draining_among}
use Rattle.srt_route.proofs.standby.is_takeover_due.Goals as goal

pub returns-then-count_draining-ne0 : goal.returns-then-count_draining-ne0
returns-then-count_draining-ne0 c e index ss h =
    let count = c.count_draining.ensures ∙ (ap (count_by has_draining) c.deref.ensures.value ∙ draining_among e index c.args.clock c.args.table.now ss h) in
    let some : (number_draining ss == 0) ≡ false =
    ne_eqb (number_draining ss) 0 (λ none. omega (arith, none, count, c.if-count_draining-ne0.true)) in
    sym (ap (λ (b : Bool). takes_over_if (not b) (takeover_us e.mode e.rules.takeover_ms) c.args.clock ss) some)

pub returns-else-count_draining-ne0 : goal.returns-else-count_draining-ne0
returns-else-count_draining-ne0 c e index ss h =
    let count = c.count_draining.ensures ∙ (ap (count_by has_draining) c.deref.ensures.value ∙ draining_among e index c.args.clock c.args.table.now ss h) in
    let none : (number_draining ss == 0) ≡ true =
    eq-eqb (number_draining ss) 0 (omega (arith, count, c.if-count_draining-ne0.false)) in
    let limit : takeover_us e.mode e.rules.takeover_ms ≡ Some c.in-Some.limit =
    sym (ap (λ (m : Mode). takeover_us m c.args.table.now.rules.takeover_ms) h.mode_is
    ∙ ap (λ (r : Rules). takeover_us e.mode r.takeover_ms) h.rules_are)
    ∙ (sym c.takeover_us.ensures ∙ c.in-Some.is) in
    c.has_failed.ensures e index ss h
    ∙ sym (ap (λ (b : Bool). takes_over_if (not b) (takeover_us e.mode e.rules.takeover_ms) c.args.clock ss) none
    ∙ ap (λ (o : Option ℕ). takes_over_after o c.args.clock ss) limit)
