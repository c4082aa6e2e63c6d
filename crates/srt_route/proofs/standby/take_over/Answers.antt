use Rattle.std.proofs.Common.{Bool, ◌∙◌, refl, sym, subst}
use Rattle.srt_route.specs.Sessions.{marked_if}
use Rattle.srt_route.specs.Tables.{IsTable}
use Rattle.srt_route.proofs.steps.Overtaking.{taken_over}
use Rattle.srt_route.proofs.standby.take_over.Goals as goal

pub returns-then-is_takeover_due : goal.returns-then-is_takeover_due
returns-then-is_takeover_due c e index ss h =
    taken_over e index c.args.clock c.args.table.now _ ss h (sym (c.is_takeover_due.ensures e index ss h) ∙ c.if-is_takeover_due.true)
    (refl, refl, refl, refl, refl) refl refl c.other-table.ensures

pub returns-else-is_takeover_due : goal.returns-else-is_takeover_due
returns-else-is_takeover_due c e index ss h =
    subst (λ (b : Bool). IsTable e index c.args.clock c.args.table.now (marked_if b ss))
    (sym (sym (c.is_takeover_due.ensures e index ss h) ∙ c.if-is_takeover_due.false)) h
