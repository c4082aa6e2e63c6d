use Rattle.std.proofs.Common.{true, false, None, Some, Ok, ◌∙◌, refl, sym, ap}
use Rattle.std.specs.Prelude.{count_by}
use Rattle.std.specs.List.{position}
use Rattle.srt_route.specs.declared.agreement.Agreement.{Agreement}
use Rattle.srt_route.specs.Route.{is_crowded}
use Rattle.srt_route.specs.Tables.{has_address, is_vacant}
use Rattle.srt_route.proofs.stored.Stored.{free_at, none_free}
use Rattle.srt_route.proofs.steps.Steps.{answer_is, refused_is, crowded_is, kept_is}
use Rattle.srt_route.proofs.admission.admit.Goals as goal

pub returns-in-Some-clause-value : goal.returns-in-Some-clause-value
returns-in-Some-clause-value c e index clock ss h =
    answer_is e c.args.peer c.args.c.now ss (Some c.in-Some.cause) _ _ _
    (refused_is e index clock c.args.table.now ss c.args.table.now.mode c.args.table.now.open_publishers c.args.c.now c.refused.result h
    h.mode_is c.args.table.now.counted c.refused.ensures
    ∙ c.in-Some.is)
    refl refl refl

pub returns-then-is_crowded-clause-value : goal.returns-then-is_crowded-clause-value
returns-then-is_crowded-clause-value c e index clock ss h =
    answer_is e c.args.peer c.args.c.now ss None true _ _
    (refused_is e index clock c.args.table.now ss c.args.table.now.mode c.args.table.now.open_publishers c.args.c.now c.refused.result h
    h.mode_is c.args.table.now.counted c.refused.ensures
    ∙ c.in_default.is)
    (crowded_is e index clock c.args.table.now ss c.args.peer c.args.table.now.rules true h refl
    (sym c.if-is_crowded.true ∙ (c.is_crowded.ensures
    ∙ ap (λ seats. is_crowded c.args.table.now.rules.sessions_per_address (count_by (has_address c.args.peer.ip) seats)) c.deref.ensures.value)))
    refl refl

pub returns-in-None-clause-value : goal.returns-in-None-clause-value
returns-in-None-clause-value c e index clock ss h =
    answer_is e c.args.peer c.args.c.now ss None false None _
    (refused_is e index clock c.args.table.now ss c.args.table.now.mode c.args.table.now.open_publishers c.args.c.now c.refused.result h
    h.mode_is c.args.table.now.counted c.refused.ensures
    ∙ c.in_default.is)
    (crowded_is e index clock c.args.table.now ss c.args.peer c.args.table.now.rules false h refl
    (sym c.if-is_crowded.false ∙ (c.is_crowded.ensures
    ∙ ap (λ seats. is_crowded c.args.table.now.rules.sessions_per_address (count_by (has_address c.args.peer.ip) seats)) c.deref.ensures.value)))
    (none_free e index clock c.args.table.now ss h
    (ap (position is_vacant) (sym c.deref-3.ensures.value) ∙ (sym c.free_slot.ensures ∙ c.in-None.is)))
    refl

pub returns-then-is_reserved-clause-value : goal.returns-then-is_reserved-clause-value
returns-then-is_reserved-clause-value c e index clock ss h =
    answer_is e c.args.peer c.args.c.now ss None false (Some c.in-Some-free_slot.at) true
    (refused_is e index clock c.args.table.now ss c.args.table.now.mode c.args.table.now.open_publishers c.args.c.now c.refused.result h
    h.mode_is c.args.table.now.counted c.refused.ensures
    ∙ c.in_default.is)
    (crowded_is e index clock c.args.table.now ss c.args.peer c.args.table.now.rules false h refl
    (sym c.if-is_crowded.false ∙ (c.is_crowded.ensures
    ∙ ap (λ seats. is_crowded c.args.table.now.rules.sessions_per_address (count_by (has_address c.args.peer.ip) seats)) c.deref.ensures.value)))
    (free_at e index clock c.args.table.now ss c.in-Some-free_slot.at h
    (ap (position is_vacant) (sym c.deref-3.ensures.value) ∙ (sym c.free_slot.ensures ∙ c.in-Some-free_slot.is))).1
    (kept_is e index clock c.args.table.now ss c.args.c.now c.args.table.now.rules c.count_vacant-free.result
    c.args.table.now.open_publishers true h refl
    (c.count_vacant-free.ensures ∙ ap (count_by is_vacant) c.deref-2.ensures.value)
    c.args.table.now.counted
    (sym c.if-is_reserved.true ∙ c.is_reserved.ensures))

pub returns-else-is_reserved-clause-value : goal.returns-else-is_reserved-clause-value
returns-else-is_reserved-clause-value c e index clock ss h =
    ap (λ (a : Agreement). Ok (record { at = c.in-Some-free_slot.at; agreement = a })) (c.agree.ensures e h.mode_is h.latency_is h.rules_are)
    ∙ answer_is e c.args.peer c.args.c.now ss None false (Some c.in-Some-free_slot.at) false
    (refused_is e index clock c.args.table.now ss c.args.table.now.mode c.args.table.now.open_publishers c.args.c.now c.refused.result h
    h.mode_is c.args.table.now.counted c.refused.ensures
    ∙ c.in_default.is)
    (crowded_is e index clock c.args.table.now ss c.args.peer c.args.table.now.rules false h refl
    (sym c.if-is_crowded.false ∙ (c.is_crowded.ensures
    ∙ ap (λ seats. is_crowded c.args.table.now.rules.sessions_per_address (count_by (has_address c.args.peer.ip) seats)) c.deref.ensures.value)))
    (free_at e index clock c.args.table.now ss c.in-Some-free_slot.at h
    (ap (position is_vacant) (sym c.deref-3.ensures.value) ∙ (sym c.free_slot.ensures ∙ c.in-Some-free_slot.is))).1
    (kept_is e index clock c.args.table.now ss c.args.c.now c.args.table.now.rules c.count_vacant-free.result
    c.args.table.now.open_publishers false h refl
    (c.count_vacant-free.ensures ∙ ap (count_by is_vacant) c.deref-2.ensures.value)
    c.args.table.now.counted
    (sym c.if-is_reserved.false ∙ c.is_reserved.ensures))
