use Rattle.std.proofs.Common.{Result, ◌∙◌, refl, sym, ap}
use Rattle.srt_hs.specs.declared.refusal_codes.RefusalCode.{RefusalCode}
use Rattle.srt_route.specs.declared.refusals.RefusalCause.{RefusalCause}
use Rattle.srt_route.specs.declared.admission.Admission.{Admission}
use Rattle.srt_route.specs.Route.{decision, refusal}
use Rattle.srt_route.specs.Tallies.{admitted_tally, tally_of}
use Rattle.srt_route.proofs.stored.Stored.{free_is_vacant}
use Rattle.srt_route.specs.Sessions.{open_publishers}
use Rattle.srt_route.proofs.steps.Steps.{not_admitted, is_admitted, opened_taken}
use Rattle.srt_route.proofs.model.TakeOver.{decided_slot, one_at_most}
use Rattle.srt_route.proofs.admission.consider.Goals as goal

pub returns-in-Ok-clause-taken : goal.returns-in-Ok-clause-taken
returns-in-Ok-clause-taken c e index ss h none =
    let at = c.in-Ok.admission.at in
    let peer = c.args.arrival.peer in
    let is = is_admitted e peer c.args.c ss c.in-Ok.admission (sym (c.admit.ensures.value e index c.args.arrival.clock ss h) ∙ c.in-Ok.is) in
    let slot = decided_slot e peer c.args.c ss at is.0 in
    opened_taken e index c.args.arrival.clock peer c.args.arrival.stamp c.args.c ss c.open_session.new.table _ (decision e peer c.args.c ss) at is.0
    (c.open_session.ensures e index ss h is.1 none (free_is_vacant e ss at slot.free)
    (one_at_most e.mode (open_publishers ss) c.args.c slot.reason))

pub returns-in-Err-clause-taken : goal.returns-in-Err-clause-taken
returns-in-Err-clause-taken c e index ss h none =
    not_admitted e index c.args.arrival.clock c.args.arrival.peer c.args.arrival.stamp c.args.c ss c.args.table.now _ c.in-Err.cause
    c.refusal.result h (sym (c.admit.ensures.value e index c.args.arrival.clock ss h) ∙ c.in-Err.is)
    (c.refusal.ensures c.args.c refl ∙ ap (λ (code : RefusalCode). refusal c.args.c code) c.code.ensures)
    c.answer_to.ensures

pub returns-in-Ok-clause-tally : goal.returns-in-Ok-clause-tally
returns-in-Ok-clause-tally c e index ss h =
    ap tally_of c.open.ensures
    ∙ ap (λ (r : Result Admission RefusalCause). admitted_tally r (tally_of c.args.ledger.now))
    (sym c.in-Ok.is ∙ c.admit.ensures.value e index c.args.arrival.clock ss h)

pub returns-in-Err-clause-tally : goal.returns-in-Err-clause-tally
returns-in-Err-clause-tally c e index ss h =
    ap tally_of c.refuse.ensures
    ∙ ap (λ (r : Result Admission RefusalCause). admitted_tally r (tally_of c.args.ledger.now))
    (sym c.in-Err.is ∙ c.admit.ensures.value e index c.args.arrival.clock ss h)
