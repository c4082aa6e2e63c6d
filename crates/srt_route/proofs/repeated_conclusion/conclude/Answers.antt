use Rattle.std.proofs.Common.{Option, ◌∙◌, refl, sym, ap}
use Rattle.std.specs.List.{position}
use Rattle.srt_route.specs.Sessions.{Session}
use Rattle.srt_route.specs.Tables.{holds}
use Rattle.srt_route.specs.Tallies.{concluded_tally, tally_of}
use Rattle.srt_route.proofs.stored.Stored.{caller_at, none_of_caller}
use Rattle.srt_route.proofs.steps.Steps.{again_taken, first_taken}
use Rattle.srt_route.proofs.repeated_conclusion.conclude.Goals as goal

pub returns-in-Some-clause-taken : goal.returns-in-Some-clause-taken
returns-in-Some-clause-taken c e index sessions h =
    let first = ap (position (holds c.args.arrival.peer c.args.c.caller)) (sym c.deref.ensures.value) ∙ (sym c.slot_of.ensures ∙ c.in-Some.is) in
    again_taken e index c.args.arrival.clock c.args.arrival.peer c.args.arrival.stamp c.args.c sessions c.args.table.now _ _ c.in-Some.at
    c.index_mut.result.now c.again.new.self h first c.index_mut.ensures.value c.again.ensures.seat (refl, refl, refl, refl, refl, refl) refl refl
    c.again.ensures.answer

pub returns-clause-taken : goal.returns-clause-taken
returns-clause-taken c e index sessions h =
    let none = none_of_caller e index c.args.arrival.clock c.args.table.now sessions c.args.arrival.peer c.args.c.caller h
    (ap (position (holds c.args.arrival.peer c.args.c.caller)) (sym c.deref.ensures.value) ∙ (sym c.slot_of.ensures ∙ c.in_default.is)) in
    first_taken e index c.args.arrival.clock c.args.arrival.peer c.args.arrival.stamp c.args.c sessions _ _ _ none
    (c.consider.ensures.taken e index sessions h none)

pub returns-in-Some-clause-tally : goal.returns-in-Some-clause-tally
returns-in-Some-clause-tally c e index sessions h =
    let first = ap (position (holds c.args.arrival.peer c.args.c.caller)) (sym c.deref.ensures.value) ∙ (sym c.slot_of.ensures ∙ c.in-Some.is) in
    let it = caller_at e index c.args.arrival.clock c.args.table.now sessions c.args.arrival.peer c.args.c.caller c.in-Some.at
    c.index_mut.result.now h first c.index_mut.ensures.value in
    ap (λ (f : Option Session). concluded_tally e c.args.arrival.peer c.args.c sessions f (tally_of c.args.ledger.now)) (sym it.6)

pub returns-clause-tally : goal.returns-clause-tally
returns-clause-tally c e index sessions h =
    let none = none_of_caller e index c.args.arrival.clock c.args.table.now sessions c.args.arrival.peer c.args.c.caller h
    (ap (position (holds c.args.arrival.peer c.args.c.caller)) (sym c.deref.ensures.value) ∙ (sym c.slot_of.ensures ∙ c.in_default.is)) in
    c.consider.ensures.tally e index sessions h
    ∙ ap (λ (f : Option Session). concluded_tally e c.args.arrival.peer c.args.c sessions f (tally_of c.args.ledger.now)) (sym none)
