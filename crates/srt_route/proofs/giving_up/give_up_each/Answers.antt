use Rattle.std.proofs.Common.{◌≡◌, ◌<◌, length, get_or, refl, sym, subst, ◌∙◌, arith}
use Rattle.std.proofs.lemmas.List.{get_or_default}
use Rattle.srt_route.specs.declared.slot_keys.KeyPlace.{KeyPlace}
use Rattle.srt_route.specs.GivingUp.{given_up}
use Rattle.srt_route.specs.RouteKeys.{own_in}
use Rattle.srt_route.proofs.model.GivingUp.{gives_up, gives_up_marks}
use Rattle.srt_route.proofs.steps.GivingUp.{IsGivenUp, given_up_becomes}
use Rattle.srt_route.proofs.steps.Transmitting.{no_place, own_stored}
use Rattle.srt_route.proofs.stored.KeptInOrder.{all_done_in, none_done_in, one_done_in}
use Rattle.srt_route.proofs.giving_up.give_up_each.Goals as goal

pub loop-at-init : goal.loop-at-init
loop-at-init c = none_done_in (λ k. IsGivenUp c.args.clock (get_or c.args.keys.now.slots.items k no_place)) c.args.table.now

pub loop-at-preserved : goal.loop-at-preserved
loop-at-preserved c =
    let at = c.loop-at.at in
    let slots = c.args.keys.now.slots.items in
    let inside : at < length c.args.table.now.seats.items = omega (arith, c.loop-at-test.true, c.len-at-end.ensures) in
    let place = c.index.result.now in
    let same : get_or slots at no_place ≡ place =
    get_or_default slots at no_place place (omega (arith, inside, c.requires)) ∙ sym c.index.ensures in
    one_done_in (λ k. IsGivenUp c.args.clock (get_or slots k no_place)) at c.args.table.now c.loop-at.table _ c.index_mut.result.now c.give_up_seat.new.seat
    c.loop-at.invariant inside c.index_mut.ensures.value
    (subst (λ (p : KeyPlace). IsGivenUp c.args.clock p c.index_mut.result.now c.give_up_seat.new.seat) (sym same) c.give_up_seat.ensures)
    (refl, refl, refl, refl, refl, refl) refl refl

pub returns : goal.returns
returns c e index earlier ss m body are secured =
    let slots = c.args.keys.now.slots.items in
    all_done_in (λ k. IsGivenUp c.args.clock (get_or slots k no_place)) (given_up (own_in e m) c.args.clock) (gives_up (own_in e m) c.args.clock)
    (gives_up_marks (own_in e m) c.args.clock) e index earlier earlier c.loop-at.at c.args.table.now c.loop-at.table ss body body.early
    c.loop-at.invariant (omega (arith, c.loop-at-test.false, c.len-at-end.ensures))
    (λ k p x y below is h. given_up_becomes (own_in e m) (get_or slots k no_place) e index c.args.clock earlier k p x y ss
    (own_stored e c.args.keys.now m k no_place are secured (omega (arith, below, body.places_are))) is h)
