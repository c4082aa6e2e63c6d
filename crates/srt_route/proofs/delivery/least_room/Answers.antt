use Rattle.std.proofs.Common.{◌≡◌, ℕ, ◌+◌, ◌-◌, Option, None, sym, ap, subst, ◌∙◌, arith}
use Rattle.srt_route.specs.Route.{least_room}
use Rattle.srt_route.proofs.steps.Feeding.{least_from, least_step}
use Rattle.srt_route.proofs.delivery.least_room.Goals as goal

pub loop-at-init : goal.loop-at-init
loop-at-init c e index clock ss body = let all : e.sessions - 0 ≡ e.sessions = omega arith in ap (λ (n : ℕ). least_from e ss None 0 n) all

pub loop-at-preserved : goal.loop-at-preserved
loop-at-preserved c e index clock ss body =
    subst (λ (f : Option ℕ). least_from e ss f (c.loop-at.at + 1) (e.sessions - (c.loop-at.at + 1)) ≡ least_room e ss) (sym c.lesser-found.ensures)
    (least_step e index clock c.args.table.now ss c.loop-at.found c.room_of.result (least_room e ss) c.loop-at.at c.index.result.now body
    (omega (arith, c.loop-at-test.true, c.len-at-end.ensures)) c.index.ensures c.room_of.ensures.none c.room_of.ensures.some
    (c.loop-at.invariant e index clock ss body))

pub returns : goal.returns
returns c e index clock ss body =
    let h = c.loop-at.invariant e index clock ss body in
    let none : e.sessions - c.loop-at.at ≡ 0 = omega (arith, c.loop-at-test.false, c.len-at-end.ensures, body.places_are) in
    sym (ap (λ (n : ℕ). least_from e ss c.loop-at.found c.loop-at.at n) none) ∙ h
