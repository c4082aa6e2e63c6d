use Rattle.std.proofs.Common.{◌≡◌, ◌&&◌, not, Bool, true, false, sym, subst, ◌∙◌, arith}
use Rattle.srt_types.specs.declared.shared.Role.TheVariants.{Request}
use Rattle.srt_route.specs.GivingUp.{given_up_if}
use Rattle.srt_route.specs.RouteKeys.{own_in, secures}
use Rattle.srt_route.specs.Tables.{IsTable}
use Rattle.srt_route.proofs.giving_up.give_up.Goals as goal

pub returns-then-not-are_encrypted : goal.returns-then-not-are_encrypted
returns-then-not-are_encrypted c e index m body are opens =
    let clear : secures e Request ≡ false =
    sym (c.are_encrypted.ensures.secured e m.keys are (omega (arith, c.len.ensures, body.places_are))) ∙ c.if-not-are_encrypted.true in
    let old = c.args.table.now in
    subst (λ (b : Bool). IsTable e index m.clock old (given_up_if (b && not m.is_closed) (own_in e m.keys) c.args.clock m.sessions)) (sym clear) body

pub returns : goal.returns
returns c e index m body are opens =
    let secured : secures e Request ≡ true =
    sym (c.are_encrypted.ensures.secured e m.keys are (omega (arith, c.len.ensures, body.places_are))) ∙ c.if-not-are_encrypted.false in
    let new = c.give_up_each.new.table in
    subst (λ (b : Bool). IsTable e index m.clock new (given_up_if (b && not m.is_closed) (own_in e m.keys) c.args.clock m.sessions)) (sym secured)
    (subst (λ (b : Bool). IsTable e index m.clock new (given_up_if (true && not b) (own_in e m.keys) c.args.clock m.sessions)) (sym opens)
    (c.give_up_each.ensures e index m.clock m.sessions m.keys body are secured))
