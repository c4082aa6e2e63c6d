use Rattle.std.proofs.Common.{◌≡◌, true, sym, ◌∙◌, arith}
use Rattle.std.proofs.lemmas.Bool.{eq-eqb}
use Rattle.srt_route.specs.RouteKeys.{has_secured_role}
use Rattle.srt_route.proofs.route_keys.RouteKeys.are_for.Goals as goal

pub returns-then-not-has_secured_role-clause-secured : goal.returns-then-not-has_secured_role-clause-secured
returns-then-not-has_secured_role-clause-secured c e keys are same =
    sym c.if-not-has_secured_role.true ∙ c.has_secured_role.ensures e keys are

pub returns-clause-secured : goal.returns-clause-secured
returns-clause-secured c e keys are same =
    let has : has_secured_role e ≡ true = sym (c.has_secured_role.ensures e keys are) ∙ c.if-not-has_secured_role.false in
    eq-eqb c.len.result c.args.places (omega (arith, c.len.ensures, are.places_are has, same)) ∙ sym has
