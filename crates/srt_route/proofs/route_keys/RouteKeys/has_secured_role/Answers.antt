use Rattle.std.proofs.Common.{◌≡◌, Bool, true, false, ◌||◌, sym, ap, ◌∙◌}
use Rattle.srt_types.specs.declared.shared.Role.TheVariants.{Publish, Request}
use Rattle.srt_route.specs.RouteKeys.{secures}
use Rattle.srt_route.proofs.route_keys.RouteKeys.has_secured_role.Goals as goal

pub returns-then-secures : goal.returns-then-secures
returns-then-secures c e keys are =
    let a : secures e Publish ≡ true = sym (c.secures.ensures e keys are) ∙ c.if-secures.true in
    ap (λ (b : Bool). b || secures e Request) (sym a)

pub returns : goal.returns
returns c e keys are =
    let a : secures e Publish ≡ false = sym (c.secures.ensures e keys are) ∙ c.if-secures.false in
    c.secures-2.ensures e keys are ∙ ap (λ (b : Bool). b || secures e Request) (sym a)
