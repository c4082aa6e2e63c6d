use Rattle.std.proofs.Common.{◌≡◌, true, sym, ◌∙◌, arith}
use Rattle.std.proofs.lemmas.Bool.{eq-eqb}
use Rattle.srt_types.specs.declared.shared.Role.TheVariants.{Publish, Request}
use Rattle.srt_route.specs.RouteKeys.{secures}
use Rattle.srt_route.proofs.steps.Transmitting.{is_secured}
use Rattle.srt_route.proofs.subscriber_transmit.are_encrypted.Goals as goal

pub returns-clause-secured : goal.returns-clause-secured
returns-clause-secured c e keys are same =
    let has : secures e Request ≡ true = sym (c.secures.ensures e keys are) ∙ c.if-not-secures.false in
    eq-eqb c.len.result c.args.places
    (omega (arith, c.len.ensures, are.places_are (is_secured (secures e Publish) (secures e Request) has), same)) ∙ sym has
