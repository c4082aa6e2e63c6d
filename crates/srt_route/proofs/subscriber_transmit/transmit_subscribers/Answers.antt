use Rattle.std.proofs.Common.{◌≡◌, ◌∙◌, true, false, sym, arith}
use Rattle.srt_types.specs.declared.shared.Role.TheVariants.{Request}
use Rattle.srt_route.specs.RouteKeys.{secures}
use Rattle.srt_route.proofs.steps.Transmitting.{served_in_clear}
use Rattle.srt_route.proofs.subscriber_transmit.transmit_subscribers.Goals as goal

pub returns-then-not-are_encrypted-clause-served : goal.returns-then-not-are_encrypted-clause-served
returns-then-not-are_encrypted-clause-served c e index ss keys body are =
    let clear : secures e Request ≡ false =
    sym (c.are_encrypted.ensures.secured e keys are (omega (arith, c.len.ensures, body.places_are))) ∙ c.if-not-are_encrypted.true in
    served_in_clear e index c.args.clock keys ss c.transmit_in_clear.new.table c.args.keys.now c.args.waiting.now c.transmit_in_clear.new.waiting clear are
    (c.transmit_in_clear.ensures.table e index ss body) (c.transmit_in_clear.ensures.said e index ss body)

pub returns-clause-served : goal.returns-clause-served
returns-clause-served c e index ss keys body are =
    let secured : secures e Request ≡ true =
    sym (c.are_encrypted.ensures.secured e keys are (omega (arith, c.len.ensures, body.places_are))) ∙ c.if-not-are_encrypted.false in
    c.transmit_with_keys.ensures.served e index ss keys body are secured
