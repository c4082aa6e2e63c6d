use Rattle.std.proofs.Common.{◌≡◌, true, false, refl, sym, subst, ◌∙◌, arith}
use Rattle.srt_types.specs.Items.{input_of}
use Rattle.srt_route.specs.Route.{Judged, as_before, keys_confirmed, keys_kept}
use Rattle.srt_route.specs.RouteKeys.{has_secured_role}
use Rattle.srt_route.specs.inside.Secured.{IsDispatched}
use Rattle.srt_route.proofs.steps.Securing.{clear_judgement, passes_dispatched, secured_judged}
use Rattle.srt_route.proofs.secured.dispatch_secured.Goals as goal

pub returns-then-not-are_for-clause-dispatched : goal.returns-then-not-are_for-clause-dispatched
returns-then-not-are_for-clause-dispatched c e index ss keys is are =
    let clock = c.args.event.clock in
    let item = input_of c.args.event.item.now in
    let clear : has_secured_role e ≡ false = sym (c.are_for.ensures.secured e keys are (omega (arith, c.len.ensures, is.places_are))) ∙ c.if-not-are_for.true in
    subst
    (λ (j : Judged). IsDispatched e index clock ss item j c.dispatch.new.table c.args.keys.now c.args.waiting.now c.dispatch.new.waiting c.args.ledger.now
    c.dispatch.new.ledger)
    (clear_judgement e index clock item ss keys clear)
    (passes_dispatched e index clock ss item (as_before keys) c.dispatch.new.table c.args.keys.now c.args.waiting.now c.dispatch.new.waiting
    c.args.ledger.now c.dispatch.new.ledger refl (c.dispatch.ensures.table e index ss is) (c.dispatch.ensures.said e index ss is) are
    (c.dispatch.ensures.ends e index ss is) (c.dispatch.ensures.tally e index ss is))

pub returns-clause-dispatched : goal.returns-clause-dispatched
returns-clause-dispatched c e index ss keys is are =
    let clock = c.args.event.clock in
    let item = input_of c.args.event.item.now in
    let did = c.dispatch_with_keys in
    let secured : has_secured_role e ≡ true =
    sym (c.are_for.ensures.secured e keys are (omega (arith, c.len.ensures, is.places_are))) ∙ c.if-not-are_for.false in
    subst
    (λ (j : Judged). IsDispatched e index clock ss item j did.new.table did.new.keys c.args.waiting.now did.new.waiting c.args.ledger.now did.new.ledger)
    (secured_judged e index clock item ss keys secured)
    (did.ensures.dispatched e index ss (keys_confirmed index item ss (keys_kept ss keys)) is
    (c.confirm_keys.ensures.confirmed e index clock ss (keys_kept ss keys) is (c.keep_open.ensures.kept e index clock ss keys is are) secured) secured)
