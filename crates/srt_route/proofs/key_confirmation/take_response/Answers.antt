use Rattle.std.proofs.Common.{ℕ, Option, find, refl, sym, subst, ◌∙◌, arith}
use Rattle.srt_route.specs.KeyRefresh.{confirmed_by}
use Rattle.srt_route.specs.Route.{confirmed_at, is_for}
use Rattle.srt_route.specs.RouteKeys.{with_slot}
use Rattle.srt_route.specs.Sessions.{Session}
use Rattle.srt_route.specs.StoredKeys.{AreKeys}
use Rattle.srt_route.proofs.stored.Stored.{for_none_beyond, for_none_stored, for_one, none_found_for}
use Rattle.srt_route.proofs.steps.Securing.{slot_is}
use Rattle.srt_route.proofs.key_confirmation.take_response.Goals as goal

pub returns-then-at-len-clause-confirmed : goal.returns-then-at-len-clause-confirmed
returns-then-at-len-clause-confirmed c e index clock ss keys is are has =
    let peer = c.args.peer in
    let dest = c.args.response.now.dest in
    let none = none_found_for index peer dest e.sessions ss is.alone
    (for_none_beyond index peer dest e.sessions ss (omega (arith, c.args.table.now.few, is.places_are))
    (omega (arith, c.slot_in-at.ensures, c.if-at-len.true, c.len.ensures, is.places_are))) (find (is_for index peer dest) ss) refl in
    subst (λ (o : Option Session). AreKeys e c.args.keys.now (confirmed_at c.args.response.now.info.now o keys)) (sym none) are

pub returns-then-not-is_for-clause-confirmed : goal.returns-then-not-is_for-clause-confirmed
returns-then-not-is_for-clause-confirmed c e index clock ss keys is are has =
    let peer = c.args.peer in
    let dest = c.args.response.now.dest in
    let none = none_found_for index peer dest e.sessions ss is.alone
    (for_none_stored e index clock c.args.table.now ss peer dest c.slot_in-at.result c.index.result.now is c.args.table.now.few c.slot_in-at.ensures
    (omega (arith, c.if-at-len.false, c.len.ensures)) c.index.ensures (sym c.is_for.ensures ∙ c.if-not-is_for.true))
    (find (is_for index peer dest) ss) refl in
    subst (λ (o : Option Session). AreKeys e c.args.keys.now (confirmed_at c.args.response.now.info.now o keys)) (sym none) are

pub returns-clause-confirmed : goal.returns-clause-confirmed
returns-clause-confirmed c e index clock ss keys is are has =
    let peer = c.args.peer in
    let dest = c.args.response.now.dest in
    let contents = c.args.response.now.info.now in
    let at = c.slot_in-at.result in
    let one = for_one e index clock c.args.table.now ss peer dest at c.index.result.now is c.args.table.now.few c.slot_in-at.ensures
    (omega (arith, c.if-at-len.false, c.len.ensures)) c.index.ensures (sym c.is_for.ensures ∙ c.if-not-is_for.false) in
    let s = one.1 in
    let it = one.2 in
    subst (λ (o : Option Session). AreKeys e c.confirm.new.self (confirmed_at contents o keys)) (sym it.found_for)
    (subst (λ (n : ℕ). AreKeys e c.confirm.new.self (with_slot n (confirmed_by contents (keys.held n)) keys)) (sym (slot_is at ss s it.found_is))
    (c.confirm.ensures.keys e keys are has it.below))
