use Rattle.std.proofs.Common.{rules, ◌≡◌, true, subst}
use Rattle.std.specs.Option.{is_none}
use Rattle.srt_route.specs.RouteKeys.{SlotKeys, with_slot}
use Rattle.srt_route.specs.StoredKeys.{AreKeys}
use Rattle.srt_route.proofs.steps.Securing.{none_stored}
use Rattle.srt_route.proofs.secured.keep_slot.Goals as goal

pub returns-then-is_none-clause-keys : goal.returns-then-is_none-clause-keys
returns-then-is_none-clause-keys c e m are =
    let gone : is_none c.args.seat.now.session ≡ true = search rules in
    subst (λ (k : SlotKeys). AreKeys e c.clear.new.self (with_slot c.args.at k m)) (none_stored c.args.seat.now.session (m.held c.args.at) gone)
    (c.clear.ensures.keys e m are)
