use Rattle.std.proofs.Common.{Bool, cond, refl, sym, subst}
use Rattle.srt_route.specs.RouteKeys.{Clear}
use Rattle.srt_route.specs.SlotKeys.{slot_keys_of}
use Rattle.srt_route.specs.inside.Files.{TransmitsAs}
use Rattle.srt_route.proofs.steps.Transmitting.{clear_transmits}
use Rattle.srt_route.proofs.subscriber_transmit.transmit_under.Goals as goal

pub returns-then-not-place : goal.returns-then-not-place
returns-then-not-place c =
    let did = c.transmit_subscriber in
    subst
    (λ (b : Bool). TransmitsAs c.args.to (cond b (slot_keys_of c.args.place.now.keys) Clear) (cond b (slot_keys_of c.args.place.now.keys) Clear)
    c.args.subscriber.now did.new.subscriber c.args.waiting.now did.new.waiting)
    (sym c.if-not-place.true)
    (clear_transmits c.args.to Clear c.args.subscriber.now did.new.subscriber c.args.waiting.now did.new.waiting refl (λ time m. refl) did.ensures.stands
    did.ensures.said)

pub returns : goal.returns
returns c =
    let did = c.transmit_with in
    subst
    (λ (b : Bool). TransmitsAs c.args.to (cond b (slot_keys_of c.args.place.now.keys) Clear) (cond b (slot_keys_of did.new.keys) Clear)
    c.args.subscriber.now did.new.subscriber c.args.waiting.now did.new.waiting)
    (sym c.if-not-place.false) did.ensures
