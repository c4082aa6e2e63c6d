use Rattle.std.proofs.Common.{Bool, cond, refl, sym, subst}
use Rattle.srt_route.specs.RouteKeys.{Clear}
use Rattle.srt_route.specs.SlotKeys.{slot_keys_of}
use Rattle.srt_route.specs.inside.Files.{AnnouncesAs}
use Rattle.srt_route.proofs.steps.Transmitting.{clear_announces}
use Rattle.srt_route.proofs.subscriber_transmit.announce_under.Goals as goal

pub returns-then-not-slot : goal.returns-then-not-slot
returns-then-not-slot c =
    subst
    (λ (b : Bool). AnnouncesAs c.args.to (cond b (slot_keys_of c.args.slot.now.keys) Clear) (cond b (slot_keys_of c.args.slot.now.keys) Clear)
    c.args.subscriber.now c.args.waiting.now c.args.waiting.now)
    (sym c.if-not-slot.true) (clear_announces c.args.to Clear c.args.subscriber.now c.args.waiting.now refl (λ time m. refl))

pub returns : goal.returns
returns c =
    let did = c.announce_with in
    subst
    (λ (b : Bool). AnnouncesAs c.args.to (cond b (slot_keys_of c.args.slot.now.keys) Clear) (cond b (slot_keys_of did.new.keys) Clear)
    c.args.subscriber.now c.args.waiting.now did.new.waiting)
    (sym c.if-not-slot.false) did.ensures
