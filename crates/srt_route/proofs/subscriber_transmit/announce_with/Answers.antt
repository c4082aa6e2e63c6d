use Rattle.std.proofs.Common.{refl, sym, subst}
use Rattle.srt_session_keys.specs.Subscriber.{subscriber_of}
use Rattle.srt_route.specs.RouteKeys.{Clear, OfSubscriber}
use Rattle.srt_route.specs.SlotKeys.{slot_keys_of}
use Rattle.srt_route.specs.declared.slot_keys.SlotKeys.{SlotKeys as TheSlotKeys}
use Rattle.srt_route.specs.inside.Files.{AnnouncesAs}
use Rattle.srt_route.proofs.steps.Transmitting.{clear_announces, keyed_announces}
use Rattle.srt_route.proofs.subscriber_transmit.announce_with.Goals as goal

pub returns-in-Clear : goal.returns-in-Clear
returns-in-Clear c =
    subst
    (λ (k : TheSlotKeys). AnnouncesAs c.args.to (slot_keys_of k) (slot_keys_of k) c.args.subscriber.now c.args.waiting.now c.args.waiting.now)
    (sym c.in-Clear.is) (clear_announces c.args.to Clear c.args.subscriber.now c.args.waiting.now refl (λ time m. refl))

pub returns-in-Publisher : goal.returns-in-Publisher
returns-in-Publisher c =
    subst
    (λ (k : TheSlotKeys). AnnouncesAs c.args.to (slot_keys_of k) (slot_keys_of k) c.args.subscriber.now c.args.waiting.now c.args.waiting.now)
    (sym c.in-Publisher.is) (clear_announces c.args.to _ c.args.subscriber.now c.args.waiting.now refl (λ time m. refl))

pub returns-in-Subscriber : goal.returns-in-Subscriber
returns-in-Subscriber c =
    let did = c.announce_at_end in
    let request = c.in-Subscriber.request.bytes.items in
    subst
    (λ (k : TheSlotKeys). AnnouncesAs c.args.to (slot_keys_of k) (OfSubscriber request (subscriber_of did.new.keys)) c.args.subscriber.now
    c.args.waiting.now did.new.waiting)
    (sym c.in-Subscriber.is)
    (keyed_announces c.args.to request (subscriber_of c.in-Subscriber.keys) (subscriber_of did.new.keys) c.args.subscriber.now
    c.args.waiting.now did.new.waiting did.ensures)
