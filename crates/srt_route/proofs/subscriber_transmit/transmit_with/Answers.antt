use Rattle.std.proofs.Common.{refl, sym, subst}
use Rattle.srt_session_keys.specs.Subscriber.{subscriber_of}
use Rattle.srt_route.specs.declared.slot_keys.SlotKeys.{SlotKeys}
use Rattle.srt_route.specs.RouteKeys.{Clear, OfSubscriber}
use Rattle.srt_route.specs.SlotKeys.{slot_keys_of}
use Rattle.srt_route.specs.inside.Files.{TransmitsAs}
use Rattle.srt_route.proofs.steps.Transmitting.{clear_transmits, keyed_transmits}
use Rattle.srt_route.proofs.subscriber_transmit.transmit_with.Goals as goal

pub returns-in-Clear : goal.returns-in-Clear
returns-in-Clear c =
    let did = c.transmit_subscriber in
    subst
    (λ (k : SlotKeys). TransmitsAs c.args.to (slot_keys_of k) (slot_keys_of k) c.args.subscriber.now did.new.subscriber c.args.waiting.now did.new.waiting)
    (sym c.in-Clear.is)
    (clear_transmits c.args.to Clear c.args.subscriber.now did.new.subscriber c.args.waiting.now did.new.waiting refl (λ time m. refl) did.ensures.stands
    did.ensures.said)

pub returns-in-Publisher : goal.returns-in-Publisher
returns-in-Publisher c =
    let did = c.transmit_subscriber-in-Publisher in
    subst
    (λ (k : SlotKeys). TransmitsAs c.args.to (slot_keys_of k) (slot_keys_of k) c.args.subscriber.now did.new.subscriber c.args.waiting.now did.new.waiting)
    (sym c.in-Publisher.is)
    (clear_transmits c.args.to _ c.args.subscriber.now did.new.subscriber c.args.waiting.now did.new.waiting refl (λ time m. refl) did.ensures.stands
    did.ensures.said)

pub returns-in-Subscriber : goal.returns-in-Subscriber
returns-in-Subscriber c =
    let did = c.transmit_encrypted in
    let request = c.in-Subscriber.request.bytes.items in
    subst
    (λ (k : SlotKeys). TransmitsAs c.args.to (slot_keys_of k) (OfSubscriber request (subscriber_of did.new.keys)) c.args.subscriber.now did.new.subscriber
    c.args.waiting.now did.new.waiting)
    (sym c.in-Subscriber.is)
    (keyed_transmits c.args.to request (subscriber_of c.in-Subscriber.keys) (subscriber_of did.new.keys) c.args.subscriber.now did.new.subscriber
    c.args.waiting.now did.new.waiting did.ensures)
