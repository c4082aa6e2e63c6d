use Rattle.std.proofs.Common.{◌∙◌, false, sym, ap, subst}
use Rattle.srt_route.specs.declared.encrypted_transmit.KeyReceiver.{KeyReceiver}
use Rattle.srt_route.specs.SlotKeys.{place_keys_of}
use Rattle.srt_route.specs.inside.Files.{AnnouncesAs, receiver_of}
use Rattle.srt_route.proofs.steps.Saying.{some_same}
use Rattle.srt_route.proofs.subscriber_transmit.announce_place.Goals as goal

pub returns-in-Some : goal.returns-in-Some
returns-in-Some c t is =
    let did = c.announce_under in
    subst
    (λ (to : KeyReceiver). AnnouncesAs to (place_keys_of c.args.place.now) (place_keys_of did.new.slot) c.args.seat.now.subscriber
    c.args.waiting.now did.new.waiting)
    (c.receiver_of-to.ensures ∙ ap (receiver_of c.args.clock false) (some_same c.in-Some.session t (sym c.in-Some.is ∙ is)))
    did.ensures
