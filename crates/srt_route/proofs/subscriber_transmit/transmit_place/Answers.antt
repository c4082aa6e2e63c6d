use Rattle.std.proofs.Common.{◌∙◌, Bool, sym, ap, subst}
use Rattle.srt_route.specs.declared.encrypted_transmit.KeyReceiver.{KeyReceiver}
use Rattle.srt_route.specs.SlotKeys.{place_keys_of}
use Rattle.srt_route.specs.Tables.{hears_recently}
use Rattle.srt_route.specs.inside.Files.{TransmitsAs, receiver_of}
use Rattle.srt_route.proofs.steps.Saying.{some_same}
use Rattle.srt_route.proofs.subscriber_transmit.transmit_place.Goals as goal

pub returns-in-Some-clause-transmits : goal.returns-in-Some-clause-transmits
returns-in-Some-clause-transmits c h t is =
    let did = c.transmit_under in
    subst
    (λ (to : KeyReceiver). TransmitsAs to (place_keys_of c.args.place.now) (place_keys_of did.new.place) c.args.seat.now.subscriber did.new.subscriber
    c.args.waiting.now did.new.waiting)
    (c.receiver_of-to.ensures
    ∙ (ap (λ (b : Bool). receiver_of c.args.clock b c.in-Some.session) c.hears_recently-recent.ensures
    ∙ ap (receiver_of c.args.clock (hears_recently c.args.clock c.args.seat.now)) (some_same c.in-Some.session t (sym c.in-Some.is ∙ is))))
    did.ensures
