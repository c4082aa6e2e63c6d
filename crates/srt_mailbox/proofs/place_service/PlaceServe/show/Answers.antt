use Rattle.srt_mailbox.specs.Identities.{identity_in}
use Rattle.srt_mailbox.proofs.Shown.{with_identity}
use Rattle.srt_mailbox.proofs.place_service.PlaceServe.show.Goals as goal

pub returns-in-Ok-clause-shown : goal.returns-in-Ok-clause-shown
returns-in-Ok-clause-shown g c =
    with_identity c.show.result (identity_in c.in-Ok.seat.now.cell) (g.L.Observer.noted c.args.look.now c.show.new.look) c.show.ensures.shown
