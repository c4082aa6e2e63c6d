use Rattle.std.proofs.Common.{ap, length}
use Rattle.srt_mailbox.specs.Identities.{identity_in}
use Rattle.srt_mailbox.specs.Places.{arrived, locks_of}
use Rattle.srt_poller.specs.declared.ends.Ends.{Ends as TheEnds}
use Rattle.srt_serve.proofs.Openings.{first_taken, place_put}
use Rattle.srt_serve.proofs.opening.take_first.Goals as goal

pub returns-clause-taken : goal.returns-clause-taken
returns-clause-taken g c =
    let given = c.in-Ok-next_poller.ensures.some in
    let taken : TheEnds = record { ingress = c.in-Ok-next_poller.taken.ingress; drain = c.in-Ok-next_poller.taken.drain } in
    let first =
    first_taken (arrived c.args.routes.now) (arrived c.next_poller.new.self) given.0 _ (identity_in c.args.seat.cell) taken c.routes-index.result
    given.1 given.2 given.3.0 given.3.1 c.routes-index.ensures c.reached.ensures (ap (λ s. identity_in s.cell) c.in-Ok.ensures.put.1) in
    (taken, first.0, c.in_ok-push.ensures.items, first.1)

pub returns-clause-put : goal.returns-clause-put
returns-clause-put g c = (
  place_put (λ p. p.seat.id) c.args.places.now (locks_of c.args.routes.now) c.routes-index.result (length (arrived c.args.routes.now))
      c.in-Some.place.now _ c.requires c.routes-index.ensures c.in-Some.ensures.lookup.1 c.in-Some.ensures.lookup.3.0 c.in-Ok.ensures.put.0,
  ap (λ s. identity_in s.cell) c.in-Ok.ensures.put.1,
)
