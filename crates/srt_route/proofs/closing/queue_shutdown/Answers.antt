use Rattle.std.proofs.Common.{ℕ, List, [], ◌∷◌, subst}
use Rattle.srt_route.specs.Buffers.{datagrams_to}
use Rattle.srt_route.specs.inside.Reports.{AreSaid}
use Rattle.srt_route.specs.Waits.{replies_of, places_of}
use Rattle.srt_route.proofs.closing.queue_shutdown.Goals as goal

pub returns : goal.returns
returns c =
    subst
    (λ (bytes : List ℕ). AreSaid (replies_of c.args.waiting.now) (replies_of c.put_to.new.self) (places_of c.args.waiting.now)
    (places_of c.put_to.new.self) (datagrams_to c.args.session.now.peer (bytes ∷ [])))
    c.write_shutdown.ensures
    c.put_to.ensures
