use Rattle.std.proofs.Common.{◌+◌, ap, ◌∙◌, arith}
use Rattle.srt_ring.specs.Ring.{payload_at}
use Rattle.srt_recvbuf.proofs.Places.{moved_on}
use Rattle.srt_recvbuf.proofs.window.Window.slide.Goals as goal

pub returns-clause-cells : goal.returns-clause-cells
returns-clause-cells c d =
    let s = c.args.self.now in
    let n = c.slide_states.new.self in
    moved_on s.places.items n.places.items s.payloads c.advance.new.self d (c.slide_states.ensures.places d)
    (λ lt. c.advance.ensures.payloads d (omega (arith, lt, n.as_many, n.full, c.slide_states.ensures.width))
    ∙ ap (λ ring. payload_at ring (d + 1)) c.slide_states.ensures.payloads)
