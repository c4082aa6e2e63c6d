use Rattle.std.proofs.Common.{◌==◌, if◌then◌else◌, ap, ◌∙◌, arith}
use Rattle.std.proofs.lemmas.Int.{to_z-of_z}
use Rattle.srt_recvbuf.specs.declared.window.NumberState.TheVariants.{Received as ReceivedState}
use Rattle.srt_recvbuf.specs.Cells.{Received, cell_in}
use Rattle.srt_recvbuf.proofs.Places.{filled}
use Rattle.srt_recvbuf.proofs.window.Window.fill.Goals as goal

pub returns-clause-cells : goal.returns-clause-cells
returns-clause-cells c d =
    let s = c.warm_up.new.self in
    let fits = c.ranges.due in
    let places = rw to_z-of_z at c.mark.ensures.places d in
    let n = c.mark.new.self in
    ap (λ ring. cell_in n.places.items ring d) c.mark.ensures.payloads
    ∙ filled s.places.items n.places.items s.payloads c.set.new.self c.args.at d (ReceivedState c.args.due) c.args.payload.bytes.now places
    c.set.ensures.here (λ lt. c.set.ensures.others d (omega (arith, lt, s.as_many, s.full)))
    ∙ ap (λ x. if d == c.args.at then Received c.args.due c.args.payload.bytes.now else x) (c.warm_up.ensures.cells d)
