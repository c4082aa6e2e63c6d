use Rattle.std.proofs.Common.{◌≡◌, false, get_or, ap, ◌∙◌, arith}
use Rattle.srt_recvbuf.specs.declared.window.NumberState.TheVariants.{Missing}
use Rattle.srt_recvbuf.specs.Cells.{cell_of, cell_in, cell_is_received}
use Rattle.srt_recvbuf.proofs.Places.{exchanged}
use Rattle.srt_recvbuf.proofs.window.Window.warm_up.Goals as goal

pub returns-then-not-is-2-clause-cells : goal.returns-then-not-is-2-clause-cells
returns-then-not-is-2-clause-cells c d =
    let s = c.args.self.now in
    let one : cell_is_received (cell_in s.places.items c.take_warm.new.self c.args.at) ≡ false = cc (c.is.ensures, c.if-not-is.true) in
    let other : cell_is_received (cell_in s.places.items c.take_warm.new.self c.in-Some.other) ≡ false = cc (c.is-then-not-is.ensures, c.if-not-is-2.true) in
    exchanged s.places.items c.take_warm.new.self c.exchange.new.self c.args.at c.in-Some.other d one other
    (λ lt. c.exchange.ensures.others d (omega (arith, lt, s.as_many, s.full, c.take_warm.ensures.width)))
    ∙ ap (cell_of (get_or s.places.items d Missing)) (c.take_warm.ensures.payloads d)
