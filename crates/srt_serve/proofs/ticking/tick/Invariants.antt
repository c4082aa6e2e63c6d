use Rattle.std.proofs.Common.{◌≡◌}
use Rattle.srt_serve.specs.Ticks.{Ticked}
use Rattle.srt_serve.proofs.ticking.tick.Given as goal

abbrev pub invariant-loop : goal.invariant-loop
invariant-loop g l =
    (goal.iterator-loop g).can_next l.iterator' × (goal.iterator-loop g).is_finite l.iterator' ×
    (g.A.TickEnds.places l.clocks.arrivals ≡ g.A.TickEnds.places l.fn.clocks.arrivals)
    × Ticked g.E.TickEnd.inbox g.E.TickEnd.tried (g.K.Ticker.gave l.fn.clocks.ticker) (g.K.Ticker.gave l.clocks.ticker)
    (g.A.TickEnds.added l.fn.clocks.arrivals) (g.A.TickEnds.added l.clocks.arrivals) l.fn.clocks.ends.items l.clocks.ends.items
