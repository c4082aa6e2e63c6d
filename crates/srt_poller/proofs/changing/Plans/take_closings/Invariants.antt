use Rattle.std.proofs.Common.{◌≡◌, ℕ, List, length}
use Rattle.srt_poller.specs.Devices.{joined}
use Rattle.srt_poller.specs.Changes.{plans_in, TookClosings}
use Rattle.srt_poller.proofs.changing.Plans.take_closings.Given as goal

abbrev pub invariant-loop : goal.invariant-loop
invariant-loop g l =
    TookClosings l.round (g.O.Openings.requested l.fn.openings) (g.O.Openings.requested l.openings) (plans_in l.fn.self) (plans_in l.self)
    × (g.O.Openings.added l.openings ≡ g.O.Openings.added l.fn.openings)
    × (l.self.latest ≡ l.fn.self.latest)
    × (g.O.Openings.answers l.openings ≡ g.O.Openings.answers l.fn.openings)
    × (g.O.Openings.no_more l.fn.openings → g.O.Openings.no_more l.openings)
    × (length (plans_in l.self) ≡ length (plans_in l.fn.self))
    × ((requested : List ℕ) × (g.O.Openings.requested l.openings ≡ joined (g.O.Openings.requested l.fn.openings) requested) × (length requested ≡ l.counter))
