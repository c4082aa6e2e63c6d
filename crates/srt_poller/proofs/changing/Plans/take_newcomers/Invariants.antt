use Rattle.std.proofs.Common.{◌≡◌, ◌≤◌, length}
use Rattle.std.specs.Vec.{vec_capacity}
use Rattle.srt_lobby.specs.Names.{names_of}
use Rattle.srt_poller.specs.Changes.{plans_in, TookAddedRoutes}
use Rattle.srt_poller.proofs.changing.Plans.take_newcomers.Given as goal

abbrev pub invariant-loop : goal.invariant-loop
invariant-loop g l =
    TookAddedRoutes (g.O.Openings.added l.fn.openings) (g.O.Openings.added l.openings) (plans_in l.fn.self) (plans_in l.self) (names_of l.fn.names)
    (names_of l.names) l.fn.ends.items l.ends.items
    × (g.O.Openings.requested l.openings ≡ g.O.Openings.requested l.fn.openings)
    × (g.O.Openings.answers l.openings ≡ g.O.Openings.answers l.fn.openings)
    × (511 ≤ vec_capacity l.ends)
    × (l.self.latest ≡ l.fn.self.latest)
    × (length (names_of l.names) ≡ l.counter)
