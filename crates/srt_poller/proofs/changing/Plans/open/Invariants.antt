use Rattle.std.proofs.Common.{◌≡◌}
use Rattle.srt_lobby.specs.Names.{names_of}
use Rattle.srt_poller.specs.Changes.{plans_in}
use Rattle.srt_poller.proofs.Replanning.{LookedAt}
use Rattle.srt_poller.proofs.changing.Plans.open.Given as goal

abbrev pub invariant-loop-route : goal.invariant-loop-route
invariant-loop-route l =
    LookedAt l.round l.route (plans_in l.fn.self) (plans_in l.self) (names_of l.fn.names) (names_of l.names) × (l.self.latest ≡ l.fn.self.latest)
