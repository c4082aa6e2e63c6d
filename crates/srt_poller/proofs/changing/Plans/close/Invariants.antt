use Rattle.std.proofs.Common.{◌≡◌, ℕ, ◌≤◌, take, map, slice_get}
use Rattle.srt_lobby.specs.Names.{names_of}
use Rattle.srt_poller.specs.Plans.{schedule_of}
use Rattle.srt_poller.specs.Beginnings.{AreClosed}
use Rattle.srt_poller.proofs.changing.Plans.close.Given as goal

abbrev pub invariant-loop-plan : goal.invariant-loop-plan
invariant-loop-plan g l =
    (l.route ≡ l.plan-index)
    × AreClosed l.closes_all l.fn.self.latest.moment l.round (take l.route (map schedule_of l.plans)) (names_of l.fn.names) (names_of l.names)
    l.fn.ends l.ends
    × ((k : ℕ) → l.route ≤ k → slice_get (names_of l.names) k ≡ slice_get (names_of l.fn.names) k)
