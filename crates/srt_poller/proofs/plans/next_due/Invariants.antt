use Rattle.std.proofs.Common.{◌≡◌, ◌+◌, take, map}
use Rattle.srt_lobby.specs.Names.{names_of}
use Rattle.srt_poller.specs.Plans.{schedule_of}
use Rattle.srt_poller.specs.Beginnings.{RestBetween}
use Rattle.srt_poller.proofs.plans.next_due.Given as goal

abbrev pub invariant-loop-plan : goal.invariant-loop-plan
invariant-loop-plan l =
    (l.route ≡ l.plan-index) × RestBetween (l.round + 1) l.next (take l.route (map schedule_of l.plans)) (names_of l.names)
