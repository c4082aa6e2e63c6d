use Rattle.std.proofs.Common.{◌≡◌, length, map, take}
use Rattle.srt_poller.specs.Plans.{schedule_of, AreTimely}
use Rattle.srt_poller.proofs.changing.Plans.new.Given as goal

abbrev pub invariant-loop-route : goal.invariant-loop-route
invariant-loop-route l =
    (length l.plans.items ≡ l.route) × (map schedule_of l.plans.items ≡ take l.route l.schedules) × AreTimely (take l.route l.schedules)
