use Rattle.std.proofs.Common.{◌≡◌, length, ◌-◌}
use Rattle.srt_poller.proofs.poller.Poller.prefetch.Given as goal

abbrev pub invariant-loop-route : goal.invariant-loop-route
invariant-loop-route g l = l.ends ≡ l.fn.ends

abbrev pub decreases-loop-route : goal.decreases-loop-route
decreases-loop-route g l = length l.ends - l.route
