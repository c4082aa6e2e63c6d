use Rattle.std.proofs.Common.{◌≡◌, None, length, ◌*◌, ◌-◌, ◌≤◌}
use Rattle.srt_poller.specs.Devices.{carried}
use Rattle.srt_poller.specs.Pollers.{Replies, sending}
use Rattle.srt_poller.proofs.poller.Poller.drain_all.Given as goal

abbrev pub invariant-loop-route : goal.invariant-loop-route
invariant-loop-route g l =
    (l.self.kept ≡ None) ×
    (l.route ≤ length l.ends) ×
    (l.visits.next ≡ l.route) ×
    (l.visits.all ≡ l.all) ×
    (l.self.report.read ≡ l.fn.self.report.read) ×
    Replies (g.G.PollerObserver.knows l.context.signals.now) 0 0 l.route 0 (64 * l.route)
    (sending (carried (g.W.Wire.handed l.fn.wire) (g.W.Wire.attempts l.fn.wire)) l.fn.ends l.fn.self)
    (sending (carried (g.W.Wire.handed l.wire) (g.W.Wire.attempts l.wire)) l.ends l.self)

abbrev pub decreases-loop-route : goal.decreases-loop-route
decreases-loop-route g l = length l.ends - l.route
