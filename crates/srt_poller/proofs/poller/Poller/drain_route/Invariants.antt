use Rattle.std.proofs.Common.{◌≡◌, ◌+◌, None, length, slice_index_or}
use Rattle.srt_poller.specs.declared.ends.Ends.{Ends}
use Rattle.srt_poller.specs.Devices.{carried}
use Rattle.srt_poller.specs.Pollers.{Replies, sending}
use Rattle.srt_poller.proofs.poller.Poller.drain_route.Given as goal

abbrev pub invariant-loop : goal.invariant-loop
invariant-loop g l =
    (l.self.kept ≡ None) ×
    ((e : Ends) → length (slice_index_or l.ends l.route e).drain.through ≡ length (slice_index_or l.fn.ends l.route e).drain.through + l.counter) ×
    (l.self.report.read ≡ l.fn.self.report.read) ×
    Replies (g.G.PollerObserver.knows l.context.signals.now) l.route 0 l.route l.counter l.counter
    (sending (carried (g.W.Wire.handed l.fn.wire) (g.W.Wire.attempts l.fn.wire)) l.fn.ends l.fn.self)
    (sending (carried (g.W.Wire.handed l.wire) (g.W.Wire.attempts l.wire)) l.ends l.self)
