use Rattle.std.proofs.Common.{◌≡◌, ℕ, suc, ◌+◌, false, List}
use Rattle.srt_types.specs.declared.shared.Schedule.{Schedule}
use Rattle.srt_poller.specs.Devices.{heard, carried}
use Rattle.srt_poller.specs.History.{Begun, reading}
use Rattle.srt_poller.specs.Rounds.{Went}
use Rattle.srt_poller.specs.Pollers.{setting_in, named_in, round_state, world_of}
use Rattle.srt_poller.specs.inside.Served.{more_by}
use Rattle.srt_poller.proofs.poller.Poller.listen.Given as goal

abbrev pub invariant-loop-reads : goal.invariant-loop-reads
invariant-loop-reads g l =
    ((schedules : List Schedule) (round : ℕ) →
    Went (setting_in l.context.lobby (g.G.PollerObserver.knows l.context.signals.now)) schedules (l.reads + 1) 1 l.reads
    (world_of (heard (g.S.Source.gave l.fn.source) (g.S.Source.calls l.fn.source)) (carried (g.W.Wire.handed l.fn.wire) (g.W.Wire.attempts l.fn.wire)) l.fn.ends
    (round_state (named_in l.context.lobby) round l.fn.latest.moment) (Begun false) l.fn.self)
    (world_of (heard (g.S.Source.gave l.source) (g.S.Source.calls l.source)) (carried (g.W.Wire.handed l.wire) (g.W.Wire.attempts l.wire)) l.ends
    (round_state (named_in l.context.lobby) (suc round) l.latest.moment) (reading l.reads) l.self))
    × (l.self.report.read ≡ more_by l.reads l.fn.self.report.read)
    × (l.self.left ≡ l.fn.self.left)
