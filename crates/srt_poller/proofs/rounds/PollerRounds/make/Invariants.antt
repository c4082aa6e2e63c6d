use Rattle.std.proofs.Common.{◌≡◌, ◌+◌, length}
use Rattle.srt_lobby.specs.Names.{names_of}
use Rattle.srt_poller.specs.Devices.{heard, carried}
use Rattle.srt_poller.specs.Pollers.{world_of, round_state}
use Rattle.srt_poller.specs.Beginnings.{RestBetween}
use Rattle.srt_poller.specs.Changes.{plans_in}
use Rattle.srt_poller.specs.Takings.{recorded, TookAllIn}
use Rattle.srt_poller.proofs.Remaking.{AreMade}
use Rattle.srt_poller.proofs.rounds.PollerRounds.make.Given as goal

abbrev pub invariant-loop-made : goal.invariant-loop-made
invariant-loop-made g l =
    AreMade (g.G.Orders.goes l.task.signals.now) (g.G.Orders.closes l.task.signals.now) l.task.secret.now (g.G.PollerObserver.knows l.task.signals.now)
    l.fn.self.next l.made
    (plans_in l.fn.self.plans) (plans_in l.self.plans) (g.E.RouteTable.reports l.fn.table) (g.E.RouteTable.reports l.table)
    (names_of l.fn.names) (names_of l.names) (g.E.RouteTable.list l.fn.table)
    (λ ns es phase. world_of (heard (g.D.Source.Source.gave l.fn.source) (g.D.Source.Source.calls l.fn.source))
    (carried (g.D.Wire.Wire.handed l.fn.wire) (g.D.Wire.Wire.attempts l.fn.wire)) es (round_state ns l.fn.self.next l.fn.self.plans.latest.moment) phase
    l.fn.self.poller)
    (λ phase. world_of (heard (g.D.Source.Source.gave l.source) (g.D.Source.Source.calls l.source))
    (carried (g.D.Wire.Wire.handed l.wire) (g.D.Wire.Wire.attempts l.wire))
    (g.E.RouteTable.list l.table) (round_state (names_of l.names) (l.fn.self.next + l.made) l.self.plans.latest.moment) phase l.self.poller)
    × RestBetween (l.fn.self.next + l.made) l.self.plans.due (plans_in l.self.plans) (names_of l.names)
    × (length (plans_in l.self.plans) ≡ length (names_of l.names))
    × (length (g.E.RouteTable.list l.table) ≡ length (names_of l.names))
    × (l.self.next ≡ l.fn.self.next + l.made)
    × g.E.RouteTable.room l.table
    × (g.E.RouteTable.borrows l.table ≡ g.E.RouteTable.borrows l.fn.table)
    × TookAllIn g.E.RouteTable.facts l.made (length (names_of l.fn.names)) (length (names_of l.names))
    (recorded (g.E.RouteTable.answers l.fn.table) (g.E.RouteTable.reports l.fn.table))
    (recorded (g.E.RouteTable.answers l.table) (g.E.RouteTable.reports l.table))
