use Rattle.std.proofs.Common.{◌≡◌, ◌∙◌, refl, sym, subst, ℕ, ◌+◌, length, arith}
use Rattle.srt_lobby.specs.Names.{names_of}
use Rattle.srt_poller.specs.Devices.{heard, carried}
use Rattle.srt_poller.specs.Pollers.{world_of, round_state}
use Rattle.srt_poller.specs.Beginnings.{RestBetween}
use Rattle.srt_poller.specs.Changes.{plans_in}
use Rattle.srt_poller.specs.Takings.{recorded}
use Rattle.srt_poller.proofs.Remaking.{made_none, made_round, made_rounds}
use Rattle.srt_poller.proofs.Takings.{all_taken_none, all_taken_next}
use Rattle.srt_poller.proofs.rounds.PollerRounds.make.Goals as goal

pub loop-made-init : goal.loop-made-init
loop-made-init g c =
    let same : c.args.self.now.next + 0 ≡ c.args.self.now.next = omega arith in (
      rw same (made_none c.args.task.now.secret.now (g.G.PollerObserver.knows c.args.task.now.signals.now) c.args.self.now.next
          (plans_in c.args.self.now.plans) (g.E.RouteTable.reports c.args.table.now)
          (names_of c.args.names.now) (g.E.RouteTable.list c.args.table.now)
          (λ ns es phase. world_of (heard (g.D.Source.Source.gave c.args.source.now) (g.D.Source.Source.calls c.args.source.now))
          (carried (g.D.Wire.Wire.handed c.args.wire.now) (g.D.Wire.Wire.attempts c.args.wire.now)) es
          (round_state ns c.args.self.now.next c.args.self.now.plans.latest.moment) phase c.args.self.now.poller) c.requires.plans c.requires.timely),
      rw same c.requires.rest,
      c.requires.plans,
      c.requires.ends,
      sym same,
      c.requires.room,
      refl,
      all_taken_none g.E.RouteTable.facts (length (names_of c.args.names.now))
          (recorded (g.E.RouteTable.answers c.args.table.now) (g.E.RouteTable.reports c.args.table.now)),
    )

pub round-requires : goal.round-requires
round-requires g c = record {
  known = c.loop-made.invariant.2;
  ends = c.loop-made.invariant.3;
  room = c.loop-made.invariant.5;
  rest = rw c.loop-made.invariant.4 c.loop-made.invariant.1;
  fits = omega (arith, c.loop-made.invariant.4, c.requires.fits, c.loop-made-test.true);
}

pub loop-made-preserved : goal.loop-made-preserved
loop-made-preserved g c =
    let first = c.args.self.now.next in
    let made = c.loop-made.made in
    let was = c.loop-made.self in
    let went = c.round.ensures.went in
    let now = c.round.new.rounds in
    let list = g.E.RouteTable.list in
    let reports = g.E.RouteTable.reports in
    let next : now.next ≡ first + (made + 1) = omega (arith, c.round.ensures.next, c.loop-made.invariant.4) in
    let m = made_round c.args.task.now.secret.now (g.G.PollerObserver.knows c.args.task.now.signals.now)
    first made went.due c.args.self.now.plans.latest.moment was.plans.latest.moment
    now.plans.latest.moment (plans_in c.args.self.now.plans) (plans_in was.plans) went.between (plans_in now.plans)
    (reports c.args.table.now) (reports c.loop-made.table) (reports c.round.new.self) (names_of c.args.names.now) (names_of c.loop-made.names)
    went.these (names_of c.round.new.names) (list c.args.table.now) (list c.loop-made.table) went.those (list c.round.new.self)
    (heard (g.D.Source.Source.gave c.args.source.now) (g.D.Source.Source.calls c.args.source.now))
    (heard (g.D.Source.Source.gave c.loop-made.source) (g.D.Source.Source.calls c.loop-made.source))
    (heard (g.D.Source.Source.gave c.round.new.source) (g.D.Source.Source.calls c.round.new.source))
    (carried (g.D.Wire.Wire.handed c.args.wire.now) (g.D.Wire.Wire.attempts c.args.wire.now))
    (carried (g.D.Wire.Wire.handed c.loop-made.wire) (g.D.Wire.Wire.attempts c.loop-made.wire))
    (carried (g.D.Wire.Wire.handed c.round.new.wire) (g.D.Wire.Wire.attempts c.round.new.wire)) c.args.self.now.poller was.poller now.poller
    c.in-Some.closes_all c.loop-made.invariant.0 (rw c.loop-made.invariant.4 at went.took)
    (rw c.loop-made.invariant.4 at went.rests) (rw c.loop-made.invariant.4 at went.went) c.requires.timely
    c.loop-made.invariant.2 c.requires.ends c.in-Some.ensures.round.0 c.in-Some.ensures.round.1 c.report_counts.ensures in (
      m.0,
      subst (λ (n : ℕ). RestBetween n now.plans.due (plans_in now.plans) (names_of c.round.new.names)) next c.round.ensures.rest,
      m.1,
      c.round.ensures.ends,
      next,
      c.round.ensures.room,
      c.round.ensures.same ∙ c.loop-made.invariant.6,
      all_taken_next g.E.RouteTable.facts made (length (names_of c.args.names.now)) (length (names_of c.loop-made.names))
          (length (names_of c.round.new.names)) (recorded (g.E.RouteTable.answers c.args.table.now) (reports c.args.table.now))
          (recorded (g.E.RouteTable.answers c.loop-made.table) (reports c.loop-made.table))
          (recorded (g.E.RouteTable.answers c.round.new.self) (reports c.round.new.self)) c.loop-made.invariant.7
          (rw (sym m.2 ∙ went.took.3.all_ends) went.taken),
    )

pub returns-in_default-clause-made : goal.returns-in_default-clause-made
returns-in_default-clause-made g c = made_rounds c.loop-made.invariant.0

pub returns-clause-made : goal.returns-clause-made
returns-clause-made g c =
    let same : c.loop-made.made ≡ c.args.task.now.rounds = omega (arith, c.loop-made-test.false) in
    made_rounds (rw same at c.loop-made.invariant.0)

pub returns-clause-taken : goal.returns-clause-taken
returns-clause-taken g c =
    let same : c.loop-made.made ≡ c.args.task.now.rounds = omega (arith, c.loop-made-test.false) in rw same at c.loop-made.invariant.7
