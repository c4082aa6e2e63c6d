use Rattle.std.proofs.Common.{rules, ◌≡◌, ◌∙◌, ◌≤◌, ◌^◌, ◌+◌, List, refl, ap, length, arith}
use Rattle.srt_lobby.specs.Names.{RouteName, names_of}
use Rattle.srt_poller.specs.declared.ends.Ends.{Ends}
use Rattle.srt_poller.specs.Devices.{heard, carried}
use Rattle.srt_poller.specs.History.{Phase, Between}
use Rattle.srt_poller.specs.Pollers.{lobby_setting, world_of, round_state}
use Rattle.srt_poller.proofs.Endings.{ended_so}
use Rattle.srt_poller.proofs.Unchanging.{rounds_unchanged}
use Rattle.srt_poller.proofs.pumping.pump_under.Goals as goal

pub make-made-requires : goal.make-made-requires
make-made-requires g c = record {
  ends = c.requires.ends;
  plans = ap length c.new-rounds.ensures.plans ∙ c.requires.schedules;
  timely = rw c.new-rounds.ensures.plans c.new-rounds.ensures.timely;
  room = tt;
  rest = λ round from until. absurd (omega (arith, until, c.new-rounds.ensures.due));
  fits = omega (arith, c.new-rounds.ensures.next, c.requires.few);
}

pub returns-clause-told : goal.returns-clause-told
returns-clause-told g c =
    let last_ends : c.ends-1.given.0 ≡ c.make-made.new.table.ends.now = search (rules, c.make-made.ensures.same) in
    let small : c.make-made.result ≤ 2 ^ 48 = omega (arith, c.make-made.ensures.rounds, c.requires.few) in
    let start : 0 + c.make-made.result ≡ c.make-made.result = omega arith in
    let first = c.new-rounds.result in
    let last = c.make-made.new.self in
    let made = rw (c.new-rounds.ensures.next, c.new-rounds.ensures.plans) at c.make-made.ensures.made in
    let went = rw (c.new-rounds.ensures.kept, c.new-rounds.ensures.report, c.new-rounds.ensures.latest, start) at (rounds_unchanged
    (lobby_setting c.args.task.now.secret.now (g.G.PollerObserver.knows c.args.task.now.signals.now))
    c.make-made.result c.args.task.now.schedules.now (names_of c.args.names.now) c.args.ends.now
    (λ (ns : List RouteName) (es : List Ends) (phase : Phase). world_of (heard (g.S.Source.gave c.args.source.now) (g.S.Source.calls c.args.source.now))
    (carried (g.W.Wire.handed c.args.wire.now) (g.W.Wire.attempts c.args.wire.now)) es (round_state ns 0 first.plans.latest.moment) phase first.poller)
    (λ (phase : Phase). world_of (heard (g.S.Source.gave c.make-made.new.source) (g.S.Source.calls c.make-made.new.source))
    (carried (g.W.Wire.handed c.make-made.new.wire) (g.W.Wire.attempts c.make-made.new.wire)) c.make-made.new.table.ends.now
    (round_state (names_of c.make-made.new.names) (0 + c.make-made.result) last.plans.latest.moment) phase last.poller)
    (λ ns es phase. refl) c.requires.differ c.requires.schedules made Between tt) in
    let done = ended_so _ _ _ _ _ _ _ _ _ _ _ _ last.poller c.make-made.result went.2 _ _ small went.1 went.3 went.4 went.5 c.report-counts.ensures in
    rw last_ends (done.0, done.2)

pub returns-clause-pumped : goal.returns-clause-pumped
returns-clause-pumped g c = (returns-clause-told g c).0
