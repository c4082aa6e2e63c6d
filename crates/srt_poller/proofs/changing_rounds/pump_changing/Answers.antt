use Rattle.std.proofs.Common.{rules, ◌≡◌, ◌∙◌, ◌≤◌, ◌^◌, ◌+◌, ◌++◌, sym, ap, length, arith}
use Rattle.std.proofs.lemmas.List.{length-append, length-map}
use Rattle.srt_poller.specs.History.{Between}
use Rattle.srt_poller.specs.Openings.{NewRoute, ends_in}
use Rattle.srt_poller.proofs.Endings.{ended_so, told_so}
use Rattle.srt_poller.proofs.changing_rounds.pump_changing.Goals as goal

pub make-made-requires : goal.make-made-requires
make-made-requires g c = record {
  ends = c.requires.ends;
  plans = ap length c.new-rounds.ensures.plans ∙ c.requires.schedules;
  timely = rw c.new-rounds.ensures.plans c.new-rounds.ensures.timely;
  room = c.requires.room;
  rest = λ round from until. absurd (omega (arith, until, c.new-rounds.ensures.due));
  fits = omega (arith, c.new-rounds.ensures.next, c.requires.few);
}

pub returns-clause-told : goal.returns-clause-told
returns-clause-told g c =
    let small : c.make-made.result ≤ 2 ^ 48 = omega (arith, c.make-made.ensures.rounds, c.requires.few) in
    let start : 0 + c.make-made.result ≡ c.make-made.result = omega arith in
    let made = rw (c.new-rounds.ensures.next, c.new-rounds.ensures.plans) at c.make-made.ensures.made in
    let h = made.4 in
    let added = made.0 in
    let many : length c.args.ends.now.items + length added ≡ length (c.args.ends.now.items ++ ends_in added) =
    sym (length-append c.args.ends.now.items (ends_in added) ∙ ap (λ n. length c.args.ends.now.items + n) (length-map added (λ (n : NewRoute). n.ends))) in
    let last_ends : c.ends-1.given.0 ≡ c.make-made.new.table.ends.now = search (rules, c.make-made.ensures.same) in
    let last_openings : c.openings-1.given.0 ≡ c.make-made.new.table.openings.now = search (rules, c.make-made.ensures.same) in
    let went = rw (
      c.new-rounds.ensures.kept,
      c.new-rounds.ensures.report,
      c.new-rounds.ensures.latest,
      start,
      many,
    ) at (h.went Between tt) in
    told_so (g.G.PollerObserver.knows c.args.task.now.signals.now) added made.1 made.2 made.3 (rw last_openings h.reports) (rw (sym start) h.planned)
    (rw last_ends (ended_so _ _ _ _ _ _ _ _ _ _ _ _ c.make-made.new.self.poller c.make-made.result went.2 _ _ small went.1 went.3 went.4 went.5
    c.report-counts.ensures))

pub returns-clause-pumped : goal.returns-clause-pumped
returns-clause-pumped g c = (returns-clause-told g c).0

pub returns-clause-taken : goal.returns-clause-taken
returns-clause-taken g c =
    let last_openings : c.openings-1.given.0 ≡ c.make-made.new.table.openings.now = search (rules, c.make-made.ensures.same) in
    rw last_openings c.make-made.ensures.taken
