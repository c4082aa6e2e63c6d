use Rattle.std.proofs.Common.{◌≤◌, length}
use Rattle.srt_serve.specs.inside.Working.{ArePassed}
use Rattle.srt_serve.proofs.working.serve_between.Given as goal

abbrev pub invariant-loop : goal.invariant-loop
invariant-loop g l = record {
  ahead : l.counter ≤ l.route;
  passed : ArePassed (g.M.RouteMarks.passed l.routes.marks.now) (length l.routes.cells.now) l.from l.route;
}
