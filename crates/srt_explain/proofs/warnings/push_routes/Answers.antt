use Rattle.std.proofs.Common.{◌≤◌, length, arith}
use Rattle.toml.specs.View.{table_view}
use Rattle.srt_explain.proofs.Added.{next_route, no_route_left}
use Rattle.srt_explain.proofs.warnings.push_routes.Goals as goal

pub loop-at-preserved : goal.loop-at-preserved
loop-at-preserved c =
    next_route (table_view c.args.table.now) _ _ _ _ _ _ _ c.loop-at-test.true c.index-entries-at.is c.loop-at.invariant c.in_ok-push_route.ensures

pub returns : goal.returns
returns c =
    let passed : length c.args.entries.now ≤ c.loop-at.at = omega arith in
    no_route_left (table_view c.args.table.now) _ _ _ _ passed c.loop-at.invariant
