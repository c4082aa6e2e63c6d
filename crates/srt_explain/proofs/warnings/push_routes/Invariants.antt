use Rattle.std.proofs.Common.{◌≡◌, ◌+◌, ◌++◌, drop, map}
use Rattle.toml.specs.View.{table_view}
use Rattle.srt_types.specs.Terms.{terms_of}
use Rattle.srt_explain.specs.Warnings.{routes_warnings}
use Rattle.srt_explain.proofs.warnings.push_routes.Given as goal

abbrev pub invariant-loop-at : goal.invariant-loop-at
invariant-loop-at l =
    l.list.items ++ routes_warnings (table_view l.table) (l.at + 1) (map terms_of (drop l.at l.entries))
    ≡ l.fn.list.items ++ routes_warnings (table_view l.table) 1 (map terms_of l.entries)
