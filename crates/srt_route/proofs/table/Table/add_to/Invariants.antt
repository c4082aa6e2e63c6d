use Rattle.std.proofs.Common.{ℕ, List}
use Rattle.srt_types.specs.Terms.{Terms}
use Rattle.srt_route.specs.Sessions.{Session}
use Rattle.srt_route.specs.Tables.{IsTable}
use Rattle.srt_route.specs.Totals.{AddUp}
use Rattle.srt_route.proofs.table.Table.add_to.Given as goal

-- the sums contain the counts of the open sessions in the slots below `at`
abbrev pub invariant-loop-at : goal.invariant-loop-at
invariant-loop-at l =
    (e : Terms) (index clock : ℕ) (sessions : List Session)
    → IsTable e index clock l.self sessions → AddUp e index sessions l.at l.fn.ended l.totals
