use Rattle.srt_route.proofs.steps.Draining.{EndsUpTo, Settles}
use Rattle.srt_route.proofs.stored.Kept.{UpTo}
use Rattle.srt_route.proofs.draining.settle_each.Given as goal

-- the seats below `at` have settled, and their ends are recorded
abbrev pub invariant-loop-at : goal.invariant-loop-at
invariant-loop-at l = record {
  seats : UpTo (Settles l.fn.table.publishers.items l.fn.table.mode l.delivered l.clock) l.at l.fn.table l.table;
  ends : EndsUpTo l.clock l.at l.fn.table l.fn.ledger l.ledger;
}
