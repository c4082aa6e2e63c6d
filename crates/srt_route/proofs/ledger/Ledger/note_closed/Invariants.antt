use Rattle.srt_route.specs.Ledgers.{closed_cause}
use Rattle.srt_route.proofs.steps.Noting.{NotedUpTo}
use Rattle.srt_route.proofs.ledger.Ledger.note_closed.Given as goal

-- the ends of the sessions in the slots below `at` are recorded
abbrev pub invariant-loop-at : goal.invariant-loop-at
invariant-loop-at l = NotedUpTo closed_cause l.clock l.at l.table l.fn.self l.self
