use Rattle.srt_route.specs.Ledgers.{idle_cause}
use Rattle.srt_route.proofs.steps.Noting.{NotedUpTo}
use Rattle.srt_route.proofs.ledger.Ledger.note_idle.Given as goal

-- the ends of the sessions in the slots below `at` are recorded
abbrev pub invariant-loop-at : goal.invariant-loop-at
invariant-loop-at l = NotedUpTo (idle_cause l.clock) l.clock l.at l.table l.fn.self l.self
