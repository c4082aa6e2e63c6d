use Rattle.srt_mailbox.proofs.Moves.{learns_drained}
use Rattle.srt_mailbox.proofs.outbox.Drain.is_empty.Goals as goal

pub find_empty-requires-clause-rule : goal.find_empty-requires-clause-rule
find_empty-requires-clause-rule c = learns_drained _ _ c.self.invariant.1
