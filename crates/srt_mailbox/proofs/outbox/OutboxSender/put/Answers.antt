use Rattle.srt_mailbox.proofs.Moves.{puts, learns_put}
use Rattle.srt_mailbox.proofs.outbox.OutboxSender.put.Goals as goal

pub push-requires-clause-rule : goal.push-requires-clause-rule
push-requires-clause-rule g c = (puts _ _ _ _ c.self.invariant.1, learns_put _ _ c.self.invariant.1)
