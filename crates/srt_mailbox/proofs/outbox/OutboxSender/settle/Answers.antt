use Rattle.srt_mailbox.proofs.Moves.{merges}
use Rattle.srt_mailbox.proofs.outbox.OutboxSender.settle.Goals as goal

pub absorb-requires-clause-rule : goal.absorb-requires-clause-rule
absorb-requires-clause-rule g c = merges _ _ _ _ c.drain.invariant.1
