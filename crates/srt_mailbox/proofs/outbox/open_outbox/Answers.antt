use Rattle.std.proofs.Common.{rules}
use Rattle.srt_mailbox.proofs.Moves.{begins, forks}
use Rattle.srt_mailbox.proofs.outbox.open_outbox.Goals as goal

pub ruled-requires-clause-rule : goal.ruled-requires-clause-rule
ruled-requires-clause-rule c = begins

pub another-drains-requires-clause-rule : goal.another-drains-requires-clause-rule
another-drains-requires-clause-rule c = forks _ _ (search rules)
