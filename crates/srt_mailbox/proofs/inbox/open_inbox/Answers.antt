use Rattle.std.proofs.Common.{rules}
use Rattle.srt_mailbox.proofs.Offers.{begins, forks_poller, forks_clock}
use Rattle.srt_mailbox.proofs.inbox.open_inbox.Goals as goal

pub ruled-requires-clause-rule : goal.ruled-requires-clause-rule
ruled-requires-clause-rule c = begins

pub another-poller-requires-clause-rule : goal.another-poller-requires-clause-rule
another-poller-requires-clause-rule c = forks_poller _ _ (search rules)

pub another-clock-requires-clause-rule : goal.another-clock-requires-clause-rule
another-clock-requires-clause-rule c = forks_clock _ _ (search rules)
