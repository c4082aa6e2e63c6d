use Rattle.srt_mailbox.proofs.Offers.{learns_ticked}
use Rattle.srt_mailbox.proofs.inbox.ClockEnd.is_full.Goals as goal

pub find_full-requires-clause-rule : goal.find_full-requires-clause-rule
find_full-requires-clause-rule c = learns_ticked _ _ c.self.invariant.1
