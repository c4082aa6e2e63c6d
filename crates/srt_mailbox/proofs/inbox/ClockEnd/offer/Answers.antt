use Rattle.std.proofs.Common.{ap}
use Rattle.srt_mailbox.specs.inside.Entries.{OfferedItem}
use Rattle.srt_mailbox.proofs.Offers.{ticks, learns_ticked}
use Rattle.srt_mailbox.proofs.inbox.ClockEnd.offer.Goals as goal

pub push-requires-clause-rule : goal.push-requires-clause-rule
push-requires-clause-rule g c =
    (ticks _ _ _ _ c.self.invariant.1 (ap (λ (m : OfferedItem). m.polled) c.new-entry.ensures), learns_ticked _ _ c.self.invariant.1)
