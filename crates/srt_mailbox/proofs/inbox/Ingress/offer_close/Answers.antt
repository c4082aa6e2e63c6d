use Rattle.std.proofs.Common.{ap}
use Rattle.srt_mailbox.specs.inside.Entries.{OfferedItem}
use Rattle.srt_mailbox.proofs.Offers.{polls, learns_polled}
use Rattle.srt_mailbox.proofs.inbox.Ingress.offer_close.Goals as goal

pub push-requires-clause-rule : goal.push-requires-clause-rule
push-requires-clause-rule g c =
    (polls _ _ _ _ c.self.invariant.1 (ap (λ (m : OfferedItem). m.polled) c.new-close.ensures), learns_polled _ _ c.self.invariant.1)
