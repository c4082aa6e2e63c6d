use Rattle.srt_mailbox.proofs.Offers.{merges_poller, merges_clock}
use Rattle.srt_mailbox.proofs.inbox.InboxReceiver.settle.Goals as goal

pub absorb-requires-clause-rule : goal.absorb-requires-clause-rule
absorb-requires-clause-rule g c = merges_poller _ _ _ _ c.ingress.invariant.1

pub absorb-requires-2-clause-rule : goal.absorb-requires-2-clause-rule
absorb-requires-2-clause-rule g c = merges_clock _ _ _ _ c.clock.invariant.1
