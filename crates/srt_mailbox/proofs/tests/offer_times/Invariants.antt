use Rattle.std.proofs.Common.{◌≡◌}
use Rattle.srt_mailbox.proofs.tests.offer_times.Given as goal

abbrev pub invariant-loop-turn : goal.invariant-loop-turn
invariant-loop-turn g l = l.ingress.queue ≡ l.fn.ingress.queue
