use Rattle.std.proofs.Common.{ap}
use Rattle.srt_mailbox.specs.Places.{arrived}
use Rattle.srt_serve.proofs.Added.{next_answered}
use Rattle.srt_serve.proofs.Indexed.{next_indexed}
use Rattle.srt_serve.proofs.arrivals.PollerArrivalsOpenings.next.Goals as goal

pub invariant_of-self : goal.invariant_of-self
invariant_of-self g c = record {
  indexed =
      next_indexed _ _ c.next_poller.result (arrived c.args.self.now.reader) (arrived c.next_poller.new.reader) (λ e h. (h.0, h.1, h.2))
      (λ same. ap arrived same) c.next_poller.ensures.some c.next_poller.ensures.none c.args.self.now.indexed;
  answered =
      next_answered g.A.Answers.answered g.A.Beginning.first _ _ c.next_poller.result
      (arrived c.args.self.now.reader) (arrived c.next_poller.new.reader) (λ e h. (h.0, h.1, h.2, h.4.1))
      (λ same. ap arrived same) c.next_poller.ensures.some c.next_poller.ensures.none c.args.self.now.answered;
}
