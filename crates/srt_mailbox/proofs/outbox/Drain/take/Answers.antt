use Rattle.std.proofs.Common.{◌∙◌, subst}
use Rattle.std.specs.Arc.{arc_value}
use Rattle.crossbeam_queue.specs.Fifo.{Held}
use Rattle.crossbeam_queue.specs.Passes.{ruled_capacity}
use Rattle.srt_mailbox.specs.Outbox.{replies_in, StoodAsDrained}
use Rattle.srt_mailbox.specs.Ends.{Drained, drained}
use Rattle.srt_mailbox.proofs.Moves.{drains, learns_drained}
use Rattle.srt_mailbox.proofs.outbox.Drain.take.Goals as goal

pub pop-requires-clause-rule : goal.pop-requires-clause-rule
pop-requires-clause-rule g c = (drains _ _ c.self.invariant.1, learns_drained _ _ c.self.invariant.1)

pub returns-in-Err-clause-none : goal.returns-in-Err-clause-none
returns-in-Err-clause-none g c =
    let inside = c.self.inside in
    let same = c.in-Err.ensures.queue in
    let empty = c.in-Err.ensures.rule in (
      (λ i. drained (same.0 i) (ruled_capacity (arc_value inside.queue)) (replies_in (empty.0 i).drained) inside.hand.value) ∙ c.self.view_is,
      subst (λ (d : Drained). Held 0 (StoodAsDrained d.through)) c.self.view_is empty.1,
    )
