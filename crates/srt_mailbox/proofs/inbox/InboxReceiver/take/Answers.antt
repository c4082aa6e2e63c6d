use Rattle.std.proofs.Common.{◌≡◌, true, sym, subst, ◌∙◌}
use Rattle.std.specs.Arc.{arc_value}
use Rattle.crossbeam_queue.specs.Fifo.{Held}
use Rattle.crossbeam_queue.specs.Passes.{ruled_capacity}
use Rattle.srt_mailbox.specs.Ends.{Consumer, consumer}
use Rattle.srt_mailbox.specs.Inbox.{StoodAsTaken}
use Rattle.srt_mailbox.specs.declared.inbox_rule.InboxView.{InboxView}
use Rattle.srt_mailbox.proofs.Offers.{takes, learns_rest}
use Rattle.srt_mailbox.proofs.inbox.InboxReceiver.take.Goals as goal

pub find_empty-requires-clause-rule : goal.find_empty-requires-clause-rule
find_empty-requires-clause-rule g c = learns_rest _ _ c.self.invariant.1

pub returns-in-Some-clause-took : goal.returns-in-Some-clause-took
returns-in-Some-clause-took g c =
    let inside = c.self.inside in
    let same = c.find_empty.ensures.queue in (
      (λ i. consumer (same.0.0 i) (ruled_capacity (arc_value inside.queue)) (same.1 i).taken) ∙ c.self.view_is,
      subst (λ (d : Consumer). Held 0 (StoodAsTaken d.taken)) c.self.view_is c.in-Some.ensures.rule,
    )

pub pop-requires-clause-rule : goal.pop-requires-clause-rule
pop-requires-clause-rule g c =
    let may = subst (λ (v : InboxView). v.takes ≡ true) (sym c.find_empty.ensures.queue.1) c.self.invariant.1 in
    (takes _ _ may, learns_rest _ _ may)
