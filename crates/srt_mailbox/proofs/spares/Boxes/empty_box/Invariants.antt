use Rattle.std.proofs.Common.{◌≤◌, length}
use Rattle.srt_mailbox.proofs.spares.Boxes.empty_box.Given as goal

abbrev pub invariant-loop : goal.invariant-loop
invariant-loop g l =
    (goal.iterator-loop g).can_next l.iterator' × (goal.iterator-loop g).is_finite l.iterator'
    × (length l.fn.self.stock.items ≤ length l.self.stock.items)
