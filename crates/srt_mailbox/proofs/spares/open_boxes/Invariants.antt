use Rattle.std.proofs.Common.{◌≡◌, length}
use Rattle.srt_mailbox.proofs.spares.open_boxes.Given as goal

abbrev pub invariant-loop-at : goal.invariant-loop-at
invariant-loop-at l = length l.stock.items ≡ l.at
