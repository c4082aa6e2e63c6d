use Rattle.std.proofs.Common.{◌≡◌, ◌≤◌}
use Rattle.srt_log.specs.Changes.{opened_below}
use Rattle.srt_log.proofs.changes.opened_in.Given as goal

abbrev pub invariant-loop-slot : goal.invariant-loop-slot
invariant-loop-slot l = record {
  count : l.opened ≡ opened_below l.slot l.old.slots l.new.slots;
  most : l.opened ≤ l.slot;
}
