use Rattle.std.proofs.Common.{◌-◌, ◌≤◌, length}
use Rattle.srt_route.proofs.steps.Resting.{AreCounted}
use Rattle.srt_route.proofs.table.Table.open.Given as goal

-- at most as many seats as requested, all vacant, with their generations and with buffers of the requested width
abbrev pub invariant-loop-alloc : goal.invariant-loop-alloc
invariant-loop-alloc l = record {
  few : length l.seats.items ≤ l.sessions;
  counted : AreCounted l.entry.buffer l.generations l.seats.items;
}

abbrev pub decreases-loop-alloc : goal.decreases-loop-alloc
decreases-loop-alloc l = l.sessions - length l.seats.items
