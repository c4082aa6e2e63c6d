use Rattle.std.proofs.Common.{◌-◌, ◌≤◌, length}
use Rattle.srt_route.proofs.stored.HeldKeys.{AreClear}
use Rattle.srt_route.proofs.slot_keys.clear_slots.Given as goal

-- at most as many slots as requested, none with keys
abbrev pub invariant-loop-slots : goal.invariant-loop-slots
invariant-loop-slots l = record {
  few : length l.slots.items ≤ l.count;
  clear : AreClear l.slots.items;
}

abbrev pub decreases-loop-slots : goal.decreases-loop-slots
decreases-loop-slots l = l.count - length l.slots.items
