use Rattle.std.proofs.Common.{◌-◌, ◌≤◌, length}
use Rattle.std.specs.Vec.{vec_capacity}
use Rattle.srt_route.proofs.replies.blank_boxes.Given as goal

-- at most as many boxes as requested, and capacity for all
abbrev pub invariant-loop-alloc : goal.invariant-loop-alloc
invariant-loop-alloc l = record {
  few : length l.boxes.items ≤ l.count;
  room : l.count ≤ vec_capacity l.boxes;
}

abbrev pub decreases-loop-alloc : goal.decreases-loop-alloc
decreases-loop-alloc l = l.count - length l.boxes.items
