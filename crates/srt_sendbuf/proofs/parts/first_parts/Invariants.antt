use Rattle.std.proofs.Common.{◌+◌, ◌≤◌, length}
use Rattle.srt_types.specs.Window.{word_of}
use Rattle.srt_sendbuf.specs.Parts.{is_in_parts, AreWithin, IsTaken}
use Rattle.srt_sendbuf.proofs.parts.first_parts.Given as goal

-- the parts are those of the ranges that were read
abbrev pub invariant-loop-front : goal.invariant-loop-front
invariant-loop-front l =
    record {
      named : IsTaken (word_of l.front) l.width l.fn.ranges l.ranges (is_in_parts l.parts.items);
      within : AreWithin l.width l.parts.items;
      shorter : length l.ranges + length l.parts.items ≤ length l.fn.ranges;
    }

abbrev pub decreases-loop-front : goal.decreases-loop-front
decreases-loop-front l = length l.ranges
