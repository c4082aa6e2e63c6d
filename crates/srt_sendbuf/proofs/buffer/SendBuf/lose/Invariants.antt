use Rattle.std.proofs.Common.{ℕ, ◌+◌, ◌*◌, ◌≤◌, length}
use Rattle.srt_sendbuf.specs.Places.{marks_of}
use Rattle.srt_sendbuf.specs.Stands.{TakesParts}
use Rattle.srt_sendbuf.proofs.buffer.SendBuf.lose.Given as goal

-- the packets in the ranges that were read are marked, in at most one step for each 365 ranges
abbrev pub invariant-loop-ranges : goal.invariant-loop-ranges
invariant-loop-ranges l =
    record {
      lost : TakesParts l.fn.self l.self l.losses l.ranges;
      marks : (turns : ℕ) × (365 * turns + length l.ranges ≤ length l.losses) × (marks_of l.self.ring ≤ marks_of l.fn.self.ring + turns * l.fn.self.sent);
    }

abbrev pub decreases-loop-ranges : goal.decreases-loop-ranges
decreases-loop-ranges l = length l.ranges
