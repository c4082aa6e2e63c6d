use Rattle.std.proofs.Common.{◌^◌, ◌-◌, ◌≤◌, take, length}
use Rattle.srt_replay.specs.Known.{Wrote}
use Rattle.srt_replay.specs.Tries.{made_in}
use Rattle.srt_replay.proofs.writer.write_bytes.Given as goal

abbrev pub invariant-loop-note : goal.invariant-loop-note
invariant-loop-note g l =
    record {
      within : l.at ≤ length l.bytes;
      wrote : Wrote (g.W.Write.contents l.fn.writer) (g.W.Write.contents l.writer) (take l.at l.bytes);
      made : made_in l.note ≤ 2 ^ 33;
    }

abbrev pub decreases-loop-note : goal.decreases-loop-note
decreases-loop-note g l = 2 ^ 33 - made_in l.note
