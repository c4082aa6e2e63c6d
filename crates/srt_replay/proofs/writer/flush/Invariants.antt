use Rattle.std.proofs.Common.{◌^◌, ◌-◌, ◌≤◌}
use Rattle.std.specs.Io.KnownBytes.{Keeps}
use Rattle.srt_replay.specs.Tries.{made_in}
use Rattle.srt_replay.proofs.writer.flush.Given as goal

abbrev pub invariant-loop-note : goal.invariant-loop-note
invariant-loop-note g l = record { kept : Keeps (g.W.Write.contents l.fn.writer) (g.W.Write.contents l.writer); made : made_in l.note ≤ 2 ^ 33 }

abbrev pub decreases-loop-note : goal.decreases-loop-note
decreases-loop-note g l = 2 ^ 33 - made_in l.note
