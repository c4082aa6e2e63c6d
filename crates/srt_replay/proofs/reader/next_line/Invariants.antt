use Rattle.std.proofs.Common.{◌≡◌, ◌≤◌, length, take}
use Rattle.srt_replay.specs.Known.{Took, NoLf}
use Rattle.srt_replay.specs.Counted.{source, reads_left}
use Rattle.srt_replay.proofs.reader.next_line.Given as goal

abbrev pub invariant-loop-reader : goal.invariant-loop-reader
invariant-loop-reader g l =
    record {
      took : Took (g.R.Read.remaining (source l.fn.reader)) (g.R.Read.remaining (source l.reader)) (take l.len l.line);
      inside : NoLf (take l.len l.line);
      within : l.len ≤ 4096;
      sized : length l.line ≡ 4096;
      fewer : reads_left l.reader ≤ reads_left l.fn.reader;
    }

abbrev pub decreases-loop-reader : goal.decreases-loop-reader
decreases-loop-reader g l = reads_left l.reader
