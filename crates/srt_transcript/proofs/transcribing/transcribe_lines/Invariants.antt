use Rattle.std.proofs.Common.{◌≡◌, ℕ, ◌≤◌, List, Some}
use Rattle.srt_replay.specs.Counted.{source, reads_left, last_brought}
use Rattle.srt_replay.specs.Tries.{sink}
use Rattle.srt_transcript.specs.inside.Rounds.{IsWritten, HaveEnded}
use Rattle.srt_transcript.proofs.transcribing.transcribe_lines.Given as goal

abbrev pub invariant-loop-before : goal.invariant-loop-before
invariant-loop-before g l = record {
  short : l.before ≤ 1_000_001;
  tape_reads : reads_left l.tape ≤ reads_left l.fn.tape;
  output_reads : reads_left l.output ≤ reads_left l.fn.output;
  ends : HaveEnded l.ended (last_brought l.tape) (last_brought l.output);
  written :
      (xs ys : List ℕ) → g.T.Read.remaining (source l.fn.tape) ≡ Some xs → g.O.Read.remaining (source l.fn.output) ≡ Some ys
      → IsWritten xs ys (g.W.Write.contents (sink l.fn.writer)) (g.T.Read.remaining (source l.tape)) (g.O.Read.remaining (source l.output))
      (g.W.Write.contents (sink l.writer)) l.before l.ended;
}
