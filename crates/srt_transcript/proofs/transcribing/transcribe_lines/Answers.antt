use Rattle.std.proofs.Common.{◌+◌, arith, le_refl, refl}
use Rattle.srt_replay.specs.Counted.{source}
use Rattle.srt_replay.specs.Tries.{sink}
use Rattle.srt_transcript.proofs.Progress.{started, done_at}
use Rattle.srt_transcript.proofs.transcribing.transcribe_lines.Goals as goal

pub loop-before-init : goal.loop-before-init
loop-before-init g c = record {
  short = omega arith;
  tape_reads = le_refl _;
  output_reads = le_refl _;
  ends = (λ e. absurd cc, λ e. absurd cc);
  written = λ xs ys t o. started xs ys (g.W.Write.contents (sink c.args.writer.now)) (g.T.Read.remaining (source c.args.tape.now))
      (g.O.Read.remaining (source c.args.output.now)) t o;
}

pub returns-in-Err-clause-transcript : goal.returns-in-Err-clause-transcript
returns-in-Err-clause-transcript g c xs ys t o =
    c.in-Err.ensures.made c.loop-before.before xs ys (g.W.Write.contents (sink c.args.writer.now)) refl
    (c.loop-before.invariant.written xs ys t o)

pub returns-then-are_both-clause-transcript : goal.returns-then-are_both-clause-transcript
returns-then-are_both-clause-transcript g c xs ys t o =
    let held = g.W.Write.contents (sink c.args.writer.now) in
    let both = c.if-are_both.ensures in
    done_at xs ys held (g.T.Read.remaining (source c.make_round.new.tape)) (g.O.Read.remaining (source c.make_round.new.output))
    (g.W.Write.contents (sink c.make_round.new.writer)) (c.loop-before.before + 1) c.in-Ok.ended.tape c.in-Ok.ended.output both.0 both.1
    (c.in-Ok.ensures.made c.loop-before.before xs ys held refl (c.loop-before.invariant.written xs ys t o))

pub loop-before-preserved : goal.loop-before-preserved
loop-before-preserved g c =
    let reads = c.in-Ok.ensures.reads c.loop-before.invariant.ends in
    record {
      short = reads.1 c.if-are_both.ensures;
      tape_reads = omega (arith, c.in-Ok.ensures.tape_reads, c.loop-before.invariant.tape_reads);
      output_reads = omega (arith, c.in-Ok.ensures.output_reads, c.loop-before.invariant.output_reads);
      ends = reads.0;
      written = λ xs ys t o.
          c.in-Ok.ensures.made c.loop-before.before xs ys (g.W.Write.contents (sink c.args.writer.now)) refl
          (c.loop-before.invariant.written xs ys t o);
    }
