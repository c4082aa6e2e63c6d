use Rattle.std.proofs.Common.{arith, ◌≡◌, ℕ, length, take, sym, ap, subst, ◌∙◌, length-take-le}
use Rattle.srt_replay.specs.Known.{Took, NoLf}
use Rattle.srt_replay.specs.Counted.{source}
use Rattle.srt_replay.proofs.FirstLine.{line_ended, long_line, ended_at}
use Rattle.srt_replay.proofs.reader.next_line.Goals as goal

pub returns-in-Line-clause-took : goal.returns-in-Line-clause-took
returns-in-Line-clause-took g c =
    let f = rw c.in-Line.is at c.in_ok-more.ensures.took in
    let before = take c.loop-reader.len c.loop-reader.line in (
      line_ended _ (g.R.Read.remaining (source c.loop-reader.reader)) _ before f.0 _ c.loop-reader.invariant.took
          c.loop-reader.invariant.inside f.1 f.3 f.2,
      f.4,
    )

pub returns-in-Long-clause-took : goal.returns-in-Long-clause-took
returns-in-Long-clause-took g c =
    let f = rw c.in-Long.is at c.in_ok-more.ensures.took in
    let before = take c.loop-reader.len c.loop-reader.line in
    long_line _ (g.R.Read.remaining (source c.loop-reader.reader)) before f.0 c.loop-reader.invariant.took c.loop-reader.invariant.inside f.1 f.2 f.3

pub returns-in-End-clause-took : goal.returns-in-End-clause-took
returns-in-End-clause-took g c =
    let f = rw c.in-End.is at c.in_ok-more.ensures.took in
    let len = c.loop-reader.len in
    let before = take len c.loop-reader.line in
    let size : length before ≡ len = length-take-le len c.loop-reader.line (omega arith) in
    let same : take len c.take_piece.new.line ≡ before = ap (λ (n : ℕ). take n c.take_piece.new.line) (sym size) ∙ f.2 in
    ended_at (g.R.Read.remaining (source c.args.reader.now)) (g.R.Read.remaining (source c.loop-reader.reader))
    (g.R.Read.remaining (source c.take_piece.new.self)) len c.take_piece.new.line
    (subst (Took (g.R.Read.remaining (source c.args.reader.now)) (g.R.Read.remaining (source c.loop-reader.reader))) (sym same) c.loop-reader.invariant.took)
    (subst NoLf (sym same) c.loop-reader.invariant.inside) (ap length same ∙ size) (omega arith) f.0 f.1 c.at_end.result
    c.at_end.ensures.none c.at_end.ensures.some
