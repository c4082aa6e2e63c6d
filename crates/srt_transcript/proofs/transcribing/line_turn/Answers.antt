use Rattle.std.proofs.Common.{Bool, subst}
use Rattle.srt_replay.specs.Counted.{source}
use Rattle.srt_replay.specs.Tries.{sink}
use Rattle.srt_transcript.specs.inside.Rounds.{Written, EventsTaken}
use Rattle.srt_transcript.proofs.Progress.{after_end, line_turned}
use Rattle.srt_transcript.proofs.transcribing.line_turn.Goals as goal

pub returns-then-has_ended-clause-turned : goal.returns-then-has_ended-clause-turned
returns-then-has_ended-clause-turned g c before xs ys held output_left output_ended is w =
    let left = g.B.Read.remaining (source c.args.tape.now) in
    let now = g.W.Write.contents (sink c.args.writer.now) in
    after_end xs ys held left left output_left now before c.args.number output_ended is
    (subst (λ (e : Bool). Written ys held output_left now before before output_ended (EventsTaken xs left before e)) c.if-has_ended.true w)

pub returns-clause-turned : goal.returns-clause-turned
returns-clause-turned g c before xs ys held output_left output_ended is w =
    let left = g.B.Read.remaining (source c.args.tape.now) in
    let now = g.W.Write.contents (sink c.args.writer.now) in
    line_turned xs ys held left (g.B.Read.remaining (source c.explain_next.new.tape)) output_left now
    (g.W.Write.contents (sink c.explain_next.new.writer)) before c.args.number output_ended is
    (subst (λ (e : Bool). Written ys held output_left now before before output_ended (EventsTaken xs left before e)) c.if-has_ended.false w)
    c.explain_next.result c.explain_next.ensures.explained
