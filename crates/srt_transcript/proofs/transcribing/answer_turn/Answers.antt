use Rattle.std.proofs.Common.{Bool, subst}
use Rattle.srt_replay.specs.Counted.{source}
use Rattle.srt_replay.specs.Tries.{sink}
use Rattle.srt_transcript.specs.inside.Rounds.{Written, TapeAfter}
use Rattle.srt_transcript.proofs.Progress.{after_last, answer_turned}
use Rattle.srt_transcript.proofs.transcribing.answer_turn.Goals as goal

pub returns-then-has_ended-clause-turned : goal.returns-then-has_ended-clause-turned
returns-then-has_ended-clause-turned g c before xs ys held tape_left line is w =
    let left = g.B.Read.remaining (source c.args.output.now) in
    let now = g.W.Write.contents (sink c.args.writer.now) in
    after_last ys held left left now before c.args.number (TapeAfter xs tape_left c.args.number line) is
    (subst (λ (e : Bool). Written ys held left now c.args.number before e (TapeAfter xs tape_left c.args.number line)) c.if-has_ended.true w)

pub returns-clause-turned : goal.returns-clause-turned
returns-clause-turned g c before xs ys held tape_left line is w =
    let left = g.B.Read.remaining (source c.args.output.now) in
    let now = g.W.Write.contents (sink c.args.writer.now) in
    answer_turned ys held left (g.B.Read.remaining (source c.explain_answer.new.output)) now
    (g.W.Write.contents (sink c.explain_answer.new.writer)) before c.args.number (TapeAfter xs tape_left c.args.number line) is
    (subst (λ (e : Bool). Written ys held left now c.args.number before e (TapeAfter xs tape_left c.args.number line)) c.if-has_ended.false w)
    c.explain_answer.result c.explain_answer.ensures.explained
