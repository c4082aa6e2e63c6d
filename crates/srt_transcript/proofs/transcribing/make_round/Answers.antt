use Rattle.std.proofs.Common.{subst}
use Rattle.srt_replay.specs.Counted.{source}
use Rattle.srt_replay.specs.Tries.{sink}
use Rattle.srt_transcript.specs.declared.transcribing.Explained.{Explained}
use Rattle.srt_transcript.specs.inside.Rounds.{Written, TapeAfter}
use Rattle.srt_transcript.proofs.Progress.{line_stops, answer_stops, stopped}
use Rattle.srt_transcript.proofs.transcribing.make_round.Goals as goal

pub returns-in-Err-clause-made : goal.returns-in-Err-clause-made
returns-in-Err-clause-made g c before xs ys held is w =
    let output = g.O.Read.remaining (source c.args.output.now) in
    line_stops xs ys held (g.T.Read.remaining (source c.line_turn.new.tape)) output (g.W.Write.contents (sink c.line_turn.new.writer)) before
    c.args.number c.args.ended.output c.in-Err.fault (c.in-Err.ensures.turned before xs ys held output c.args.ended.output is w)

pub returns-in-Err-answer_turn-clause-made : goal.returns-in-Err-answer_turn-clause-made
returns-in-Err-answer_turn-clause-made g c before xs ys held is w =
    let output = g.O.Read.remaining (source c.args.output.now) in
    let tape = g.T.Read.remaining (source c.line_turn.new.tape) in
    answer_stops xs ys held (g.O.Read.remaining (source c.answer_turn.new.output)) (g.W.Write.contents (sink c.answer_turn.new.writer))
    c.args.number (TapeAfter xs tape c.args.number c.in-Ok.line) c.in-Err-answer_turn.fault
    (c.in-Err-answer_turn.ensures.turned before xs ys held tape c.in-Ok.line is
    (c.in-Ok.ensures.turned before xs ys held output c.args.ended.output is w))

pub returns-in-Event-clause-made : goal.returns-in-Event-clause-made
returns-in-Event-clause-made g c before xs ys held is w =
    let output = g.O.Read.remaining (source c.args.output.now) in
    let tape = g.T.Read.remaining (source c.line_turn.new.tape) in
    subst
    (λ (line : Explained).
    Written ys held (g.O.Read.remaining (source c.answer_turn.new.output)) (g.W.Write.contents (sink c.answer_turn.new.writer)) c.args.number
    c.args.number c.in-Ok-answer_turn.output_ended (TapeAfter xs tape c.args.number line))
    c.in-Event.is
    (c.in-Ok-answer_turn.ensures.turned before xs ys held tape c.in-Ok.line is
    (c.in-Ok.ensures.turned before xs ys held output c.args.ended.output is w))

pub returns-in-Other-clause-made : goal.returns-in-Other-clause-made
returns-in-Other-clause-made g c before xs ys held is w =
    let output = g.O.Read.remaining (source c.args.output.now) in
    let tape = g.T.Read.remaining (source c.line_turn.new.tape) in
    stopped xs ys held (g.O.Read.remaining (source c.answer_turn.new.output)) (g.W.Write.contents (sink c.answer_turn.new.writer)) c.args.number
    c.in-Ok-answer_turn.output_ended
    (subst
    (λ (line : Explained).
    Written ys held (g.O.Read.remaining (source c.answer_turn.new.output)) (g.W.Write.contents (sink c.answer_turn.new.writer)) c.args.number
    c.args.number c.in-Ok-answer_turn.output_ended (TapeAfter xs tape c.args.number line))
    c.in-Other.is
    (c.in-Ok-answer_turn.ensures.turned before xs ys held tape c.in-Ok.line is
    (c.in-Ok.ensures.turned before xs ys held output c.args.ended.output is w)))

pub returns-in-End-clause-made : goal.returns-in-End-clause-made
returns-in-End-clause-made g c before xs ys held is w =
    let output = g.O.Read.remaining (source c.args.output.now) in
    let tape = g.T.Read.remaining (source c.line_turn.new.tape) in
    subst
    (λ (line : Explained).
    Written ys held (g.O.Read.remaining (source c.answer_turn.new.output)) (g.W.Write.contents (sink c.answer_turn.new.writer)) c.args.number
    c.args.number c.in-Ok-answer_turn.output_ended (TapeAfter xs tape c.args.number line))
    c.in-End.is
    (c.in-Ok-answer_turn.ensures.turned before xs ys held tape c.in-Ok.line is
    (c.in-Ok.ensures.turned before xs ys held output c.args.ended.output is w))
