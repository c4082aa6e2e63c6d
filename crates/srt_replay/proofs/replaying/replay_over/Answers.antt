use Rattle.srt_replay.proofs.Replays.{flushed, is_part}
use Rattle.srt_replay.specs.Counted.{source}
use Rattle.srt_replay.specs.Tries.{sink}
use Rattle.srt_replay.proofs.replaying.replay_over.Goals as goal

pub returns-in-Ok-clause-replays : goal.returns-in-Ok-clause-replays
returns-in-Ok-clause-replays g c secret entries h =
    flushed (g.L.Lobby.class secret) g.R.RouteStep.reply entries (g.B.Read.remaining (source c.args.reader.now))
    (g.W.Write.contents (sink c.args.writer.now)) (g.W.Write.contents (sink c.answer_lines-answered.new.writer))
    (g.W.Write.contents (sink c.flush.new.self)) c.answer_lines-answered.result (c.answer_lines-answered.ensures.replays secret entries h)
    c.flush.ensures.bytes

pub returns-in-Err-clause-replays : goal.returns-in-Err-clause-replays
returns-in-Err-clause-replays g c secret entries h =
    is_part (g.L.Lobby.class secret) g.R.RouteStep.reply entries (g.B.Read.remaining (source c.args.reader.now))
    (g.W.Write.contents (sink c.args.writer.now)) (g.W.Write.contents (sink c.flush.new.self)) c.answer_lines-answered.result
    (flushed (g.L.Lobby.class secret) g.R.RouteStep.reply entries (g.B.Read.remaining (source c.args.reader.now))
    (g.W.Write.contents (sink c.args.writer.now)) (g.W.Write.contents (sink c.answer_lines-answered.new.writer))
    (g.W.Write.contents (sink c.flush.new.self)) c.answer_lines-answered.result (c.answer_lines-answered.ensures.replays secret entries h)
    c.flush.ensures.bytes)
