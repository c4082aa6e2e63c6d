use Rattle.srt_transcript.proofs.Progress.{flushed, is_part}
use Rattle.srt_replay.specs.Tries.{sink}
use Rattle.srt_transcript.proofs.transcribing.transcribe.Goals as goal

pub returns-in-Ok-clause-transcript : goal.returns-in-Ok-clause-transcript
returns-in-Ok-clause-transcript g c xs ys t o =
    flushed xs ys (g.W.Write.contents (sink c.args.writer.now)) (g.W.Write.contents (sink c.transcribe_lines-written.new.writer))
    (g.W.Write.contents (sink c.flush.new.self)) c.transcribe_lines-written.result (c.transcribe_lines-written.ensures.transcript xs ys t o)
    c.flush.ensures.bytes

pub returns-in-Err-clause-transcript : goal.returns-in-Err-clause-transcript
returns-in-Err-clause-transcript g c xs ys t o =
    is_part xs ys (g.W.Write.contents (sink c.args.writer.now)) (g.W.Write.contents (sink c.flush.new.self)) c.transcribe_lines-written.result
    (flushed xs ys (g.W.Write.contents (sink c.args.writer.now)) (g.W.Write.contents (sink c.transcribe_lines-written.new.writer))
    (g.W.Write.contents (sink c.flush.new.self)) c.transcribe_lines-written.result (c.transcribe_lines-written.ensures.transcript xs ys t o)
    c.flush.ensures.bytes)
