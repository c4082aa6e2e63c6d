use Rattle.std.proofs.Common.{List, ℕ, take, subst}
use Rattle.srt_replay.specs.Known.{Wrote}
use Rattle.srt_replay.specs.Tries.{sink}
use Rattle.srt_transcript.proofs.transcribing.write_reply.Goals as goal

pub returns-in-Ok-clause-written : goal.returns-in-Ok-clause-written
returns-in-Ok-clause-written g c = (
  c.first_line.result.now,
  c.first_line.ensures.inside,
  subst (Wrote (g.W.Write.contents (sink c.args.writer.now)) (g.W.Write.contents (sink c.write_bytes.new.self))) c.write_answer-end.ensures.text
      c.in-Ok.ensures.ok,
)

pub returns-in-Err-clause-written : goal.returns-in-Err-clause-written
returns-in-Err-clause-written g c =
    let w = c.in-Err.ensures.err in (
      c.first_line.result.now,
      w.0,
      c.first_line.ensures.inside,
      subst
          (λ (bs : List ℕ).
          Wrote (g.W.Write.contents (sink c.args.writer.now)) (g.W.Write.contents (sink c.write_bytes.new.self)) (take w.0 bs))
          c.write_answer-end.ensures.text w.1,
    )
