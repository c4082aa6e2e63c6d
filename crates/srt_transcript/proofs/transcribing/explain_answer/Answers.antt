use Rattle.std.proofs.Common.{take}
use Rattle.srt_transcript.proofs.transcribing.explain_answer.Goals as goal

pub returns-in-Ok-clause-explained : goal.returns-in-Ok-clause-explained
returns-in-Ok-clause-explained g c =
    let took = rw c.in-Ok-Line.field-0-is at c.in-Ok-Line.ensures.took in
    (record { line = take c.in-Ok-Line.len c.next_line.new.line; took = took.0 }, c.in-Ok.ensures.written)
