use Rattle.srt_transcript.proofs.Numbers.{too_long}
use Rattle.srt_transcript.proofs.transcribing.explain_next.Goals as goal

pub returns-in-Ok-clause-explained : goal.returns-in-Ok-clause-explained
returns-in-Ok-clause-explained g c =
    let long = rw c.in-Ok-Long.field-0-is at c.in-Ok-Long.ensures.took in (
      λ xs e.
          let p = long xs e in
          (p.0, p.1, p.2, too_long c.args.number p.0 p.3),
      c.in-Ok.ensures.written,
    )
