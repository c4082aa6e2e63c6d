use Rattle.srt_replay.specs.Tape.{fields_of}
use Rattle.srt_replay.proofs.Splits.{not_one}
use Rattle.srt_replay.proofs.events.one_field.Goals as goal

pub returns-in-Some : goal.returns-in-Some
returns-in-Some c = λ a is.
    let one = rw c.in-Some.is at c.split_field-only.ensures.fields in
    not_one (fields_of c.args.text.now) c.in-Some.field-0.now c.split_field-only.result.field.now a one is
