use Rattle.srt_replay.specs.Tape.{fields_of}
use Rattle.srt_replay.proofs.Splits.{not_two}
use Rattle.srt_replay.proofs.events.two_fields.Goals as goal

pub returns-in-Some : goal.returns-in-Some
returns-in-Some c = λ a b is.
    let one = rw c.in_ok-first.was at c.split_field-first.ensures.fields in
    let two = rw c.in-Some.is at c.split_field-second.ensures.fields in
    not_two (fields_of c.args.text.now) c.in-Some.field-0.now c.split_field-first.result.field.now c.split_field-second.result.field.now a b (cc (one, two)) is
