use Rattle.srt_replay.specs.Tape.{fields_of}
use Rattle.srt_replay.proofs.Splits.{not_four}
use Rattle.srt_replay.proofs.events.four_fields.Goals as goal

pub returns-in-Some-clause-fields : goal.returns-in-Some-clause-fields
returns-in-Some-clause-fields c = λ a b d e is.
    let one = rw c.in_ok-first.was at c.split_field-first.ensures.fields in
    let two = rw c.in_ok-second.was at c.split_field-second.ensures.fields in
    let three = rw c.in_ok-third.was at c.split_field-third.ensures.fields in
    let four = rw c.in-Some.is at c.split_field-fourth.ensures.fields in
    not_four (fields_of c.args.text.now) c.in-Some.field-0.now
    c.split_field-first.result.field.now c.split_field-second.result.field.now c.split_field-third.result.field.now c.split_field-fourth.result.field.now
    a b d e (cc (one, two, three, four)) is
