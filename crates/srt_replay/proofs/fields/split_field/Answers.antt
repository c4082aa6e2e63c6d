use Rattle.std.proofs.Common.{sym, ap, ◌∙◌}
use Rattle.srt_replay.proofs.Splits.{fields_by, fields_parted}
use Rattle.srt_replay.proofs.fields.split_field.Goals as goal

pub returns-in-Some-clause-fields : goal.returns-in-Some-clause-fields
returns-in-Some-clause-fields c = fields_parted c.args.text.now ∙ ap (fields_by c.args.text.now) (sym c.in-Some.ensures.parts)

pub returns-in-None-clause-fields : goal.returns-in-None-clause-fields
returns-in-None-clause-fields c = fields_parted c.args.text.now ∙ ap (fields_by c.args.text.now) (sym c.in-None.ensures.parts)
