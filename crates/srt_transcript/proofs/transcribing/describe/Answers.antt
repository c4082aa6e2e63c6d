use Rattle.std.proofs.Common.{sym, ap, ◌∙◌, arith}
use Rattle.std.specs.Prelude.{is_some}
use Rattle.srt_transcript.proofs.Numbers.{too_many, event_is}
use Rattle.srt_transcript.proofs.transcribing.describe.Goals as goal

pub returns-then-number-gt-MAX_TAPE_LINES-clause-kind : goal.returns-then-number-gt-MAX_TAPE_LINES-clause-kind
returns-then-number-gt-MAX_TAPE_LINES-clause-kind c = sym (too_many c.args.number c.args.line.now (omega arith))

pub returns-in-Some-clause-kind : goal.returns-in-Some-clause-kind
returns-in-Some-clause-kind c =
    sym (event_is c.args.number c.args.line.now (omega arith) ∙ ap is_some (sym c.in-Some.ensures.value))

pub returns-in-None-clause-kind : goal.returns-in-None-clause-kind
returns-in-None-clause-kind c =
    sym (event_is c.args.number c.args.line.now (omega arith) ∙ ap is_some (sym c.in-None.ensures.value))
