use Rattle.std.proofs.Common.{◌∙◌}
use Rattle.srt_status.proofs.Requested.{requested_for}
use Rattle.srt_status.proofs.request.request_in.Goals as goal

pub returns-in-Ok-Complete-clause-other : goal.returns-in-Ok-Complete-clause-other
returns-in-Ok-Complete-clause-other c =
    let whole = rw c.in-Ok-Complete.field-0-is at c.in-Ok-Complete.ensures.complete in
    requested_for _ _ _ _ _ whole.0 c.request_of.ensures whole.1.reads (c.of.ensures ∙ whole.1.method) (c.of-in-Ok-Complete.ensures ∙ whole.1.path)
