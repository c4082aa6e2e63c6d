use Rattle.std.proofs.Common.{◌∙◌}
use Rattle.srt_log.proofs.Callers.{due_seen}
use Rattle.srt_log.proofs.repeats.due_in.Goals as goal

pub returns : goal.returns
returns c = c.first_due.ensures ∙ due_seen c.args.callers.now c.args.moment
