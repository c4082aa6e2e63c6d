use Rattle.std.proofs.Common.{◌∙◌}
use Rattle.srt_log.proofs.Callers.{place_seen}
use Rattle.srt_log.proofs.repeats.place_of.Goals as goal

pub returns : goal.returns
returns c = c.first_with.ensures ∙ place_seen c.args.callers.now c.args.refusal
