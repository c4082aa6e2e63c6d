use Rattle.std.proofs.Common.{◌∙◌}
use Rattle.srt_log.proofs.Callers.{lapsed_seen}
use Rattle.srt_log.proofs.repeats.lapsed_in.Goals as goal

pub returns : goal.returns
returns c = c.first_lapsed.ensures ∙ lapsed_seen c.args.callers.now c.args.moment
