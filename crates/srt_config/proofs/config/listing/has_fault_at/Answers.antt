use Rattle.std.proofs.Common.{◌∙◌}
use Rattle.srt_config.proofs.Listed.{any_fault}
use Rattle.srt_config.proofs.config.listing.has_fault_at.Goals as goal

pub returns : goal.returns
returns c = c.any_at.ensures ∙ any_fault c.args.faults.now c.args.key.now
