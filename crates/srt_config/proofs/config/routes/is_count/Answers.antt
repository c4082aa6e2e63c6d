use Rattle.std.proofs.Common.{ap, ◌∙◌}
use Rattle.srt_types.specs.Entries.{is_between}
use Rattle.srt_config.proofs.RouteItems.{counted}
use Rattle.srt_config.proofs.config.routes.is_count.Goals as goal

pub returns : goal.returns
returns c = (rw c.limits-limits.ensures.value at c.is_between.ensures) ∙ ap (is_between 1 511) (counted c.args.values.now)
