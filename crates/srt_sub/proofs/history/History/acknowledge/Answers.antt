use Rattle.srt_sub.specs.Subscribing.{grown}
use Rattle.std.proofs.Common.{◌++◌}
use Rattle.srt_sub.proofs.history.History.acknowledge.Goals as goal

pub returns : goal.returns
returns c initial agreed notes h = c.hear.ensures initial agreed (grown c.args.time c.args.grows ++ notes) (c.grow.ensures initial agreed notes h)
