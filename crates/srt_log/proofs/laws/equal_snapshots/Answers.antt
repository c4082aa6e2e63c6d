use Rattle.srt_log.proofs.Equal.{nothing_between}
use Rattle.srt_log.proofs.laws.equal_snapshots.Goals as goal

pub returns : goal.returns
returns c = nothing_between
