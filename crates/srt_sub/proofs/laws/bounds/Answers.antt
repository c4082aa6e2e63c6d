use Rattle.srt_sub.proofs.Bounds.{stays_below_bounds}
use Rattle.srt_sub.proofs.laws.bounds.Goals as goal

pub returns : goal.returns
returns c = stays_below_bounds
