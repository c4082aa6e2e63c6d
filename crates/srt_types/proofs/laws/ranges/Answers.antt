use Rattle.srt_types.proofs.Ranges.{ranges_from_initial}
use Rattle.srt_types.proofs.laws.ranges.Goals as goal

pub returns : goal.returns
returns c = record { from_initial = ranges_from_initial }
