use Rattle.srt_timing.proofs.Clocks.{corrections_are_slow, lateness_is_near, right_clocks_stand}
use Rattle.srt_timing.proofs.laws.drift.Goals as goal

pub returns : goal.returns
returns c = record { slow = corrections_are_slow; near = lateness_is_near; right = right_clocks_stand }
