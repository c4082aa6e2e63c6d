use Rattle.srt_types.proofs.Lifts.{lift_is, lift_moves, times_from_first}
use Rattle.srt_types.proofs.laws.lifts.Goals as goal

pub returns : goal.returns
returns c = record { time = lift_is; moves = lift_moves; from_first = times_from_first }
