use Rattle.std.proofs.Common.{◌≡◌, drop}
use Rattle.srt_status.specs.History.{round_trip_in}
use Rattle.srt_status.proofs.history.round_trip_in.Given as goal

abbrev pub invariant-loop-slot : goal.invariant-loop-slot
invariant-loop-slot l = round_trip_in l.sessions ≡ round_trip_in (drop l.slot-index l.sessions)
