use Rattle.srt_timing.proofs.Moments.{deadline_is, deadlines_from_opening, due_times_uncorrected, due_times_are_near}
use Rattle.srt_timing.proofs.laws.deadlines.Goals as goal

pub returns : goal.returns
returns c =
    record { moment = deadline_is; from_opening = deadlines_from_opening; uncorrected = due_times_uncorrected; near = due_times_are_near }
