-- The clock that a value of the code represents.
use Rattle.srt_timing.specs.declared.drift_windows.Clock.{Clock}
use Rattle.srt_timing.specs.declared.session_drift.Drift.{Drift}

abbrev pub clock_of : Drift → Clock
clock_of d = d.clock
