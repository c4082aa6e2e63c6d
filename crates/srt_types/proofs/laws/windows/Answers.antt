use Rattle.srt_types.proofs.Windows.{in_window_is, numbers_from_initial}
use Rattle.srt_types.proofs.laws.windows.Goals as goal

pub returns : goal.returns
returns c = record { number = in_window_is; from_initial = numbers_from_initial }
