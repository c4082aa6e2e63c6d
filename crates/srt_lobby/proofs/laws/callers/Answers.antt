use Rattle.srt_lobby.proofs.Callers.{route_is_for_callers}
use Rattle.srt_lobby.proofs.laws.callers.Goals as goal

pub returns : goal.returns
returns c = route_is_for_callers
