use Rattle.srt_lobby.proofs.Callers.{route_is_keyed}
use Rattle.srt_lobby.proofs.laws.keys.Goals as goal

pub returns : goal.returns
returns c = route_is_keyed
