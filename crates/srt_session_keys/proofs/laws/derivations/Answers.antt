use Rattle.srt_session_keys.proofs.Limited.{route_is_limited, group_is_limited}
use Rattle.srt_session_keys.proofs.Delayed.{delays_change_nothing}
use Rattle.srt_session_keys.proofs.laws.derivations.Goals as goal

pub returns : goal.returns
returns c = record { route = route_is_limited; group = group_is_limited; delayed = delays_change_nothing }
