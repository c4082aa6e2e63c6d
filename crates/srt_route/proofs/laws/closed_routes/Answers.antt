use Rattle.srt_route.proofs.model.Closed.{closes_once, has_no_session, is_quiet}
use Rattle.srt_route.proofs.laws.closed_routes.Goals as goal

pub returns : goal.returns
returns c = record { closes = closes_once; ended = has_no_session; quiet = is_quiet }
