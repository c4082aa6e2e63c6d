use Rattle.srt_route.proofs.model.Places.{replies_have_places}
use Rattle.srt_route.proofs.laws.replies_have_places.Goals as goal

pub returns : goal.returns
returns c = replies_have_places
