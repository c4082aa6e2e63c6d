use Rattle.std.proofs.Common.{ℕ, Option, ◌∙◌, unwrap_or, ap}
use Rattle.srt_route.proofs.delivery.room_of_all.Goals as goal

pub returns-in-Buffer : goal.returns-in-Buffer
returns-in-Buffer c e index clock ss body buffer = c.unwrap_or.ensures ∙ ap (λ (o : Option ℕ). unwrap_or o 0) (c.least_room.ensures e index clock ss body)
