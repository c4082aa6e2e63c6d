use Rattle.srt_route.proofs.renumbering.Renumbered.{renumbers, restamps, moves}
use Rattle.srt_route.proofs.laws.renumbering.Goals as goal

pub returns : goal.returns
returns c = record { numbers = renumbers; stamps = restamps; moments = moves }
