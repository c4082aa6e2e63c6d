use Rattle.srt_config.proofs.Placed.{places_the_fault, places_the_defaults}
use Rattle.srt_config.proofs.laws.places.Goals as goal

pub returns-clause-routes : goal.returns-clause-routes
returns-clause-routes c = places_the_fault

pub returns-clause-defaults : goal.returns-clause-defaults
returns-clause-defaults c = places_the_defaults
