use Rattle.srt_supervision.specs.Answers.{Closes, Opens}
use Rattle.srt_supervision.proofs.Given.{all_closings, all_openings}
use Rattle.srt_serve.proofs.tests.changing.ScriptWatch.change_routes.Goals as goal

pub change-requires-clause-closings : goal.change-requires-clause-closings
change-requires-clause-closings g c = all_closings g.C.ChangeRoutes.requires_of (λ r. c.requires (Closes r) tt) _

pub change-requires-clause-openings : goal.change-requires-clause-openings
change-requires-clause-openings g c = all_openings g.C.ChangeRoutes.requires_of (λ t. c.requires (Opens t) tt) _
