use Rattle.std.proofs.Common.{List, ℕ, map, sym, subst}
use Rattle.srt_types.specs.declared.shared.Entry.{Entry}
use Rattle.srt_types.specs.Terms.{terms_of}
use Rattle.srt_mailbox.specs.Identities.{identity_in}
use Rattle.srt_supervision.specs.Answers.{Closes, Opens, AreClosings, AreOpenings}
use Rattle.srt_serve.proofs.Looks.{opened_all, all_left, all_right}
use Rattle.srt_serve.proofs.watching.ChangerChangeRoutes.change.Goals as goal

pub open_all-requires : goal.open_all-requires
open_all-requires g c =
    subst (λ (es : List Entry). AreOpenings g.A.Answers.answered (map terms_of es)) (sym c.deref.ensures.value)
    (all_left (λ t. g.A.Answers.answered (Opens t)) (λ t. g.N.Answers.answered (Opens t)) _ c.requires.openings)

pub leave_notices-requires : goal.leave_notices-requires
leave_notices-requires g c =
    subst (λ (rs : List ℕ). AreClosings g.N.Answers.answered rs) (sym c.deref-2.ensures.value)
    (all_right (λ r. g.A.Answers.answered (Closes r)) (λ r. g.N.Answers.answered (Closes r)) _ c.requires.closings)

pub returns-clause-opened : goal.returns-clause-opened
returns-clause-opened g c =
    opened_all g.C.RouteHost.hosts g.C.RouteHost.has_route (λ s. identity_in s.cell) _ _ c.in-Ok.seats.items terms_of _ _ c.deref.ensures.value
    c.in-Ok.ensures.terms c.in-Ok.ensures.many c.in-Ok.ensures.indexes c.host_all-hosted.ensures.hosted
