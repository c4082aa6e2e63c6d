use Rattle.std.proofs.Common.{◌∙◌, Bool, sym, ap, subst}
use Rattle.srt_route.specs.Parts.{role_of}
use Rattle.srt_route.specs.Seats.{session_passes}
use Rattle.srt_route.specs.Sessions.{publishes}
use Rattle.srt_route.specs.inside.Files.{HasWhole}
use Rattle.srt_route.proofs.stored.Parts.{saw_reads}
use Rattle.srt_route.proofs.steps.Noted.{acknowledged_whole}
use Rattle.srt_route.proofs.seat.Seat.has_whole_file.Goals as goal

pub returns-else-not-saw_end-clause-whole : goal.returns-else-not-saw_end-clause-whole
returns-else-not-saw_end-clause-whole c =
    subst (λ (b : Bool). HasWhole b c.args.self.now c.is_all_acknowledged.result) (sym c.if-not-over.false)
    (acknowledged_whole c.args.self.now c.in-Some.session c.is_all_acknowledged.result c.in-Some.is
    (sym c.saw_end.ensures ∙ c.if-not-saw_end.false) c.is_all_acknowledged.ensures)

pub returns-else-not-saw_end-clause-reads : goal.returns-else-not-saw_end-clause-reads
returns-else-not-saw_end-clause-reads c whole =
    ap (session_passes (λ t. publishes (role_of t.part))) c.in-Some.is
    ∙ saw_reads c.in-Some.session.part (sym c.saw_end.ensures ∙ c.if-not-saw_end.false)
