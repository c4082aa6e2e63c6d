use Rattle.std.proofs.Common.{Option, Bool, map, sym, subst}
use Rattle.srt_route.specs.Sessions.{with_end}
use Rattle.srt_route.specs.Tables.{IsTable}
use Rattle.srt_route.proofs.steps.Noted.{none_kept}
use Rattle.srt_route.proofs.files.note_end.Goals as goal

pub returns-in-Some : goal.returns-in-Some
returns-in-Some c clock e index sessions body =
    subst (λ (o : Option Bool). IsTable e index clock c.note_each.new.table (map (with_end o) sessions)) (sym c.in-Some.is)
    (c.note_each.ensures clock e index sessions body)

pub returns-in-None : goal.returns-in-None
returns-in-None c clock e index sessions body =
    subst (λ (o : Option Bool). IsTable e index clock c.args.table.now (map (with_end o) sessions)) (sym c.in-None.is)
    (none_kept e index clock c.args.table.now sessions body)
