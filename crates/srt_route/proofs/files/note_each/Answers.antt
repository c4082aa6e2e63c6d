use Rattle.std.proofs.Common.{Some, refl, arith}
use Rattle.srt_route.specs.Sessions.{with_end}
use Rattle.srt_route.proofs.model.FileEnds.{end_marks, keeps_end}
use Rattle.srt_route.proofs.steps.Noted.{IsNoted, noted_becomes}
use Rattle.srt_route.proofs.stored.Kept.{none_done, one_done, all_done}
use Rattle.srt_route.proofs.files.note_each.Goals as goal

pub loop-at-init : goal.loop-at-init
loop-at-init c = none_done (IsNoted c.args.by_shutdown) c.args.table.now

pub loop-at-preserved : goal.loop-at-preserved
loop-at-preserved c =
    one_done (IsNoted c.args.by_shutdown) c.loop-at.at c.args.table.now c.loop-at.table _ c.index_mut.result.now c.note_end.new.self
    c.loop-at.invariant (omega (arith, c.loop-at-test.true, c.len-at-end.ensures)) c.index_mut.ensures.value c.note_end.ensures
    (refl, refl, refl, refl, refl, refl) refl refl

pub returns : goal.returns
returns c clock e index ss body =
    all_done (IsNoted c.args.by_shutdown) (with_end (Some c.args.by_shutdown)) (keeps_end (Some c.args.by_shutdown)) (end_marks (Some c.args.by_shutdown))
    e index clock clock c.loop-at.at c.args.table.now c.loop-at.table ss body body.early c.loop-at.invariant
    (omega (arith, c.loop-at-test.false, c.len-at-end.ensures))
    (λ k p x y is h. noted_becomes e index clock k c.args.by_shutdown p x y ss is h)
