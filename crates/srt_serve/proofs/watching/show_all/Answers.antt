use Rattle.std.proofs.Common.{◌∙◌, ◌+◌, ℕ, Bool, refl, ap, subst, length, arith}
use Rattle.std.proofs.lemmas.Option.{slice_get_read}
use Rattle.srt_serve.specs.inside.Looking.{IsShown, IsQuiet}
use Rattle.srt_serve.proofs.Looks.{fits_next, both_quiet, one_busy}
use Rattle.srt_serve.proofs.watching.show_all.Goals as goal

pub loop-cell-preserved : goal.loop-cell-preserved
loop-cell-preserved g c =
    let before = c.loop-cell.invariant in
    let shown : IsShown g.C.Serve.holds g.C.Serve.shows_none g.T.Watch.shown c.args.viewer.now.looks c.loop-cell.cell-index c.cell-item.result =
    subst (λ (looks : Bool). IsShown g.C.Serve.holds g.C.Serve.shows_none g.T.Watch.shown looks c.loop-cell.cell-index c.cell-item.result) before.looks
    (subst (λ (n : ℕ). IsShown g.C.Serve.holds g.C.Serve.shows_none g.T.Watch.shown c.loop-cell.viewer.looks n c.cell-item.result) before.index
    c.show_one-all_quiet.ensures.shown) in
    record {
      index = ap (λ (n : ℕ). n + 1) before.index;
      looks = c.show_one-all_quiet.ensures.same.1 ∙ before.looks;
      shown =
          fits_next (λ n cell. IsShown g.C.Serve.holds g.C.Serve.shows_none g.T.Watch.shown c.args.viewer.now.looks n cell) c.args.cells.now
          c.loop-cell.cell-index c.cell-item.result c.cell-item.is shown before.shown;
      quiet =
          both_quiet c.loop-cell.all_quiet c.show_one-all_quiet.result _ _ _ before.quiet c.show_one-all_quiet.ensures.quiet (λ all this.
          fits_next (λ n cell. IsQuiet g.C.Serve.holds cell) c.args.cells.now c.loop-cell.cell-index c.cell-item.result c.cell-item.is this all);
      busy =
          one_busy c.loop-cell.all_quiet c.show_one-all_quiet.result _ _ before.busy c.show_one-all_quiet.ensures.busy (λ busy. (
            c.loop-cell.cell-index,
            c.cell-item.result,
            slice_get_read c.args.cells.now (length c.args.cells.now) c.loop-cell.cell-index c.cell-item.result refl c.loop-cell-test.true c.cell-item.is,
            busy,
          ));
    }

pub returns-clause-quiet : goal.returns-clause-quiet
returns-clause-quiet g c all i below = c.loop-cell.invariant.quiet all i (omega (arith, below, c.loop-cell-test.false))
