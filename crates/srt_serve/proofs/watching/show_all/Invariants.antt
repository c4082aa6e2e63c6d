use Rattle.std.proofs.Common.{◌≡◌, true, false}
use Rattle.srt_serve.specs.inside.Looking.{IsShownAt, IsQuietAt, IsOneBusy}
use Rattle.srt_serve.specs.inside.UpTo.{UpTo}
use Rattle.srt_serve.proofs.watching.show_all.Given as goal

abbrev pub invariant-loop-cell : goal.invariant-loop-cell
invariant-loop-cell g l = record {
  index : l.index ≡ l.cell-index;
  looks : l.viewer.looks ≡ l.fn.viewer.looks;
  shown : UpTo (IsShownAt g.C.Serve.holds g.C.Serve.shows_none g.T.Watch.shown l.fn.viewer.looks l.cells) l.cell-index;
  quiet : l.all_quiet ≡ true → UpTo (IsQuietAt g.C.Serve.holds l.cells) l.cell-index;
  busy : l.all_quiet ≡ false → IsOneBusy g.C.Serve.holds g.C.Serve.shows_none l.cells;
}
