use Rattle.std.proofs.Common.{◌≡◌, ℕ, ◌<◌, ◌≤◌, false}
use Rattle.srt_recvbuf.specs.Cells.{cell_at, is_sought}
use Rattle.srt_recvbuf.proofs.window.Window.find.Given as goal

abbrev pub invariant-loop-at : goal.invariant-loop-at
invariant-loop-at l = (d : ℕ) → l.from ≤ d → d < l.at → is_sought l.seek (cell_at l.self d) ≡ false
