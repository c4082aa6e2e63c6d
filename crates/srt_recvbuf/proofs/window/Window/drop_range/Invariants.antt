use Rattle.std.proofs.Common.{◌≡◌, ℕ, if◌then◌else◌, ◌&&◌}
use Rattle.std.specs.Prelude.{nat_le, nat_lt}
use Rattle.srt_recvbuf.specs.Cells.{cell_at, width_of, after_drop}
use Rattle.srt_recvbuf.proofs.window.Window.drop_range.Given as goal

abbrev pub invariant-loop-at : goal.invariant-loop-at
invariant-loop-at l =
    (width_of l.self ≡ width_of l.fn.self) ×
    ((d : ℕ) → cell_at l.self d ≡ (if nat_le l.from d && nat_lt d l.at then after_drop (cell_at l.fn.self d) else cell_at l.fn.self d))
