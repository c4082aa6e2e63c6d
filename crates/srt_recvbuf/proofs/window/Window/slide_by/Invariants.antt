use Rattle.std.proofs.Common.{◌≡◌, ℕ, ◌+◌}
use Rattle.srt_recvbuf.specs.Cells.{cell_at, width_of}
use Rattle.srt_recvbuf.proofs.window.Window.slide_by.Given as goal

abbrev pub invariant-loop : goal.invariant-loop
invariant-loop l = (width_of l.self ≡ width_of l.fn.self) × ((d : ℕ) → cell_at l.self d ≡ cell_at l.fn.self (d + l.counter))
