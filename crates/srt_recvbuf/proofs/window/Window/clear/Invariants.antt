use Rattle.std.proofs.Common.{◌≡◌, ℕ, ◌<◌, length, get_or}
use Rattle.srt_recvbuf.specs.declared.window.NumberState.TheVariants.{Missing}
use Rattle.srt_recvbuf.proofs.window.Window.clear.Given as goal

abbrev pub invariant-loop-at : goal.invariant-loop-at
invariant-loop-at l = (length l.self.places.items ≡ length l.fn.self.places.items) × ((k : ℕ) → k < l.at → get_or l.self.places.items k Missing ≡ Missing)
