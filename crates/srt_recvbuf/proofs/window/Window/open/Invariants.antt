use Rattle.std.proofs.Common.{◌≡◌, ℕ, ◌≤◌, length, get_or}
use Rattle.srt_recvbuf.specs.declared.window.NumberState.TheVariants.{Missing}
use Rattle.srt_recvbuf.proofs.window.Window.open.Given as goal

abbrev pub invariant-loop : goal.invariant-loop
invariant-loop l =
    (length l.places.items ≡ l.counter) × (l.places.capacity ≡ l.width) × (l.counter ≤ l.width)
    × ((k : ℕ) → get_or l.places.items k Missing ≡ Missing)
