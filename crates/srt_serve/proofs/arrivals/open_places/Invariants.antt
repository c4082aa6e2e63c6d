use Rattle.std.proofs.Common.{◌≡◌, length}
use Rattle.srt_serve.proofs.arrivals.open_places.Given as goal

abbrev pub invariant-loop-at : goal.invariant-loop-at
invariant-loop-at g l = length l.opened.items ≡ l.at
