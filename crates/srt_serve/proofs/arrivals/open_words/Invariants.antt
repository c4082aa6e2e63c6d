use Rattle.std.proofs.Common.{◌≡◌, length}
use Rattle.srt_serve.proofs.arrivals.open_words.Given as goal

abbrev pub invariant-loop : goal.invariant-loop
invariant-loop g l = length l.words.items ≡ l.counter
