use Rattle.std.proofs.Common.{◌≡◌}
use Rattle.srt_aes.specs.inside.Planes.{spread_words}
use Rattle.srt_aes.proofs.planes.spread.Given as goal

abbrev pub invariant-loop-index : goal.invariant-loop-index
invariant-loop-index l = l.planes ≡ spread_words l.turn l.bytes l.index
