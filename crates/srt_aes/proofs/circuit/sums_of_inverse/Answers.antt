use Rattle.std.proofs.Common.{◌≡◌, ℕ, List, refl}
use Rattle.srt_aes.specs.inside.Planes.{joined}
use Rattle.srt_aes.specs.inside.Circuit.{on_words, sums_of_inverse}
use Rattle.srt_aes.proofs.circuit.sums_of_inverse.Goals as goal

pub returns : goal.returns
unfolding sums_of_inverse
returns c a b held = rw held refl
