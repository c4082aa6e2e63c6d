use Rattle.std.proofs.Common.{◌≡◌, ℕ, List, refl}
use Rattle.srt_aes.specs.inside.Planes.{joined}
use Rattle.srt_aes.specs.inside.Circuit.{on_words, inverse}
use Rattle.srt_aes.proofs.circuit.inverse.Goals as goal

pub returns : goal.returns
unfolding inverse
returns c a b held = rw held refl
