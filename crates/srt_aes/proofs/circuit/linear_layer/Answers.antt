use Rattle.std.proofs.Common.{◌≡◌, ℕ, List, refl}
use Rattle.srt_aes.specs.inside.Planes.{joined}
use Rattle.srt_aes.specs.inside.Circuit.{on_words, linear_layer}
use Rattle.srt_aes.proofs.circuit.linear_layer.Goals as goal

pub returns : goal.returns
unfolding linear_layer
returns c a b held = rw held refl
