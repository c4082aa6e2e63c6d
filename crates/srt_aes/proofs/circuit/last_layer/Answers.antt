use Rattle.std.proofs.Common.{◌≡◌, ℕ, List, refl}
use Rattle.srt_aes.specs.inside.Planes.{joined}
use Rattle.srt_aes.specs.inside.Circuit.{on_words, last_layer}
use Rattle.srt_aes.proofs.circuit.last_layer.Goals as goal

pub returns : goal.returns
unfolding last_layer
returns c a b held = rw held refl
