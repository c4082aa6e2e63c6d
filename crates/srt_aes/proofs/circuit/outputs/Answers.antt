use Rattle.std.proofs.Common.{◌≡◌, ℕ, List, refl}
use Rattle.srt_aes.specs.inside.Planes.{joined}
use Rattle.srt_aes.specs.inside.Circuit.{on_words, outputs}
use Rattle.srt_aes.proofs.circuit.outputs.Goals as goal

pub returns : goal.returns
unfolding outputs
returns c a b s t held halves = rw (held, halves) refl
