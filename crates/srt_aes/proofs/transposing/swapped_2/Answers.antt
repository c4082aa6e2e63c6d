use Rattle.std.proofs.Common.{◌≡◌, ℕ, List, refl}
use Rattle.srt_aes.specs.inside.Planes.{joined}
use Rattle.srt_aes.specs.inside.Transposing.{swapped, word_after, first_after, second_after}
use Rattle.srt_aes.proofs.transposing.swapped_2.Goals as goal

pub returns : goal.returns
unfolding swapped word_after first_after second_after
returns c a b held = rw held refl
