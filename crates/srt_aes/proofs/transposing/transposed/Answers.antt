use Rattle.std.proofs.Common.{◌≡◌, ℕ, List}
use Rattle.srt_aes.specs.inside.Planes.{joined}
use Rattle.srt_aes.specs.inside.Transposing.{swapped, transposed_words}
use Rattle.srt_aes.proofs.transposing.transposed.Goals as goal

pub returns : goal.returns
unfolding transposed_words
returns c a b held =
    let first = c.swapped_1.ensures a b held in
    let second = c.swapped_2.ensures _ _ first in
    c.swapped_4.ensures _ _ second
