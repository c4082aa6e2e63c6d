use Rattle.std.proofs.Common.{◌≡◌, ℕ, List, refl, arith, rules}
use Rattle.srt_aes.specs.inside.Planes.{joined, turned_word}
use Rattle.srt_aes.proofs.rounds.turned.Goals as goal

pub returns : goal.returns
unfolding turned_word
returns c a b held = rw held refl
