use Rattle.std.proofs.Common.{◌≡◌, ℕ, List, refl, arith, rules}
use Rattle.srt_aes.specs.inside.Planes.{joined, sums}
use Rattle.srt_aes.proofs.rounds.add_key.Goals as goal

pub returns : goal.returns
unfolding sums
returns c a b held = rw held refl
