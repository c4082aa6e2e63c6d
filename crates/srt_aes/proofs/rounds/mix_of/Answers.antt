use Rattle.std.proofs.Common.{◌≡◌, ℕ, List, refl, arith, rules}
use Rattle.srt_aes.specs.inside.Planes.{joined, mix_sums}
use Rattle.srt_aes.proofs.rounds.mix_of.Goals as goal

pub returns : goal.returns
unfolding mix_sums
returns c b0 b1 c0 c1 d0 d1 hb hc hd = rw (hb, hc, hd) refl
