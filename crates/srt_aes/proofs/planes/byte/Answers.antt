use Rattle.std.proofs.Common.{◌≡◌, ℕ, List, ◌+◌, ◌*◌, ◌<◌, ◌⊎◌, suc, refl, sym, ap, ◌∙◌, subst, inl, inr, arith, rules, slice_index}
use Rattle.srt_aes.specs.inside.Planes.{byte_at, number, bits_at}
use Rattle.srt_aes.proofs.planes.byte.Goals as goal

pub returns : goal.returns
unfolding byte_at
returns c = omega arith
