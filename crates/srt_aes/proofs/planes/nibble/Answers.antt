use Rattle.std.proofs.Common.{◌≡◌, ℕ, List, ◌+◌, ◌*◌, ◌<◌, ◌⊎◌, suc, refl, sym, ap, ◌∙◌, subst, inl, inr, arith, rules, slice_index}
use Rattle.std.proofs.lemmas.Nat.Bits.{shr_and_one}
use Rattle.srt_aes.specs.inside.Planes.{nibble}
use Rattle.srt_aes.proofs.planes.nibble.Goals as goal

pub returns : goal.returns
unfolding nibble
returns c = rw (shr_and_one c.args.byte c.args.bit) refl
