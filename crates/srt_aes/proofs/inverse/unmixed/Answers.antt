use Rattle.std.proofs.Common.{◌≡◌, ℕ, List, Bool, true, ◌+◌, ◌-◌, ◌*◌, ◌/◌, ◌%◌, ◌<◌, ◌≤◌, ◌⊎◌, [], ◌∷◌, ◌++◌, suc, refl, sym, ap, ◌∙◌, subst, inl}
use Rattle.std.proofs.Common.{inr, arith, rules, slice_index, length, take, map}
use Rattle.srt_aes.specs.Aes.{inv_mixed}
use Rattle.srt_aes.proofs.inverse.unmixed.Goals as goal

pub returns : goal.returns
unfolding inv_mixed
returns c = rw (c.times_e.ensures, c.times_b.ensures, c.times_d.ensures, c.times_9.ensures) refl
