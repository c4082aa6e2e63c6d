use Rattle.std.proofs.Common.{◌≡◌, ℕ, List, Bool, true, ◌+◌, ◌-◌, ◌*◌, ◌/◌, ◌%◌, ◌<◌, ◌≤◌, ◌⊎◌, [], ◌∷◌, ◌++◌, suc, refl, sym, ap, ◌∙◌, subst, inl}
use Rattle.std.proofs.Common.{inr, arith, rules, slice_index, length, take, map}
use Rattle.srt_aes.specs.Aes.{times_9, xtime}
use Rattle.srt_aes.proofs.inverse.times_9.Goals as goal

pub returns : goal.returns
unfolding times_9
returns c = rw (c.twice-3.ensures, c.twice-2.ensures, c.twice.ensures) refl
