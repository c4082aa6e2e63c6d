use Rattle.std.proofs.Common.{◌≡◌, ℕ, List, Bool, true, ◌+◌, ◌-◌, ◌*◌, ◌/◌, ◌%◌, ◌<◌, ◌≤◌, ◌⊎◌, [], ◌∷◌, ◌++◌, suc, refl, sym, ap, ◌∙◌, subst, inl}
use Rattle.std.proofs.Common.{inr, arith, rules, slice_index, length, take, map}
use Rattle.srt_aes.specs.Aes.{inv_sub_byte, inv_sub_table}
use Rattle.srt_aes.proofs.inverse.inverse_byte.Goals as goal

pub returns : goal.returns
unfolding inv_sub_byte inv_sub_table
returns c = refl
