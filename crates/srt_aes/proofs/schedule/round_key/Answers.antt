use Rattle.std.proofs.Common.{◌≡◌, ℕ, List, ◌+◌, ◌-◌, ◌*◌, ◌/◌, ◌%◌, ◌<◌, ◌≤◌, ◌⊎◌, [], ◌∷◌, ◌++◌, suc, refl, sym, ap, ◌∙◌, subst, inl, inr, arith}
use Rattle.std.proofs.Common.{rules, slice_index, length, take, map}
use Rattle.srt_aes.specs.Aes.{round_key}
use Rattle.std.proofs.Common.{add-zero}
use Rattle.srt_aes.proofs.schedule.round_key.Goals as goal

pub returns : goal.returns
unfolding round_key
returns c = rw (add-zero (16 * c.args.round)) refl
