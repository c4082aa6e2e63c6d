use Rattle.std.proofs.Common.{◌≡◌, ℕ, List, Bool, true, ◌+◌, ◌-◌, ◌*◌, ◌/◌, ◌%◌, ◌<◌, ◌≤◌, ◌⊎◌, [], ◌∷◌, ◌++◌, suc, refl, sym, ap, ◌∙◌, subst, inl}
use Rattle.std.proofs.Common.{inr, arith, rules, slice_index, length, take, map}
use Rattle.std.specs.Prelude.{◌==◌}
use Rattle.std.proofs.lemmas.Bool.{eqb-true}
use Rattle.srt_aes.specs.Aes.{rcon, xtime}
use Rattle.srt_aes.proofs.AllBelow.{all_to, all_to-at}
use Rattle.srt_aes.proofs.schedule.round_constant.Goals as goal

is_constant : ℕ → Bool
is_constant round =
    slice_index (0x8d ∷ 0x01 ∷ 0x02 ∷ 0x04 ∷ 0x08 ∷ 0x10 ∷ 0x20 ∷ 0x40 ∷ 0x80 ∷ 0x1b ∷ 0x36 ∷ []) round == rcon round

all_constants : all_to is_constant 11 ≡ true
unfolding is_constant rcon xtime
all_constants = refl

pub returns : goal.returns
unfolding is_constant
returns c = eqb-true _ _ (all_to-at is_constant 11 all_constants c.args.round c.requires)
