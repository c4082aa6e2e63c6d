use Rattle.std.proofs.Common.{◌≡◌, ℕ, List, Bool, true, ◌+◌, ◌-◌, ◌*◌, ◌/◌, ◌%◌, ◌<◌, ◌≤◌, ◌⊎◌, [], ◌∷◌, ◌++◌, suc, refl, sym, ap, ◌∙◌, subst, inl}
use Rattle.std.proofs.Common.{inr, arith, rules, slice_index, length, take, map}
use Rattle.srt_aes.specs.Aes.{turned_word, sub_word}
use Rattle.srt_aes.proofs.schedule.turn_word.Goals as goal

pub returns : goal.returns
returns c = rw (c.substitute_word-word.ensures, c.round_constant.ensures) refl
