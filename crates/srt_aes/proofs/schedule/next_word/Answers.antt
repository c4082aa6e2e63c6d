use Rattle.std.proofs.Common.{◌≡◌, ℕ, List, ◌+◌, ◌-◌, ◌*◌, ◌/◌, ◌%◌, ◌<◌, ◌≤◌, ◌⊎◌, [], ◌∷◌, ◌++◌, suc, refl, sym, ap, ◌∙◌, subst, inl, inr, arith}
use Rattle.std.proofs.Common.{rules, slice_index, length, take, map}
use Rattle.srt_aes.specs.Aes.{temp_after, next_word}
use Rattle.srt_aes.proofs.schedule.next_word.Goals as goal

pub returns : goal.returns
unfolding next_word
returns c = rw (sym c.temp_after-temp.ensures) refl
