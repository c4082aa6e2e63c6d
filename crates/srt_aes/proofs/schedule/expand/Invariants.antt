use Rattle.std.proofs.Common.{◌≡◌, ◌<◌, ◌*◌, ◌-◌, ℕ, length, take}
use Rattle.srt_aes.specs.Aes.{expanded}
use Rattle.srt_aes.proofs.schedule.expand.Given as goal

abbrev pub invariant-loop-i : goal.invariant-loop-i
invariant-loop-i l = take (4 * l.i) l.words ≡ expanded l.key (l.i - l.nk)
