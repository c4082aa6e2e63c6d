use Rattle.std.proofs.Common.{◌≡◌, ◌<◌, ◌%◌, ℕ, length}
use Rattle.srt_aes.specs.Aes.{round_key}
use Rattle.srt_aes.specs.inside.Planes.{HoldsKey, key_planes}
use Rattle.srt_aes.proofs.schedule.plane_keys.Given as goal

abbrev pub invariant-loop-round : goal.invariant-loop-round
invariant-loop-round l =
    (length l.keys ≡ 15) ×
    ((r : ℕ) → r < l.round → HoldsKey (key_planes l.keys r) (r % 4) (round_key l.words r))
