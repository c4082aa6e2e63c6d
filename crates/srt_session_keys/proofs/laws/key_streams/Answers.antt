use Rattle.std.proofs.Common.{◌≡◌, List, [], ◌∷◌, length, refl, arith}
use Rattle.srt_session_keys.specs.Source.{Opening, pool_after}
use Rattle.srt_session_keys.proofs.laws.key_streams.Goals as goal

counted : (openings : List Opening) → (pool_after openings).count ≡ length openings
counted [] = refl
counted (opening ∷ openings) = let before = counted openings in omega (arith, before)

pub returns : goal.returns
returns c = record { counts = counted; numbers = λ first one other same key. omega (arith, same, key) }
