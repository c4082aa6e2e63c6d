use Rattle.std.proofs.Common.{◌≡◌, ℕ, zero, suc, false, get_or, refl}
use Rattle.std.specs.Prelude.{◌/◌}
use Rattle.std.proofs.Math.ListN.{replicate}
use Rattle.srt_sendbuf.proofs.hints.Hints.new.Goals as goal

none_on : (n i : ℕ) → get_or (replicate n false) i false ≡ false
none_on zero i = refl
none_on (suc n) zero = refl
none_on (suc n) (suc i) = none_on n i

pub returns : goal.returns
returns c slot = none_on 128 (slot / 64)
