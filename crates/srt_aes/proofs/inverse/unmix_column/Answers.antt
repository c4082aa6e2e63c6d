use Rattle.std.proofs.Common.{◌≡◌, ℕ, List, refl}
use Rattle.srt_aes.specs.Aes.{inv_mixed, inv_mix_columns}
use Rattle.srt_aes.proofs.inverse.unmix_column.Goals as goal

pub returns : goal.returns
returns c = rw (c.unmixed.ensures, c.unmixed-2.ensures, c.unmixed-3.ensures, c.unmixed-4.ensures) refl
