use Rattle.std.proofs.Common.{◌≡◌, ℕ, List, refl}
use Rattle.srt_aes.specs.Aes.{inv_mixed, inv_mix_columns}
use Rattle.srt_aes.proofs.inverse.unmix.Goals as goal

pub returns : goal.returns
unfolding inv_mix_columns
returns c =
    rw (c.unmix_column-a.ensures, c.unmix_column-b.ensures, c.unmix_column-c.ensures, c.unmix_column-d.ensures) refl
