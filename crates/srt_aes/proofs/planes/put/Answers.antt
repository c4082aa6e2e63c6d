use Rattle.std.proofs.Common.{◌≡◌, ℕ, List, ◌+◌, ◌*◌, ◌<◌, ◌⊎◌, suc, refl, sym, ap, ◌∙◌, subst, inl, inr, arith, rules, slice_index}
use Rattle.srt_aes.specs.inside.Planes.{sums, nibble}
use Rattle.srt_aes.proofs.planes.put.Goals as goal

pub returns : goal.returns
unfolding sums
returns c =
    rw (
      sym c.nibble.ensures,
      sym c.nibble-2.ensures,
      sym c.nibble-3.ensures,
      sym c.nibble-4.ensures,
      sym c.nibble-5.ensures,
      sym c.nibble-6.ensures,
      sym c.nibble-7.ensures,
      sym c.nibble-8.ensures,
    ) refl
