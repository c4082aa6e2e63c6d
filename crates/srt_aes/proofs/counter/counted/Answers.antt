use Rattle.std.proofs.Common.{◌≡◌, ℕ, List, refl, sym}
use Rattle.srt_aes.specs.inside.Planes.{sums, nibble, counter_planes}
use Rattle.srt_aes.proofs.counter.counted.Goals as goal

pub returns : goal.returns
unfolding sums counter_planes
returns c =
    rw (
      sym c.nibble.ensures,
      sym c.nibble-2.ensures,
      sym c.nibble-3.ensures,
      sym c.nibble-4.ensures,
      sym c.nibble-5.ensures,
      sym c.nibble-6.ensures,
    ) refl
