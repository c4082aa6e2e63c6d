use Rattle.std.proofs.Common.{◌≡◌, ℕ, List, refl, arith, rules}
use Rattle.srt_aes.specs.inside.Planes.{joined, mixed_by, sums, bent}
use Rattle.srt_aes.specs.inside.Turns.{bend_of}
use Rattle.srt_aes.proofs.rounds.mixed.Goals as goal

pub returns : goal.returns
returns c a b held =
    let to_next = bend_of c.args.to_next in
    let two_on = bend_of c.args.two_on in
    let na = bent to_next a in
    let nb = bent to_next b in
    let pa = sums a na in
    let pb = sums b nb in
    let next = c.turned-next.ensures a b held in
    let pairs = c.added-pairs.ensures a b na nb held next in
    c.mix_of.ensures na nb pa pb (bent two_on pa) (bent two_on pb) next pairs (c.turned-further.ensures pa pb pairs)
