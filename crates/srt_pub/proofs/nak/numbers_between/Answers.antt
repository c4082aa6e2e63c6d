use Rattle.std.proofs.Common.{◌+◌, arith}
use Rattle.srt_types.specs.Window.{word_of, offset_of}
use Rattle.srt_pub.proofs.nak.numbers_between.Goals as goal

pub returns : goal.returns
returns c =
    let first = word_of c.args.first in
    let last = word_of c.args.last in
    let s = c.steps.ensures first (first + offset_of last first) (omega arith) (omega arith) (omega (arith, c.args.first.small))
    (omega (arith, c.args.last.small)) in
    omega (arith, s)
