use Rattle.std.proofs.Common.{◌+◌, arith}
use Rattle.srt_types.specs.Window.{word_of}
use Rattle.srt_recvbuf.proofs.Buffers.{offset_found, offset_not_found, begins_inside, stands_outside}
use Rattle.srt_recvbuf.proofs.buffer.overlap.Goals as goal

pub returns-in-Some-offset_in-clause-places : goal.returns-in-Some-offset_in-clause-places
returns-in-Some-offset_in-clause-places c d lt =
    let front = c.args.front in
    let first = c.args.first in
    let out = offset_not_found (word_of front) (word_of first) (c.args.span + 1) front.small
    (c.in_default.ensures.value (word_of first) (omega (arith, first.small))) in
    let o = offset_found (word_of first) (word_of front) c.args.width c.in-Some-offset_in.from
    (c.in-Some-offset_in.ensures.value (word_of front) (omega (arith, front.small))) in
    begins_inside (word_of front) (word_of first) c.args.span c.args.width c.in-Some-offset_in.from c.min-in-Some-offset_in.result d
    front.small first.small c.requires.short c.requires.narrow out o.0 o.1 c.min-in-Some-offset_in.ensures lt

pub returns-in_default-offset_in-clause-places : goal.returns-in_default-offset_in-clause-places
returns-in_default-offset_in-clause-places c d lt =
    let front = c.args.front in
    let first = c.args.first in
    let out = offset_not_found (word_of front) (word_of first) (c.args.span + 1) front.small
    (c.in_default.ensures.value (word_of first) (omega (arith, first.small))) in
    let far = offset_not_found (word_of first) (word_of front) c.args.width first.small
    (c.in_default-offset_in.ensures.value (word_of front) (omega (arith, front.small))) in
    stands_outside (word_of front) (word_of first) c.args.span c.args.width d front.small first.small c.requires.short c.requires.narrow out far lt
