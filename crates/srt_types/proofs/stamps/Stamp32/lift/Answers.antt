use Rattle.std.proofs.Common.{arith, pos, negsuc}
use Rattle.std.proofs.lemmas.Int.{ints, to_z-of_z}
use Rattle.srt_types.proofs.Lifts.{lifted, lift_from}
use Rattle.srt_types.proofs.stamps.Stamp32.lift.Goals as goal

pub returns-then-ahead : goal.returns-then-ahead
returns-then-ahead c =
    let fits = c.ranges.elapsed in
    let value = rw to_z-of_z at c.rem_euclid-inside.ensures.value in
    let near = lifted c.args.self.word c.args.elapsed c.rem_euclid-inside.result (negsuc 0) _ value
    (omega (arith, ints)) (omega (arith, ints)) (omega (arith, ints)) in
    record { nearest = near; value = lift_from _ _ _ near }

pub returns-then-ahead-2 : goal.returns-then-ahead-2
returns-then-ahead-2 c =
    let fits = c.ranges.elapsed in
    let value = rw to_z-of_z at c.rem_euclid-inside.ensures.value in
    let near = lifted c.args.self.word c.args.elapsed c.rem_euclid-inside.result (pos 1) _ value (omega (arith, ints))
    (omega (arith, ints)) (omega (arith, ints)) in
    record { nearest = near; value = lift_from _ _ _ near }

pub returns-else-ahead-2 : goal.returns-else-ahead-2
returns-else-ahead-2 c =
    let fits = c.ranges.elapsed in
    let value = rw to_z-of_z at c.rem_euclid-inside.ensures.value in
    let near = lifted c.args.self.word c.args.elapsed c.rem_euclid-inside.result (pos 0) _ value (omega (arith, ints))
    (omega (arith, ints)) (omega (arith, ints)) in
    record { nearest = near; value = lift_from _ _ _ near }
