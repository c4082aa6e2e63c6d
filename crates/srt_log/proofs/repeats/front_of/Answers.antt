use Rattle.std.proofs.Common.{◌≡◌, ◌≤◌, length, take, sym, arith}
use Rattle.std.proofs.lemmas.List.{length-take-le}
use Rattle.srt_log.proofs.repeats.front_of.Goals as goal

pub slice_bounds-result-end : goal.slice_bounds-result-end
slice_bounds-result-end c =
    let longer : 64 ≤ length c.args.name.now = omega (arith, c.if-name-le-MAX_FRONT.false) in
    sym (length-take-le 64 c.args.name.now longer)

pub returns-clause-most : goal.returns-clause-most
returns-clause-most c =
    let longer : 64 ≤ length c.args.name.now = omega (arith, c.if-name-le-MAX_FRONT.false) in
    let is : length (take 64 c.args.name.now) ≡ 64 = length-take-le 64 c.args.name.now longer in
    omega (arith, is)
