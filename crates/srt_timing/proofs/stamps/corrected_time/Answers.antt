use Rattle.std.proofs.Common.{◌^◌, ◌+ℤ◌, ℤ, pos, rules, w64, SFits, ◌∙◌, ap}
use Rattle.std.specs.Int.{int_rem_euclid}
use Rattle.std.proofs.lemmas.Int.{to_z-of_z}
use Rattle.srt_timing.proofs.Corrected.{corrected_near}
use Rattle.srt_timing.proofs.stamps.corrected_time.Goals as goal

pub returns-clause-value : goal.returns-clause-value
returns-clause-value c =
    let time = c.ranges.time in
    let correction = c.ranges.correction in
    let from : SFits w64 c.from.result = search rules in
    let sum : SFits w64 (c.from.result +ℤ c.args.correction) = search rules in
    let out : SFits w64 c.lift.result = search rules in
    let stamp = simp to_z-of_z at c.stamp_of.ensures in
    let lifted = simp to_z-of_z at c.lift.ensures.value in
    let k = corrected_near c.args.correction c.args.time c.args.stamp.word c.stamp_of.result.word
    (stamp ∙ ap (λ (x : ℤ). int_rem_euclid (x +ℤ c.args.correction) (pos (2 ^ 32))) c.from.ensures) in
    to_z-of_z w64 c.lift.result out ∙ lifted ∙ k
