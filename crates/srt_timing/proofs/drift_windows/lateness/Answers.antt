use Rattle.std.proofs.Common.{◌≡◌, pos, arith, rules, w64, SFits, to_z}
use Rattle.std.proofs.lemmas.Int.{ints, to_z-of_z}
use Rattle.srt_timing.specs.Deadline.{corrected_time}
use Rattle.srt_timing.proofs.drift_windows.lateness.Goals as goal

pub returns-clause-value : goal.returns-clause-value
returns-clause-value c =
    let correction : SFits w64 c.args.correction = c.ranges.correction in
    let fits : SFits w64 (to_z w64 c.args.time) = search rules in
    let is : SFits w64 c.corrected_time.result = search rules in
    let time : to_z w64 c.args.time ≡ pos c.args.time = omega (arith, ints) in
    let value : c.corrected_time.result ≡ corrected_time c.args.correction (pos c.args.time) c.args.stamp.word
    = simp (to_z-of_z, time) at c.corrected_time.ensures.value in
    omega (arith, ints, value)
