use Rattle.std.proofs.Common.{◌-ℤ◌, ◌/◌, ap, ◌∙◌, rules, w64, SFits}
use Rattle.std.proofs.lemmas.Int.{to_z-of_z}
use Rattle.srt_timing.specs.Clock.{limited, parts}
use Rattle.srt_timing.proofs.drift_windows.change_by.Goals as goal

pub returns-clause-value : goal.returns-clause-value
returns-clause-value c =
    let late : SFits w64 c.args.late = c.ranges.late in
    let reference : SFits w64 c.args.reference = c.ranges.reference in
    let difference : SFits w64 (c.args.late -ℤ c.args.reference) = search rules in
    let change : SFits w64 c.beyond_slack.result = search rules in
    let out : SFits w64 c.limited.result = search rules in
    let e = simp to_z-of_z at c.beyond_slack.ensures in
    let l = simp to_z-of_z at c.limited.ensures.value in
    to_z-of_z w64 c.limited.result out ∙ l ∙ ap (limited (c.args.elapsed / parts)) e
