use Rattle.std.proofs.Common.{◌≡◌, pos, ◌-ℤ◌, ap, ◌∙◌, ℕ, arith, rules, w64, SFits, to_z}
use Rattle.std.proofs.lemmas.Int.{ints, to_z-of_z}
use Rattle.srt_timing.specs.Deadline.{corrected_time}
use Rattle.srt_timing.proofs.Moments.{due_from_opening}
use Rattle.srt_timing.proofs.deadlines.Base.deadline.Goals as goal

pub returns : goal.returns
returns c =
    let opening = c.args.self.opening in
    let first = c.args.self.first.word in
    let correction = c.args.correction in
    let elapsed = pos c.args.now -ℤ pos opening in
    let now_is : to_z w64 c.args.now ≡ pos c.args.now = omega (arith, ints) in
    let opening_is : to_z w64 opening ≡ pos opening = omega (arith, ints) in
    let correction_fits : SFits w64 correction = c.ranges.correction in
    let fits : SFits w64 elapsed = search rules in
    let value : c.corrected_time-since_opening.result ≡ corrected_time correction elapsed c.since_conclusion-since_first.result.word
    = simp (to_z-of_z, now_is, opening_is) at c.corrected_time-since_opening.ensures.value in
    let since_opening = value ∙ ap (λ (x : ℕ). corrected_time correction elapsed x) c.since_conclusion-since_first.ensures in
    let due = due_from_opening opening first correction c.args.stamp.word c.args.now c.args.delay _
    (omega (arith, ints, since_opening, c.from.ensures)) in
    record { moment = due.0; value = due.1; own = due.2 }
