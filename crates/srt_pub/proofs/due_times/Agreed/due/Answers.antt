use Rattle.std.proofs.Common.{◌≡◌, ℕ, ◌-◌, ◌+ℤ◌, pos, ap, sym, ◌∙◌, arith, rules, w64, SFits}
use Rattle.std.proofs.lemmas.Int.{to_z-of_z}
use Rattle.srt_types.specs.Lift.{stamped_from}
use Rattle.srt_types.specs.declared.shared.Mode.{Mode}
use Rattle.srt_types.specs.declared.shared.Mode.TheVariants.{Live}
use Rattle.srt_timing.specs.Deadline.{due_time}
use Rattle.srt_pub.specs.Publishing.{due_in}
use Rattle.srt_pub.proofs.due_times.Agreed.due.Goals as goal

pub returns-in-Live : goal.returns-in-Live
returns-in-Live c terms time mode delay now =
    let a = c.args.self.now in
    let correction = c.args.correction in
    let fits : SFits w64 correction = c.ranges.correction in
    let out : SFits w64 c.deadline.result = search rules in
    let live : terms.mode ≡ Live = sym mode ∙ c.in-Live.is in
    let own = simp (to_z-of_z, c.new.ensures.opening, c.new.ensures.first, c.new-in-Live.ensures) at c.deadline.ensures.own in
    let stamp = stamped_from a.first.word c.args.stamp in
    let elapsed : c.args.now - a.opening ≡ time = omega (arith, now) in
    to_z-of_z w64 c.deadline.result out
    ∙ own (omega (arith, now))
    ∙ ap (λ (x : ℕ). pos a.opening +ℤ due_time x correction (c.args.now - a.opening) stamp) delay
    ∙ ap (λ (x : ℕ). pos a.opening +ℤ due_time terms.delay correction x stamp) elapsed
    ∙ sym (ap (λ (d : Mode). pos a.opening +ℤ due_in d terms correction time stamp) live)
