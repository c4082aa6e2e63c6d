-- How far a sender's clock can change due times.
use Rattle.std.proofs.Common.{◌≡◌, Bool, true, false, List, pos, ap, refl, ◌∙◌, arith}
use Rattle.std.proofs.lemmas.Int.{ints}
use Rattle.srt_types.specs.declared.shared.Mode.{Mode}
use Rattle.srt_types.specs.declared.shared.Mode.TheVariants.{Live, Buffer}
use Rattle.srt_types.specs.declared.shared.Callers.{Callers}
use Rattle.srt_types.specs.declared.shared.Callers.TheVariants.{Draft}
use Rattle.srt_timing.specs.Clock.{Sample, AreInOrder, IsSlow, last_time}
use Rattle.srt_timing.proofs.Moments.{due_times_are_near}
use Rattle.srt_timing.proofs.Clocks.{corrections_are_slow}
use Rattle.srt_pub.specs.Publishing.{follows, clock_samples, clock_if, correction_in, correction_of}
use Rattle.srt_pub.specs.Laws.{OthersAreUncorrected, SessionsAreSlow, PacketsAreDueNear}

of_the_draft : (mode : Mode) (samples : List Sample) → correction_in (clock_if (follows mode Draft) samples) ≡ pos 0
of_the_draft Live samples = refl
of_the_draft Buffer samples = refl

pub others_are_uncorrected : OthersAreUncorrected
others_are_uncorrected terms notes = (
  λ e. ap (λ (k : Callers). correction_in (clock_if (follows terms.mode k) (clock_samples notes))) e ∙ of_the_draft terms.mode (clock_samples notes),
  λ e. ap (λ (m : Mode). correction_in (clock_if (follows m terms.callers) (clock_samples notes))) e,
)

slow_if : (b : Bool) (samples : List Sample) → AreInOrder samples → IsSlow (correction_in (clock_if b samples)) (last_time samples)
slow_if true samples order =
    let h = corrections_are_slow samples order in
    record { above = omega (arith, ints, h.0.above, h.1); below = omega (arith, ints, h.0.below, h.1) }
slow_if false samples order = record { above = omega (arith, ints); below = omega (arith, ints) }

pub sessions_are_slow : SessionsAreSlow
sessions_are_slow terms notes order = slow_if (follows terms.mode terms.callers) (clock_samples notes) order

pub packets_are_due_near : PacketsAreDueNear
packets_are_due_near terms notes time stamp = due_times_are_near terms.delay (correction_of terms notes) time stamp
