use Rattle.std.proofs.Common.{ap, ◌∙◌, arith}
use Rattle.srt_pub.specs.Publishing.{shorter}
use Rattle.srt_pub.proofs.Intervals.{none_shorter, next_shorter}
use Rattle.srt_pub.proofs.rates.Meter.shorter.Goals as goal

pub loop-place-init : goal.loop-place-init
loop-place-init c = record { counted = λ times h. none_shorter times c.args.time; few = omega arith }

pub loop-place-preserved : goal.loop-place-preserved
loop-place-preserved c = record {
  counted = λ times h. next_shorter times c.args.time c.loop-place.place _ _ _ (c.loop-place.invariant.counted times h)
      (c.interval.ensures times h) c.one_if_shorter-count.ensures.value;
  few = omega (arith, c.loop-place.invariant.few, c.one_if_shorter-count.ensures.small);
}

pub returns : goal.returns
returns c times h =
    c.loop-place.invariant.counted times h
    ∙ ap (shorter times c.args.time) (omega (arith, c.loop-place-test.false, c.loop-place.auto.place-end))
