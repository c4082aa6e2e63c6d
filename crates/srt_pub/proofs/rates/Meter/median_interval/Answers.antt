use Rattle.std.proofs.Common.{ap, ◌∙◌, arith}
use Rattle.srt_pub.specs.Publishing.{longest_up_to_median}
use Rattle.srt_pub.proofs.Intervals.{none_longest, next_longest}
use Rattle.srt_pub.proofs.rates.Meter.median_interval.Goals as goal

pub loop-at-init : goal.loop-at-init
loop-at-init c times h = none_longest times

pub loop-at-preserved : goal.loop-at-preserved
loop-at-preserved c times h =
    next_longest times c.loop-at.at _ _ _ (c.loop-at.invariant times h) (c.up_to_median.ensures times h) c.max-median.ensures

pub returns : goal.returns
returns c times h =
    c.loop-at.invariant times h ∙ ap (longest_up_to_median times) (omega (arith, c.loop-at-test.false, c.loop-at.auto.at-end))
