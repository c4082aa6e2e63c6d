use Rattle.std.proofs.Common.{rules, ◌≡◌, true}
use Rattle.srt_explain.specs.Resemblance.{same_at}
use Rattle.srt_explain.proofs.Passing.{one_more}
use Rattle.srt_explain.proofs.resemblance.agreeing_front.Goals as goal

pub loop-at-preserved : goal.loop-at-preserved
loop-at-preserved c =
    let test = same_at c.args.one.now c.args.other.now in
    let passes : test c.loop-at.at ≡ true = search rules in
    one_more test _ c.loop-at.at c.min-most.result c.loop-at-test.true passes c.loop-at.invariant
