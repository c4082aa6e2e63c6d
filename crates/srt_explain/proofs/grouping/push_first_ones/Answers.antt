use Rattle.srt_explain.proofs.Grouped.{one_more}
use Rattle.srt_explain.proofs.grouping.push_first_ones.Goals as goal

pub loop-at-preserved : goal.loop-at-preserved
loop-at-preserved c =
    let put = rw c.is_told-told.ensures at c.in_ok-push_if.ensures in
    one_more c.args.list.now.items c.args.warnings.now c.loop-at.at _ _ _ c.loop-at-test.true c.loop-at.invariant put
