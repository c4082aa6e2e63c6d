use Rattle.srt_status.proofs.Puts.{joined_last}
use Rattle.srt_status.specs.Metrics.{ends_text}
use Rattle.srt_status.proofs.metrics.put_ends.Goals as goal

pub returns : goal.returns
unfolding ends_text
returns c =
    let whole = joined_last _ _ _ _ _ _ c.in_ok-put_head.ensures c.put_all_ends.ensures in whole
