use Rattle.srt_status.proofs.Puts.{joined_last}
use Rattle.srt_status.specs.Metrics.{head_text}
use Rattle.srt_status.proofs.metrics.put_head.Goals as goal

pub returns : goal.returns
unfolding head_text
returns c =
    let whole = joined_last _ _ _ _ _ _ c.in_ok-put_head_line.ensures c.put_head_line-2.ensures in whole
