use Rattle.srt_status.proofs.Puts.{joined_last}
use Rattle.srt_status.specs.Metrics.{causes_text}
use Rattle.srt_status.proofs.metrics.put_causes.Goals as goal

pub returns : goal.returns
unfolding causes_text
returns c =
    let whole = joined_last _ _ _ _ _ _ c.in_ok-put_head.ensures c.put_all_lobby_causes.ensures in whole
