use Rattle.srt_status.proofs.Puts.{joined_last}
use Rattle.srt_status.specs.Metrics.{lobby_text}
use Rattle.srt_status.proofs.metrics.put_lobby.Goals as goal

pub returns : goal.returns
unfolding lobby_text
returns c =
    let whole = joined_last _ _ _ _ _ _ c.in_ok-put_head.ensures c.put_all_lobby_refusals.ensures in whole
