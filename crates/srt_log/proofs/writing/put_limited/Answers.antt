use Rattle.srt_log.proofs.Puts.{followed}
use Rattle.srt_log.proofs.writing.put_limited.Goals as goal

pub returns : goal.returns
returns c =
    followed _ _ _ _ _
    (followed _ _ _ _ _
    (followed _ _ _ _ _ (followed _ _ _ _ _ c.put_escaped.ensures c.put.ensures) (rw c.number.ensures at c.put_code.ensures))
    c.put-2.ensures)
    c.put_limits.ensures
