use Rattle.srt_log.proofs.Puts.{followed}
use Rattle.srt_log.proofs.writing.put_ended.Goals as goal

pub returns : goal.returns
returns c =
    followed _ _ _ _ _
    (followed _ _ _ _ _
    (followed _ _ _ _ _
    (followed _ _ _ _ _
    (followed _ _ _ _ _
    (followed _ _ _ _ _ (followed _ _ _ _ _ (followed _ _ _ _ _ c.put_caller.ensures c.put.ensures) c.put_id.ensures) c.put_reason.ensures)
    c.put-2.ensures)
    c.put_number.ensures)
    c.put-3.ensures)
    c.put_counts.ensures)
    c.put_clock.ensures
