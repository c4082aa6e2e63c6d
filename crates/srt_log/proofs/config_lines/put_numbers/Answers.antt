use Rattle.srt_log.proofs.Puts.{followed}
use Rattle.srt_log.proofs.config_lines.put_numbers.Goals as goal

pub returns : goal.returns
returns c =
    followed _ _ _ _ _
    (followed _ _ _ _ _
    (followed _ _ _ _ _
    (followed _ _ _ _ _
    (followed _ _ _ _ _
    (followed _ _ _ _ _ (followed _ _ _ _ _ c.put_number.ensures c.put.ensures) c.put_number-2.ensures)
    c.put-2.ensures)
    c.put_number-3.ensures)
    c.put-3.ensures)
    c.put_number-4.ensures)
    c.put-4.ensures
