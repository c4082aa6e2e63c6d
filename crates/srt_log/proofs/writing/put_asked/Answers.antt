use Rattle.srt_log.proofs.Puts.{followed}
use Rattle.srt_log.proofs.writing.put_asked.Goals as goal

pub returns : goal.returns
returns c = followed _ _ _ _ _ (followed _ _ _ _ _ c.put_code.ensures c.put_name.ensures) c.put_refused_by.ensures
