use Rattle.srt_log.proofs.Puts.{followed}
use Rattle.srt_log.proofs.config_lines.put_others.Goals as goal

pub returns : goal.returns
returns c = followed _ _ _ _ _ (followed _ _ _ _ _ (followed _ _ _ _ _ c.put_other.ensures c.put_other-2.ensures) c.put_other-3.ensures) c.put_end.ensures
