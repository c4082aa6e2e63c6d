use Rattle.srt_log.proofs.Puts.{followed}
use Rattle.srt_log.proofs.config_lines.put_few_indexes.Goals as goal

pub returns : goal.returns
returns c = followed _ _ _ _ _ c.put_number.ensures c.put.ensures
