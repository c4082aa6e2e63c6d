use Rattle.srt_log.proofs.Puts.{followed}
use Rattle.srt_log.proofs.writing.put_refused.Goals as goal

pub returns : goal.returns
returns c = followed _ _ _ _ _ (followed _ _ _ _ _ c.put_peer.ensures c.put.ensures) c.put_asked.ensures
