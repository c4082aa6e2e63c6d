use Rattle.srt_replay.proofs.SentLines.{lines_tell, tapes_isolated}
use Rattle.srt_replay.proofs.laws.tapes.Goals as goal

pub returns-clause-lines : goal.returns-clause-lines
returns-clause-lines c = lines_tell

pub returns-clause-isolated : goal.returns-clause-isolated
returns-clause-isolated c = tapes_isolated
