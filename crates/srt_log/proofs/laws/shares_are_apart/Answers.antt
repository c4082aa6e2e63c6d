use Rattle.srt_log.proofs.Apart.{apart}
use Rattle.srt_log.proofs.laws.shares_are_apart.Goals as goal

pub returns : goal.returns
returns c = apart
