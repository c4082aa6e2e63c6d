use Rattle.srt_log.proofs.Apart.{keeps_shares}
use Rattle.srt_log.proofs.laws.most_shared_lines.Goals as goal

pub returns : goal.returns
returns c = keeps_shares
