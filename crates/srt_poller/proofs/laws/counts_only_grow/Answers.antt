use Rattle.srt_poller.proofs.Growing.{counts_only_grow}
use Rattle.srt_poller.proofs.laws.counts_only_grow.Goals as goal

pub returns : goal.returns
returns c = counts_only_grow
