use Rattle.srt_log.specs.Times.{text_of}
use Rattle.srt_log.proofs.times.text_of.Goals as goal

pub returns : goal.returns
unfolding text_of
returns c = cc
