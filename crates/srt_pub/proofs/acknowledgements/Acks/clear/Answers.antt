use Rattle.srt_pub.proofs.Fulls.{acks_first}
use Rattle.srt_pub.specs.Kept.{book_of}
use Rattle.srt_pub.proofs.acknowledgements.Acks.clear.Goals as goal

pub returns : goal.returns
unfolding book_of
returns c width = (c.clear.ensures, acks_first width)
