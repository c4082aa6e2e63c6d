use Rattle.srt_sendbuf.proofs.OneByOne.{lost_one_by_one, new_one_by_one}
use Rattle.srt_sendbuf.proofs.laws.one_by_one.Goals as goal

pub returns : goal.returns
returns c = record { lost_ones = lost_one_by_one; new_ones = new_one_by_one }
