use Rattle.srt_sendbuf.proofs.OneByOne.{times_go_on, expiry_goes_on}
use Rattle.srt_sendbuf.proofs.laws.times.Goals as goal

pub returns : goal.returns
returns c = record { queueing = times_go_on; expiry = expiry_goes_on }
