use Rattle.srt_recvbuf.proofs.OneByOne.{others_wait, passes_one_by_one}
use Rattle.srt_recvbuf.proofs.Unbroken.{unbroken_one_by_one}
use Rattle.srt_recvbuf.proofs.laws.one_by_one.Goals as goal

pub returns : goal.returns
returns c = record { wait = others_wait; pass = passes_one_by_one; unbroken = unbroken_one_by_one }
