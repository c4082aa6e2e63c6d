use Rattle.srt_pub.proofs.Calling.{delivers}
use Rattle.srt_pub.proofs.Windows.{beyond}
use Rattle.srt_pub.proofs.laws.deliveries.Goals as goal

pub returns : goal.returns
returns c terms initial opening stamp caller m h =
    delivers terms m
    (record { orderly = h.orderly; beyond = beyond terms.width initial opening c.args.publisher.now.buffer m.receiving h.buffer })
