use Rattle.srt_recvbuf.proofs.Buffers.{window_ends, drops_end}
use Rattle.srt_pub.proofs.laws.fronts.Goals as goal

pub returns : goal.returns
returns c terms initial opening stamp caller m h =
    record {
      front = h.orderly.settled;
      received = window_ends terms.width initial opening c.args.publisher.now.buffer m.receiving h.buffer;
      dropped = drops_end terms.width initial opening c.args.publisher.now.buffer m.receiving h.buffer;
    }
