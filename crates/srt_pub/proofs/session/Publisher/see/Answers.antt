use Rattle.srt_pub.proofs.session.Publisher.see.Goals as goal
use Rattle.std.proofs.Common.{◌+◌, arith}
use Rattle.srt_recvbuf.specs.Receiving.{top, end_of}
use Rattle.srt_pub.proofs.Goings.{end_within}
use Rattle.srt_pub.proofs.Windows.{beyond}

pub returns-clause-stands : goal.returns-clause-stands
returns-clause-stands c terms initial opening stamp caller m h =
    let r = m.receiving in
    let width = terms.width in
    let ends = end_within width r (beyond width initial opening c.args.self.now.buffer r h.buffer) in
    let s = c.steps-seen.ensures (initial + r.front) (initial + top r) (omega arith) (omega (arith, ends, h.narrow))
    (c.front.ensures width initial opening r h.buffer) (c.top.ensures width initial opening r h.buffer) in
    record {
      agreed = h.agreed;
      buffer = h.buffer;
      log = c.see.ensures terms r.front _ m.seen (end_of r.arrivals) m.notes (omega (arith, s)) h.log;
      orderly = h.orderly;
      seen = omega arith;
      narrow = h.narrow;
      counts = h.counts;
    }
