use Rattle.std.proofs.Common.{arith}
use Rattle.srt_recvbuf.proofs.Buffers.{point_is}
use Rattle.srt_recvbuf.proofs.buffer.RecvBuf.available.Goals as goal

pub returns : goal.returns
returns c width initial origin r h =
    let s = c.args.self.now in
    let p = point_is width initial origin _ _ _ _ r h.1 (omega (arith, s.point_inside, h.0)) in
    omega (arith, p, h.0, c.width.ensures.value)
