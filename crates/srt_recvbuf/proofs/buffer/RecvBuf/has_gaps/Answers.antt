use Rattle.std.proofs.Common.{arith}
use Rattle.std.proofs.lemmas.Bool.Decides.{nat_tests}
use Rattle.srt_recvbuf.proofs.Buffers.{point_is}
use Rattle.srt_recvbuf.proofs.buffer.RecvBuf.has_gaps.Goals as goal

pub returns : goal.returns
returns c width initial origin r h =
    let s = c.args.self.now in
    let p = point_is width initial origin _ _ _ _ r h.1 (omega (arith, s.point_inside, h.0)) in
    let e = h.1.end_is in
    grind (arith, nat_tests)
