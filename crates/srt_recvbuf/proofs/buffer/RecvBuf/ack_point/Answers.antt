use Rattle.std.proofs.Common.{◌+◌, ◌%◌, ◌^◌, ap, sym, ◌∙◌, arith}
use Rattle.srt_recvbuf.proofs.Buffers.{point_is}
use Rattle.srt_recvbuf.proofs.buffer.RecvBuf.ack_point.Goals as goal

pub returns : goal.returns
returns c width initial origin r h =
    let s = c.args.self.now in
    let p = point_is width initial origin _ _ _ _ r h.1 (omega (arith, s.point_inside, h.0)) in
    c.add.ensures.number (initial + r.front) (sym h.1.front_is) ∙ ap (λ x. x % 2 ^ 31) (omega (arith, p))
