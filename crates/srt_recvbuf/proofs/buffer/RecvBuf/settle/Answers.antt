use Rattle.std.proofs.Common.{◌≡◌, sym, subst, ◌∙◌, arith}
use Rattle.srt_recvbuf.specs.Receiving.{Receiving}
use Rattle.srt_recvbuf.specs.Stands.{StandsFor}
use Rattle.srt_recvbuf.proofs.Buffers.{settled_is}
use Rattle.srt_recvbuf.proofs.buffer.RecvBuf.settle.Goals as goal

pub returns : goal.returns
returns c width initial origin r h =
    let f = c.find-dropped.ensures in
    let w : c.width.result ≡ width = c.width.ensures.value ∙ h.0 in
    let e = settled_is width initial origin _ _ _ c.find-dropped.result _ r h.1 (omega (arith, f.high, w))
    (λ k lt. f.before k (omega arith) lt) (λ lt. f.here (omega (arith, lt, w))) in
    let P : Receiving → Type 0 = λ x. StandsFor width initial origin c.shift.new.self x in
    subst P (sym e) (c.shift.ensures width initial origin r h)
