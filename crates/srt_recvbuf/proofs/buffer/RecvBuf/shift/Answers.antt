use Rattle.std.proofs.Common.{◌+◌, ap, sym, ◌∙◌, refl, arith}
use Rattle.srt_types.specs.Window.{word_of}
use Rattle.srt_recvbuf.specs.Cells.{width_of}
use Rattle.srt_recvbuf.proofs.Buffers.{shifted, with_fields}
use Rattle.srt_recvbuf.proofs.buffer.RecvBuf.shift.Goals as goal

pub returns : goal.returns
returns c width initial origin r h =
    let s = c.args.self.now in
    let n = c.find_point.new.self in
    let wide = c.slide_by.ensures.width ∙ h.0 in
    let front = c.add-self.ensures.number (initial + r.front) (sym h.1.front_is) in
    let all = shifted width initial origin (word_of s.front) (word_of c.add-self.result) s.end s.point n.point c.args.count _ _ r h.1
    (omega (arith, front)) c.slide_by.ensures.cells
    (λ d lo lt. c.find_point.ensures.not_missing d (omega (arith, lo, c.saturating_sub-self-2.ensures)) lt)
    (λ lt. c.find_point.ensures.missing (omega (arith, lt, wide))) in (
      ap width_of c.find_point.ensures.window ∙ wide,
      with_fields width initial origin _ _ _ _ n.point _ _ _ _ (ap word_of c.find_point.ensures.front) c.find_point.ensures.window
          (c.find_point.ensures.end ∙ c.saturating_sub-self.ensures) refl all,
    )
