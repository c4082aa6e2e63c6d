use Rattle.std.proofs.Common.{◌≡◌, ℕ, ap, sym, subst, refl, Bool, ◌∙◌, ◌&&◌, ◌^◌, arith}
use Rattle.std.specs.Prelude.{nat_le, nat_lt}
use Rattle.srt_types.specs.Window.{word_of}
use Rattle.srt_recvbuf.specs.Receiving.{Receiving}
use Rattle.srt_recvbuf.specs.Stands.{StandsFor, own_range}
use Rattle.srt_recvbuf.specs.Cells.{width_of, cell_is_received}
use Rattle.srt_recvbuf.proofs.Buffers.{offset_found, offset_not_found, nothing_requested, range_requested, received_still, taken, with_dropped, with_fields}
use Rattle.srt_recvbuf.proofs.buffer.RecvBuf.dropped.Goals as goal

pub returns-in_default : goal.returns-in_default
returns-in_default c width initial origin r h =
    let first = c.args.first in
    let last = c.args.last in
    let long = offset_not_found (word_of last) (word_of first) (2 ^ 30) last.small (c.in_default.ensures.value (word_of first) (omega (arith, first.small))) in
    let P : Receiving → Type 0 = λ x. StandsFor width initial origin c.args.self.now x in
    subst P (sym (nothing_requested width initial first last r first.small last.small long)) h

pub returns : goal.returns
returns c width initial origin r h =
    let first = c.args.first in
    let last = c.args.last in
    let s = c.args.self.now in
    let n = c.find_point.new.self in
    let w : c.width.result ≡ width = c.width.ensures.value ∙ h.0 in
    let wide = c.drop_range.ensures.width ∙ h.0 in
    let o = offset_found (word_of last) (word_of first) (2 ^ 30) c.in-Some.span (c.in-Some.ensures.value (word_of first) (omega (arith, first.small))) in
    let q = own_range initial first last in
    let from = c.overlap-from.result.0 in
    let end = c.overlap-from.result.1 in
    let given : ℕ → Bool = λ d. nat_le from d && nat_lt d end in
    let names = λ (d : ℕ). taken width initial r.front (word_of s.front) from end c.in-Some.span d first last first.small last.small
    h.1.front_is o.0 (omega (arith, c.overlap-from.ensures.inside, w)) (λ lt. c.overlap-from.ensures.places d (omega (arith, lt, w))) in
    let all = with_dropped width initial origin (word_of s.front) s.end s.point n.point _ _ given q r h.1 names c.drop_range.ensures.cells
    c.find_point.ensures.not_missing (λ lt. c.find_point.ensures.missing (omega (arith, lt, wide))) in
    let kept = with_fields width initial origin _ _ _ _ n.point _ _ _ _ (ap word_of c.find_point.ensures.front) c.find_point.ensures.window
    c.find_point.ensures.end refl all in
    let P : Receiving → Type 0 = λ x. StandsFor width initial origin c.settle.new.self x in
    subst P (sym (range_requested width initial first last r first.small last.small (omega (arith, o.0, o.1))))
    (c.settle.ensures width initial origin _ (ap width_of c.find_point.ensures.window ∙ wide, kept))

pub invariant_of-self-clause-nothing_past_end : goal.invariant_of-self-clause-nothing_past_end
invariant_of-self-clause-nothing_past_end c d past =
    ap cell_is_received (c.drop_range.ensures.cells d) ∙ received_still _ _ ∙ c.args.self.now.nothing_past_end d past

pub invariant_of-self-clause-nothing_between : goal.invariant_of-self-clause-nothing_between
invariant_of-self-clause-nothing_between c d low high =
    ap cell_is_received (c.drop_range.ensures.cells d) ∙ received_still _ _ ∙ c.args.self.now.nothing_between d low high

pub invariant_of-self-clause-packet_at_next : goal.invariant_of-self-clause-packet_at_next
invariant_of-self-clause-packet_at_next c here =
    ap cell_is_received (c.drop_range.ensures.cells c.args.self.now.next) ∙ received_still _ _ ∙ c.args.self.now.packet_at_next here
