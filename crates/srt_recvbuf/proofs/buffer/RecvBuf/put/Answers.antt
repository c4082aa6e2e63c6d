use Rattle.std.proofs.Common.{◌≡◌, ◌+◌, ap, sym, subst, ◌∙◌, arith}
use Rattle.srt_types.specs.Window.{counted_from, word_of, in_window}
use Rattle.srt_recvbuf.specs.Receiving.{Receiving, with_number, put_of}
use Rattle.srt_recvbuf.specs.Stands.{StandsFor}
use Rattle.srt_recvbuf.specs.Cells.{width_of}
use Rattle.std.proofs.lemmas.Int.{to_z-of_z}
use Rattle.srt_recvbuf.proofs.Buffers.{own_none, own_some, with_packet, with_fields, cell_received, repeated, new_one, is_repeat, is_new}
use Rattle.srt_recvbuf.proofs.buffer.RecvBuf.put.Goals as goal

pub returns-in_default-clause-stands : goal.returns-in_default-clause-stands
returns-in_default-clause-stands c width initial origin r time t h =
    let s = c.args.self.now in
    let w : c.width.result ≡ width = c.width.ensures.value ∙ h.0 in
    let o = own_none initial r.front c.width.result (word_of c.args.number) (word_of s.front) h.1.front_is c.in_default.ensures.value in
    let e = ap (λ x. in_window (counted_from initial (word_of c.args.number)) r.front x) (sym w) ∙ o in
    let P : Receiving → Type 0 = λ x. StandsFor width initial origin s x in
    subst P (sym (ap (λ x. with_number x c.args.payload.bytes.now time r) e)) h

pub returns-in_default-clause-answer : goal.returns-in_default-clause-answer
returns-in_default-clause-answer c width initial origin r h =
    let s = c.args.self.now in
    let w : c.width.result ≡ width = c.width.ensures.value ∙ h.0 in
    let o = own_none initial r.front c.width.result (word_of c.args.number) (word_of s.front) h.1.front_is c.in_default.ensures.value in
    let e = ap (λ x. in_window (counted_from initial (word_of c.args.number)) r.front x) (sym w) ∙ o in
    sym (ap (λ x. put_of x r) e)

pub returns-then-is-clause-stands : goal.returns-then-is-clause-stands
returns-then-is-clause-stands c width initial origin r time t h =
    let s = c.args.self.now in
    let w : c.width.result ≡ width = c.width.ensures.value ∙ h.0 in
    let o = own_some initial r.front c.width.result (word_of c.args.number) (word_of s.front) c.in-Some.offset h.1.front_is c.in-Some.ensures.value in
    let e = ap (λ x. in_window (counted_from initial (word_of c.args.number)) r.front x) (sym w) ∙ o in
    let got = cell_received width initial origin _ _ _ _ r h.1 c.in-Some.offset ∙ sym c.is.ensures ∙ c.if-is.true in
    let P : Receiving → Type 0 = λ x. StandsFor width initial origin s x in
    subst P (sym (ap (λ x. with_number x c.args.payload.bytes.now time r) e ∙ repeated r (r.front + c.in-Some.offset) c.args.payload.bytes.now time got)) h

pub returns-then-is-clause-answer : goal.returns-then-is-clause-answer
returns-then-is-clause-answer c width initial origin r h =
    let s = c.args.self.now in
    let w : c.width.result ≡ width = c.width.ensures.value ∙ h.0 in
    let o = own_some initial r.front c.width.result (word_of c.args.number) (word_of s.front) c.in-Some.offset h.1.front_is c.in-Some.ensures.value in
    let e = ap (λ x. in_window (counted_from initial (word_of c.args.number)) r.front x) (sym w) ∙ o in
    let got = cell_received width initial origin _ _ _ _ r h.1 c.in-Some.offset ∙ sym c.is.ensures ∙ c.if-is.true in
    sym (ap (λ x. put_of x r) e ∙ is_repeat r (r.front + c.in-Some.offset) got)

pub returns-clause-stands : goal.returns-clause-stands
returns-clause-stands c width initial origin r time t h =
    let s = c.args.self.now in
    let n = c.find_point.new.self in
    let d = c.in-Some.offset in
    let w : c.width.result ≡ width = c.width.ensures.value ∙ h.0 in
    let o = own_some initial r.front c.width.result (word_of c.args.number) (word_of s.front) d h.1.front_is c.in-Some.ensures.value in
    let e = ap (λ x. in_window (counted_from initial (word_of c.args.number)) r.front x) (sym w) ∙ o in
    let got = cell_received width initial origin _ _ _ _ r h.1 d ∙ sym c.is.ensures ∙ c.if-is.false in
    let is = ap (λ x. with_number x c.args.payload.bytes.now time r) e ∙ new_one r (r.front + d) c.args.payload.bytes.now time got in
    let wide = c.fill.ensures.width ∙ h.0 in
    let fits = c.ranges.due in
    let cells = rw to_z-of_z at c.fill.ensures.cells in
    let all = with_packet width initial origin (word_of s.front) s.end s.point n.point d _ _ r c.args.payload.bytes.now c.args.due time h.1
    t cells c.find_point.ensures.low c.find_point.ensures.not_missing (λ lt. c.find_point.ensures.missing (omega (arith, lt, wide))) in (
      ap width_of c.find_point.ensures.window ∙ wide,
      with_fields width initial origin _ _ _ _ n.point _ _ _ _ (ap word_of c.find_point.ensures.front) c.find_point.ensures.window
          (c.find_point.ensures.end ∙ c.max-self.ensures) is all,
    )

pub returns-clause-answer : goal.returns-clause-answer
returns-clause-answer c width initial origin r h =
    let s = c.args.self.now in
    let w : c.width.result ≡ width = c.width.ensures.value ∙ h.0 in
    let o = own_some initial r.front c.width.result (word_of c.args.number) (word_of s.front) c.in-Some.offset h.1.front_is c.in-Some.ensures.value in
    let e = ap (λ x. in_window (counted_from initial (word_of c.args.number)) r.front x) (sym w) ∙ o in
    let got = cell_received width initial origin _ _ _ _ r h.1 c.in-Some.offset ∙ sym c.is.ensures ∙ c.if-is.false in
    sym (ap (λ x. put_of x r) e ∙ is_new r (r.front + c.in-Some.offset) got)
