use Rattle.srt_pub.proofs.session.Publisher.note_delivered.Goals as goal
use Rattle.std.proofs.Common.{Option, ap, sym, subst, ◌∙◌}
use Rattle.std.specs.Prelude.{is_some}
use Rattle.srt_recvbuf.specs.Receiving.{Arrival, next_due, after_next}
use Rattle.srt_pub.specs.Calls.{after_delivery}
use Rattle.srt_pub.specs.Stands.{StandsFor}
use Rattle.srt_pub.proofs.Counting.{passes_if}
use Rattle.srt_pub.proofs.Advancing.{ahead, followed}

pub returns-clause-stands : goal.returns-clause-stands
returns-clause-stands c terms initial opening stamp caller time m n h =
    let r = m.receiving in
    let width = terms.width in
    let room = c.room_that_counts-counted.result in
    let o = next_due time room r in
    let next = c.room_that_counts-counted.ensures terms initial opening stamp caller m h time in
    let now_ahead = ahead terms initial opening stamp caller time room c.args.self.now c.note_delivered-is_due.new.self m h
    (c.note_delivered-is_due.ensures.stands width initial opening time r n h.buffer) in
    subst (λ (x : Option Arrival). StandsFor terms initial opening stamp caller c.follow.new.self (after_delivery terms x m)) (sym next)
    (followed terms initial opening stamp caller c.follow.new.self m o
    (c.follow.ensures.stands terms initial opening stamp caller m (after_next width o r)
    (c.front-front.ensures width initial opening r h.buffer) (c.ack_point-point.ensures width initial opening r h.buffer)
    (passes_if width time room r c.note_delivered-is_due.result
    (sym (c.note_delivered-is_due.ensures.answer width initial opening time r n h.buffer)))
    now_ahead))

pub returns-clause-answer : goal.returns-clause-answer
returns-clause-answer c terms initial opening stamp caller time m n h =
    c.note_delivered-is_due.ensures.answer terms.width initial opening time m.receiving n h.buffer
    ∙ sym (ap is_some (c.room_that_counts-counted.ensures terms initial opening stamp caller m h time))
