use Rattle.srt_pub.proofs.session.Publisher.next_due.Goals as goal
use Rattle.std.proofs.Common.{◌≡◌, ◌+◌, ◌-◌, ◌∙◌, ap, sym, arith}
use Rattle.std.specs.Prelude.{option_copied, option_map}
use Rattle.srt_recvbuf.specs.Receiving.{Arrival}
use Rattle.srt_pub.proofs.Goings.{due_filled}

pub returns-clause-payload : goal.returns-clause-payload
returns-clause-payload c terms initial opening stamp caller time m n h =
    c.next_due.ensures.answer terms.width initial opening time m.receiving n h.buffer
    ∙ sym (ap (option_map (λ (a : Arrival). a.payload)) (c.room_that_counts.ensures terms initial opening stamp caller m h time))

pub returns-clause-some : goal.returns-clause-some
returns-clause-some c terms initial opening stamp caller m late h =
    let time = c.args.now - opening in
    let n : c.args.now ≡ opening + time = omega (arith, late) in
    due_filled time c.room_that_counts.result m.receiving (option_copied c.next_due.result) h.orderly.filled
    (c.next_due.ensures.answer terms.width initial opening time m.receiving n h.buffer)
